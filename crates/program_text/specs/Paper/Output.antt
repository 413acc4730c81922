-- What the program prints. (Document 01, "Worked by hand": the paragraph on the program.)
--   line ws              == the words ws one space apart, and the line's end
--   heading, short_text  == the first line, and the last where the input ends too early
--   refused_text k x     == the line of a refusal that ends the run: its number and its place
--   outcome_text o       == the word of an outcome
--   said_text s w        == what a block's line says after its number: s, and the word w where s is a report
--   block_text i s w     == the line of block i
-- Assumes nothing.
use Rattle.std.specs.Prelude.{ℕ, zero, suc, List, [], ◌∷◌, ◌++◌}
use Rattle.answers.specs.Paper.Answers.{Said, refusal, report, count, stored, acceptance}
use Rattle.program_numerals.specs.Paper.Numerals.{ascii, decimal, hex}

-- "fields one space apart"
unfoldable pub line : List (List ℕ) → List ℕ
line [] = ascii "\n"
line (w ∷ []) = w ++ ascii "\n"
line (w ∷ v ∷ ws) = w ++ ascii " " ++ line (v ∷ ws)

-- "The heading line is always printed first"
unfoldable pub heading : List ℕ
heading = ascii "block end rounds failing changed word\n"

-- "prints "short" last"
unfoldable pub short_text : List ℕ
short_text = line (ascii "short" ∷ [])

-- "prints "refused", number and place, and ends the run"
unfoldable pub refused_text : ℕ → ℕ → List ℕ
refused_text k x = line (ascii "refused" ∷ decimal k ∷ decimal x ∷ [])

-- the outcome's word: 0 is decoded, and a whole call that has not decoded has failed
abbrev pub outcome_text : ℕ → List ℕ
outcome_text zero = ascii "decoded"
outcome_text (suc o) = ascii "failed"

-- "outcome, rounds, failing, changed, word"; "refused", number and place
unfoldable pub said_text : Said → List ℕ → List ℕ
said_text (report o r f c) w = line (outcome_text o ∷ decimal r ∷ decimal f ∷ decimal c ∷ hex w ∷ [])
said_text (refusal k x) w = refused_text k x
-- no block's line says these
said_text (count k) w = []
said_text (stored k) w = []
said_text acceptance w = []

-- "block number from 0" comes first in the line of a block
unfoldable pub block_text : ℕ → Said → List ℕ → List ℕ
block_text i s w = decimal i ++ ascii " " ++ said_text s w
