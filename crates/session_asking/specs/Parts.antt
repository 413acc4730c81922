-- A session's record, word and levels in document 01's terms, and the parts in which opening and a step ask.
--   out_of_range b limit k    == what refusal 20 asks of a working record
--   far L R j                 == the level at place j lies beyond ±L
--   beyond_in n L ..          == refusal 23 of a word and levels
--   known_verdict H r, lent_verdict H w o h   == what a step asks of its record and its matrix, and of what is lent with them
-- Assumes nothing.
use Rattle.std.specs.Prelude.{ℕ, Bool, not, ◌||◌, List, leb, ltb, ℤ, pos, nat_abs, length, get_or}
use Rattle.counting.specs.Paper.Search.{any_below}
use Rattle.answers.specs.Paper.Answers.{Verdict, accepted, refuse_when, and_then}
use Rattle.packed_word.specs.Paper.Packed.{spare_set}
use Rattle.matrix.specs.Paper.Code.{Matrix}
use Rattle.matrix.specs.Paper.Check.{check_of}
use Rattle.quantiser_levels.specs.Paper.Samples.{ranges_fit}
use Rattle.syndrome.specs.Paper.Failing.{word_verdict}
use Rattle.session_record.specs.Paper.Record.{Record}
use Rattle.session_asking.specs.Paper.Asked.{Held, unusable, ended, other_sizes, not_opened, beyond}

-- "b or the round limit out of range or k not below the round limit"
abbrev pub out_of_range : ℕ → ℕ → ℕ → Bool
out_of_range bits limit k = not (ranges_fit bits limit) || leb limit k

-- "a level beyond ±L"
abbrev pub far : ℕ → List ℤ → ℕ → Bool
far L R j = ltb L (nat_abs (get_or R j (pos 0)))

-- refusal 23 of a word and levels
abbrev pub beyond_in : ℕ → ℕ → List ℕ → List ℤ → Bool
beyond_in n L word levels = spare_set n word || any_below (far L levels) n

-- 20, 21, 1 to 5, 22: what a step asks of its record and its matrix
unfoldable pub known_verdict : Matrix → Record → Verdict
known_verdict H r =
    and_then (and_then (refuse_when 20 (unusable r) accepted) (refuse_when 21 (ended r) accepted))
    (and_then (check_of H) (refuse_when 22 (other_sizes H r) accepted))

-- 7, 9, 23: and of what is lent with them
unfoldable pub lent_verdict : Matrix → List ℕ → List ℤ → Held → Verdict
lent_verdict H w o h =
    refuse_when 7 (not_opened H.n o)
    (and_then (word_verdict H.n w (length h.word) (length h.levels)) (refuse_when 23 (beyond H h.rec h) accepted))
