-- What opening, a step and one round of it leave, in the program's terms.
--   blank                      == a record that stands for any
--   RoundLent H L word levels  == what one round asks
--   RoundLeft H L ..           == the word, the levels and the failing checks that one round leaves
-- Assumes nothing.
use Rattle.std.specs.Prelude.{ℕ, ◌≤◌, ◌<◌, ◌≡◌, List, ℤ, pos, nat_abs, length, get_or}
use Rattle.counting.specs.Paper.Lists.{listed, over}
use Rattle.packed_word.specs.Paper.Packed.{bytes_for, pack}
use Rattle.matrix.specs.Paper.Code.{Matrix, failing}
use Rattle.matrix.specs.Paper.PlainCheck.{Accepted}
use Rattle.iterative_rounds.specs.Paper.Rounds.{round_of}
use Rattle.session_record.specs.Paper.Record.{Record, empty}
use Rattle.session.specs.Paper.Steps.{state_in}
use Rattle.quantiser_levels.specs.Paper.Samples.{most_level}

-- "Opening .. replaces any record": one that stands for any
abbrev pub blank : Record
blank = record { state = empty; bits = 0; limit = 0; k = 0; n = 0; m = 0; rho = 0; gamma = 0 }

pub record RoundLent (H : Matrix) (L : ℕ) (word : List ℕ) (levels : List ℤ) : Type 0 where
  pub matrix : Accepted H
  pub largest : L ≤ most_level
  pub bytes : bytes_for H.n ≤ length word
  pub room : H.n ≤ length levels
  pub within : (j : ℕ) → j < H.n → nat_abs (get_or levels j (pos 0)) ≤ L

pub record RoundLeft (H : Matrix) (L : ℕ) (word word' : List ℕ) (levels levels' : List ℤ) (f : ℕ) : Type 0 where
  pub packed : word' ≡ over (pack H.n (round_of H L (state_in word levels)).z) word
  pub stored : levels' ≡ over (listed H.n (round_of H L (state_in word levels)).R) levels
  pub fails : f ≡ failing H (round_of H L (state_in word levels)).z
