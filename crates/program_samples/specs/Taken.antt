-- What taking the samples of a block asks and leaves.
--   Takeable S bs n L z x o   == the setting is accepted, the bytes are n samples, L is the largest level, and the arrays are a running decoder's
--   Taken S bs n r ..         == r is the place of the first sample that is not finite; all are placed where there is none, else the arrays stay
-- Assumes nothing.
use Rattle.std.specs.Prelude.{◌≡◌, true, List, ℕ, ◌*◌, ◌<◌, ◌≤◌, length}
use Rattle.byte_numbers.specs.Paper.Numbers.{samples_in}
use Rattle.quantiser_levels.specs.Paper.Samples.{Setting, setting_fits, largest, first_not_finite}
use Rattle.quantiser_guess.specs.Placed.{Placed}

pub record Takeable (S : Setting) (bs : List ℕ) (n L : ℕ) (z x o : List ℕ) : Type 0 where
  pub setting : setting_fits S ≡ true
  pub middle : L ≡ largest S.bits
  pub bytes : length bs ≡ 4 * n
  pub few : n ≤ 1023
  pub long_bits : length z ≡ 1023
  pub long_kept : length x ≡ 1023
  pub long_marks : length o ≡ 1023

-- the bits z, the kept levels x and the marks o become z', x' and o'
pub record Taken (S : Setting) (bs : List ℕ) (n r : ℕ) (z z' x x' o o' : List ℕ) : Type 0 where
  pub place : r ≡ first_not_finite (samples_in bs)
  pub placed : n ≤ r → Placed S (samples_in bs) z z' x x' o o'
  pub kept_bits : r < n → z' ≡ z
  pub kept_levels : r < n → x' ≡ x
  pub kept_marks : r < n → o' ≡ o
