-- A level R from -L to L kept as the number R + L, and one pass over an array of such levels.
-- Cutting at -L is then the subtraction of numbers, which stops at 0, and the bit is 1 above the middle L.
--   most_kept                   == the largest number that a level is kept as
--   biased L R                  == R + L
--   unbiased L x j              == the level that cell j of the array x stands for
--   next_level weight c x z v   == the next level, kept so, of a bit z with v failing checks of its `weight`
--   above_middle L x            == 1 where x is above the middle, else 0
--   Bounds                      == sizes small enough for the arrays, and levels up to the ceiling
--   Moved                       == bits and levels after the first n of them are brought to the next round
--   Narrow                      == weights that fit in eight bits
--   Bounded, Biased             == levels within their range, and an array that keeps them so
--   Restorable                  == such an array, and room for its levels
-- Assumes nothing.
use Rattle.std.specs.Prelude.{ℕ, suc, min, ◌+◌, ◌-◌, ◌*◌, ◌≤◌, ◌<◌, ◌≡◌, cond, List, eqb, ltb, ℤ, pos, negsuc, nat_abs, length, get_or}
use Rattle.std.proofs.Math.IntN.{sub_ℕ}
use Rattle.counting.specs.Paper.Sum.{flag}
use Rattle.counting.specs.Places.{at}
use Rattle.quantiser_levels.specs.Paper.Samples.{most_level}

-- 2L at the widest
abbrev pub most_kept : ℕ
most_kept = 4094

-- R + L, for R from -L on
abbrev pub biased : ℕ → ℤ → ℕ
biased L (pos k) = L + k
biased L (negsuc k) = L - suc k

-- and back
unfoldable pub unbiased : ℕ → List ℕ → ℕ → ℤ
unbiased L x j = sub_ℕ (at x j) L

-- a bit 0 rises by its failing checks, a bit 1 by its other checks
unfoldable pub next_level : ℕ → ℕ → ℕ → ℕ → ℕ → ℕ
next_level weight ceiling x z v = cond (eqb z 0) (min ceiling (x + 2 * v - weight)) (min ceiling (x + weight - 2 * v))

unfoldable pub above_middle : ℕ → ℕ → ℕ
above_middle L x = flag (ltb L x)

pub record Bounds (n ceiling : ℕ) (x : List ℕ) : Type 0 where
  pub columns : n ≤ 1023
  pub levels : ceiling ≤ most_kept
  pub within : (j : ℕ) → j < n → at x j ≤ ceiling

-- the first n bits z and levels x become z' and x' by the votes v, bit j having w j checks; the others stay
pub record Moved (v : List ℕ) (w : ℕ → ℕ) (n L ceiling : ℕ) (z x z' x' : List ℕ) : Type 0 where
  pub long_word : length z' ≡ 1023
  pub long_levels : length x' ≡ 1023
  pub levels : (j : ℕ) → j < n → at x' j ≡ next_level (w j) ceiling (at x j) (at z j) (at v j)
  pub bits : (j : ℕ) → j < n → at z' j ≡ above_middle L (at x' j)
  pub rest_word : (j : ℕ) → n ≤ j → at z' j ≡ at z j
  pub rest_levels : (j : ℕ) → n ≤ j → at x' j ≡ at x j

-- n weights that fit in eight bits
pub record Narrow (n : ℕ) (w : List ℕ) : Type 0 where
  pub columns : n ≤ 1023
  pub small : (j : ℕ) → j < n → at w j ≤ 255

-- n levels from -L to L
pub record Bounded (n L : ℕ) (R : List ℤ) : Type 0 where
  pub columns : n ≤ 1023
  pub room : n ≤ length R
  pub largest : L ≤ most_level
  pub within : (j : ℕ) → j < n → nat_abs (get_or R j (pos 0)) ≤ L

-- the array x becomes x': its first n cells keep the levels R, the others stay
pub record Biased (n L : ℕ) (R : List ℤ) (x x' : List ℕ) : Type 0 where
  pub long : length x' ≡ 1023
  pub each : (j : ℕ) → j < n → at x' j ≡ biased L (get_or R j (pos 0))
  pub rest : (j : ℕ) → n ≤ j → at x' j ≡ at x j

-- the first n cells keep levels from -L to L, and there is room for them
pub record Restorable (n L : ℕ) (x : List ℕ) (R : List ℤ) : Type 0 where
  pub columns : n ≤ 1023
  pub room : n ≤ length R
  pub largest : L ≤ most_level
  pub within : (j : ℕ) → j < n → at x j ≤ 2 * L
