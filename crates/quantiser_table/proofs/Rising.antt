-- Laws of levels by bit patterns: they rise with the pattern, so that the least pattern of a level is found by halving.
--   by-rise           == with any scale a larger pattern has no smaller level
--   magnitude-rise    == with any setting a larger pattern has no smaller level
--   level-plain       == the level of a pattern below that of infinity is its own magnitude
--   by_most           == no level is beyond the largest
--   between-all       == it is one of all
--   between_lower, between-upper   == a pattern between them bounds it above or below, by its own level
--   between-one       == where they meet it is found
--   beyond            == beyond the largest level the least pattern is that of infinity
--   scaled            == the least pattern by the scale of a setting is that of the setting
-- Assumes nothing.
use mathlib.Core.Path.{◌≡◌, refl, sym, ap, ◌∙◌}
use mathlib.Core.Bool.{Bool, false}
use Prim.Native.Nat.{ℕ, zero, suc, min, ◌+◌, ◌*◌, ◌/◌, ◌^◌, ◌≤◌, ◌<◌}
use native.Mathlib.Nat.{le_trans, mul-le-mul_left, div-mul-le_self, le-div_iff_mul-le, zero-lt-suc, div-zero, le_refl}
use native.Mathlib.Decide.{dec_lt}
use native.Mathlib.Omega.{arith}
use borrow.Author.Tests.{le-leb, lt-leb}
use lib.Dec.{leb}
use lib.IntN.{pos}
use lib.Ieee.{binary32, of_bits}
use Rattle.counting.proofs.Searches.{first-none, first-at}
use Rattle.quantiser_levels.specs.Paper.Samples.{Setting, units_of, largest, gain, nearest_whole, magnitude, signed}
use Rattle.quantiser_levels.specs.Scale.{level_by, Scaled}
use Rattle.quantiser_table.specs.Least.{most_pattern, least_pattern}
use Rattle.quantiser_table.specs.Scales.{magnitude_by, least_by, Between}
use Rattle.quantiser_table.proofs.Patterns.{plus-below, units-rise}

-- a larger number has no smaller quotient; by 0 it is 0
div-rise : (m n d : ℕ) → m ≤ n → m / d ≤ n / d
div-rise m n zero h = rw (div-zero m, div-zero n) (le_refl 0)
div-rise m n (suc d) h = (le-div_iff_mul-le (zero-lt-suc d)).1 (le_trans (div-mul-le_self m (suc d)) h)

-- nor a smaller nearest whole number
nearest-rise : (x y d : ℕ) → x ≤ y → nearest_whole x d ≤ nearest_whole y d
unfolding nearest_whole
nearest-rise x y d h = div-rise _ _ (2 * d) (omega arith)

module _ (g t d : ℕ) where
  -- with any scale a larger pattern has no smaller level
  pub by-rise : (p q : ℕ) → p ≤ q → q < most_pattern → magnitude_by g t d p ≤ magnitude_by g t d q
  unfolding magnitude_by
  by-rise p q h l =
      let r : nearest_whole (g * units_of (of_bits binary32 p)) d ≤ nearest_whole (g * units_of (of_bits binary32 q)) d =
      nearest-rise _ _ d (mul-le-mul_left g (units-rise p q h l)) in
      omega arith

  -- the level of a pattern below that of infinity is its own magnitude
  pub level-plain : (p : ℕ) → p < most_pattern → level_by g t d (of_bits binary32 p) ≡ pos (magnitude_by g t d p)
  unfolding level_by magnitude_by
  level-plain p l = ap (λ (s : Bool). signed s (min t (nearest_whole (g * units_of (of_bits binary32 p)) d))) (plus-below p l)

  -- no level is beyond the largest
  pub by_most : (p : ℕ) → magnitude_by g t d p ≤ t
  unfolding magnitude_by
  by_most p = omega arith

  module _ {q : ℕ} where
    -- anywhere at first
    pub between-all : Between g t d q 0 most_pattern
    between-all = record { order = omega arith; most = omega arith; low = λ p l. absurd (omega arith); high = λ l. absurd (omega arith) }

    -- a pattern between that has a level of q or more bounds it above, any other below
    pub between_lower : {a b : ℕ} (c : ℕ) → a ≤ c → c < b → q ≤ magnitude_by g t d c → Between g t d q a b → Between g t d q a c
    between_lower c h l m i = record { order = h; most = omega (arith, i.most); low = i.low; high = λ k. m }

    pub between-upper : {a b : ℕ} (c : ℕ) → c < b → magnitude_by g t d c < q → Between g t d q a b → Between g t d q (c + 1) b
    between-upper c l m i =
        record {
          order = omega arith;
          most = i.most;
          low = λ p k. let r = by-rise p c (omega arith) (omega (arith, i.most)) in omega (arith, r);
          high = i.high;
        }

    -- where both bounds meet is the least pattern
    pub between-one : {a b : ℕ} → b ≤ a → Between g t d q a b → b ≡ least_by g t d q
    unfolding least_by
    between-one {a} {b} h i =
        elim (dec_lt b most_pattern) [
          | yes l ↦ sym (first-at test most_pattern b l (λ p m. below p (omega arith)) (le-leb q (magnitude_by g t d b) (i.high l)))
          | no n ↦
              let e : b ≡ most_pattern = omega (arith, i.most) in
              e ∙ sym (first-none test most_pattern (λ p m. below p (omega arith)))
        ]
      where
        test : ℕ → Bool
        test p = leb q (magnitude_by g t d p)

        below : (p : ℕ) → p < a → test p ≡ false
        below p l = lt-leb q (magnitude_by g t d p) (i.low p l)

    -- beyond the largest level it is the pattern of infinity
    pub beyond : t < q → most_pattern ≡ least_by g t d q
    beyond h =
        between-one {a = most_pattern} (omega arith)
        (record { order = omega arith; most = omega arith; low = λ p l. omega (arith, by_most p); high = λ l. absurd (omega arith) })

-- with any setting a larger pattern has no smaller level
pub magnitude-rise : (S : Setting) (p q : ℕ) → p ≤ q → q < most_pattern → magnitude S (of_bits binary32 p) ≤ magnitude S (of_bits binary32 q)
unfolding magnitude magnitude_by
magnitude-rise S p q h l = by-rise (gain S) (largest S.bits) (units_of S.step) p q h l

-- the least pattern by the scale of a setting is that of the setting
pub scaled : (S : Setting) {g t n k : ℕ} → Scaled S g t n k → (q : ℕ) → least_by g t (n * 2 ^ k) q ≡ least_pattern S q
unfolding least_by least_pattern magnitude magnitude_by
scaled S s q = rw (s.gains, s.tops, sym s.steps) refl
