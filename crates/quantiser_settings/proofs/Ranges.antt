-- Laws for the crates above: refusal 6 in plain words, the bounds of levels and of hard bits.
--   ranges-read, read-ranges     == the width and the limit are in range exactly where 2 ≤ b ≤ 12 and the limit is at most 255
--   fits-reads, reads-fits       == a setting is in range exactly where each of its numbers is
--   largest-some, largest-most   == the largest level is from 1 to 2,047
--   level-bound                  == no level lies beyond the largest
--   all-finite                   == where the search for a sample that is not finite finds none, every sample is finite
--   hard-bit, hard-bit-at        == a hard bit is a bit
-- Assumes nothing.
use mathlib.Core.Path.{◌≡◌, refl, sym, subst}
use mathlib.Core.Bool.{Bool, true, false, not, cond, ◌&&◌}
use mathlib.Core.List.{List}
use Prim.Native.Nat.{ℕ, zero, suc, min, ◌-◌, ◌*◌, ◌^◌, ◌≤◌, ◌<◌}
use native.Mathlib.Omega.{arith}
use lib.Dec.{T, leb}
use lib.Pow.{pow_mono}
use lib.IntN.{pos, nat_abs}
use lib.Ieee.{Float, nan, fin, lt}
use lib.Ieee.Scale.{finite}
use lib.ListN.{length, get_or}
use borrow.Author.Tests.{leb-true, le-leb, not-false}
use Rattle.counting.proofs.Searches.{and_left, and_right, first-clear}
use Rattle.quantiser_levels.specs.Paper.Samples.{Setting, units_of, negative, most_bits, ranges_fit, setting_fits, largest, gain, nearest_whole, most_level}
use Rattle.quantiser_levels.specs.Paper.Samples.{magnitude, signed, level_of, hard_of, hard_bit, not_finite, first_not_finite}
use Rattle.quantiser_settings.specs.Paper.Ranges.{InRange}

-- ---- refusal 6

-- the width and the limit are in range exactly where 2 ≤ b ≤ 12 and the limit is at most 255
pub ranges-read : (b limit : ℕ) → ranges_fit b limit ≡ true → (2 ≤ b) × (b ≤ most_bits) × (limit ≤ 255)
ranges-read b limit e =
    let e₁ = and_right (leb 2 b) (leb b most_bits && leb limit 255) e in (
      leb-true 2 b (and_left (leb 2 b) (leb b most_bits && leb limit 255) e),
      leb-true b most_bits (and_left (leb b most_bits) (leb limit 255) e₁),
      leb-true limit 255 (and_right (leb b most_bits) (leb limit 255) e₁),
    )

pub read-ranges : (b limit : ℕ) → 2 ≤ b → b ≤ most_bits → limit ≤ 255 → ranges_fit b limit ≡ true
read-ranges b limit least most few = simp (le-leb _ _ least, le-leb _ _ most, le-leb _ _ few)

-- a setting is in range exactly where each of its numbers is
pub fits-reads : (S : Setting) → setting_fits S ≡ true → InRange S
unfolding setting_fits
fits-reads S e =
    let r = ranges-read S.bits S.limit (and_left (ranges_fit S.bits S.limit) _ e) in
    let e₁ = and_right (ranges_fit S.bits S.limit) _ e in
    record {
      least = r.0;
      most = r.1;
      limit = r.2;
      kind = leb-true S.kind 1 (and_left (leb S.kind 1) _ e₁);
      step = and_right (leb S.kind 1) _ e₁;
    }

pub reads-fits : (S : Setting) → InRange S → setting_fits S ≡ true
unfolding setting_fits
reads-fits S r =
    simp (read-ranges S.bits S.limit r.least r.most r.limit, le-leb _ _ r.kind, r.step)

-- ---- levels

-- the largest level of 2 to 12 bits has at most 11 bits and is not 0
pub largest-some : (b : ℕ) → 2 ≤ b → 0 < largest b
largest-some b h =
    let p : 2 ^ 1 ≤ 2 ^ (b - 1) = pow_mono {i = 1} (omega arith) in
    omega arith

-- which the name `most_level` stands for
most-level : largest most_bits ≡ most_level
most-level = refl

pub largest-most : (b : ℕ) → b ≤ most_bits → largest b ≤ most_level
largest-most b h =
    let p : 2 ^ (b - 1) ≤ 2 ^ (most_bits - 1) = pow_mono {j = most_bits - 1} (omega arith) in
    omega arith

signed-abs : (s : Bool) (k : ℕ) → nat_abs (signed s k) ≡ k
signed-abs true zero = refl
signed-abs true (suc k) = refl
signed-abs false k = refl

-- no level lies beyond the largest
pub level-bound : (S : Setting) (x : Float) → nat_abs (level_of S x) ≤ largest S.bits
unfolding level_of magnitude
level-bound S x =
    omega (arith, signed-abs (negative x) (min (largest S.bits) (nearest_whole (gain S * units_of x) (units_of S.step))))

-- ---- finite samples

-- where the first place is the number of samples, each sample is finite
pub all-finite : (xs : List Float) → first_not_finite xs ≡ length xs → (j : ℕ) → j < length xs → T (finite (get_or xs j nan))
unfolding not_finite
all-finite xs e j l =
    let h : not (finite (get_or xs j nan)) ≡ false = first-clear (not_finite xs) (length xs) (omega arith) j l in
    subst T (sym (not-false (finite (get_or xs j nan)) h)) tt

-- ---- hard bits

-- a hard bit is a bit
pub hard-bit : (x : Float) → hard_of x < 2
unfolding hard_of
hard-bit x = go (lt (fin false 0 (pos 0)) x)
  where
    go : (b : Bool) → cond b 1 0 < 2
    go true = omega arith
    go false = omega arith

pub hard-bit-at : (xs : List Float) (j : ℕ) → hard_bit xs j < 2
unfolding hard_bit
hard-bit-at xs j = hard-bit (get_or xs j nan)
