-- Widths up to 8: their test, and their largest level.
--   ranges-eight    == the test of width and limit is the one whose widths end at 8
--   largest-eight   == no level of these widths lies beyond what is taken back
-- Assumes nothing.
use mathlib.Core.Path.{◌≡◌}
use Prim.Native.Nat.{ℕ, ◌-◌, ◌^◌, ◌≤◌}
use native.Mathlib.Omega.{arith}
use borrow.Author.Tests.{le-leb}
use lib.Pow.{pow_mono}
use Rattle.quantiser_levels.specs.Paper.Samples.{most_bits, ranges_fit, ranges_fit_up_to, largest}
use Rattle.quantiser_widths.specs.Paper.Widths.{most_old}

-- the width and the limit
pub ranges-eight : (b limit : ℕ) → b ≤ 8 → ranges_fit b limit ≡ ranges_fit_up_to 8 b limit
ranges-eight b limit h = rw (le-leb b most_bits (omega arith), le-leb b 8 (omega arith))

-- the largest level of 8 bits is what is taken back
pub largest-eight : (b : ℕ) → b ≤ 8 → largest b ≤ most_old
largest-eight b h =
    let p : 2 ^ (b - 1) ≤ 2 ^ 7 = pow_mono {j = 7} (omega arith) in
    omega arith
