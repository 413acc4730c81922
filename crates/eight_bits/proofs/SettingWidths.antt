-- A setting of a width up to 8.
--   setting-eight   == its test is the one whose widths end at 8
-- Assumes nothing.
use mathlib.Core.Path.{◌≡◌, ap}
use mathlib.Core.Bool.{Bool, ◌&&◌}
use Prim.Native.Nat.{◌≤◌}
use lib.Dec.{leb}
use Rattle.quantiser_levels.specs.Paper.Samples.{Setting, step_fits, setting_fits, setting_fits_up_to}
use Rattle.eight_bits.proofs.Widths.{ranges-eight}

pub setting-eight : (S : Setting) → S.bits ≤ 8 → setting_fits S ≡ setting_fits_up_to 8 S
unfolding setting_fits
setting-eight S h = ap (λ (t : Bool). t && (leb S.kind 1 && step_fits S.step)) (ranges-eight S.bits S.limit h)
