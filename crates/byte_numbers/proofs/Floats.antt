-- Laws of the floats that stand in bytes.
--   length-samples   == how many there are
--   sample-of        == a float by its pattern
--   not-finite-at    == whether it is finite, by its pattern
-- Assumes nothing.
use mathlib.Core.Path.{◌≡◌, sym, ap}
use mathlib.Core.Bool.{not}
use mathlib.Core.List.{List}
use Prim.Native.Nat.{ℕ, ◌*◌, ◌/◌}
use lib.Ieee.{Float, binary32, of_bits}
use lib.Ieee.Scale.{finite}
use lib.ListN.{length}
use Rattle.counting.proofs.Writes.{length-listed}
use Rattle.byte_numbers.specs.Paper.Numbers.{number32, float, sample_in, samples_in, not_finite_in}

module _ (bs : List ℕ) where
  -- four bytes a float
  pub length-samples : length (samples_in bs) ≡ length bs / 4
  unfolding samples_in
  length-samples = length-listed (length bs / 4) (sample_in bs)

  -- a float by its pattern
  pub sample-of : (i p : ℕ) → p ≡ number32 bs (4 * i) → of_bits binary32 p ≡ sample_in bs i
  unfolding sample_in float
  sample-of i p e = ap (of_bits binary32) e

  -- whether it is finite, by its pattern
  pub not-finite-at : (i p : ℕ) → p ≡ number32 bs (4 * i) → not_finite_in bs i ≡ not (finite (of_bits binary32 p))
  unfolding not_finite_in
  not-finite-at i p e = ap (λ (x : Float). not (finite x)) (sym (sample-of i p e))
