-- Laws of bit patterns: which are those of finite floats.
--   finite-pattern   == unless the exponent's field is all ones
--   no_nan           == and then the pattern is no NaN's
-- Assumes nothing.
use mathlib.Core.Path.{◌≡◌, refl, sym, ◌∙◌}
use mathlib.Core.Bool.{Bool, true, false, not, cond, ◌&&◌}
use Prim.Native.Nat.{ℕ, zero, suc, ◌+◌, ◌%◌, ◌/◌}
use lib.Dec.{T, eqb}
use lib.Ieee.{nan, inf, binary32, odd, of_fields, of_bits, nan_bits}
use lib.Ieee.Scale.{finite}
use Rattle.counting.proofs.Searches.{never}

finite-odd : (d : ℕ) (s : Bool) (q k l : ℕ) → finite (odd d s q k l) ≡ true
unfolding odd
finite-odd d s zero k l = refl
finite-odd d s (suc q) k l = refl

-- the exponent's field x and the digits t
finite-fields : (s : Bool) (x t : ℕ) → finite (of_fields binary32 s x t) ≡ not (eqb x 255)
unfolding of_fields
finite-fields s zero t = finite-odd 24 s t 0 149
finite-fields s (suc x) t = go (eqb (suc x) 255) (eqb t 0)
  where
    go : (a b : Bool) → finite (cond a (cond b (inf s) nan) (odd 24 s (8388608 + t) x 149)) ≡ not a
    go true true = refl
    go true false = refl
    go false b = finite-odd 24 s (8388608 + t) x 149

-- a pattern is that of a finite float unless its exponent's field is all ones
pub finite-pattern : (p : ℕ) → finite (of_bits binary32 p) ≡ not (eqb (p % 2147483648 / 8388608) 255)
unfolding of_bits
finite-pattern p = finite-fields _ (p % 2147483648 / 8388608) (p % 8388608)

-- and then it is no NaN's
pub no_nan : (p : ℕ) → finite (of_bits binary32 p) ≡ true → T (not (nan_bits binary32 p))
unfolding nan_bits
no_nan p e = go (eqb (p % 2147483648 / 8388608) 255) (eqb (p % 8388608) 0) (sym (finite-pattern p) ∙ e)
  where
    go : (a b : Bool) → not a ≡ true → T (not (a && not b))
    go true b h = absurd (never (sym h))
    go false b h = tt
