-- The width of a stored level, and a small number with a sign as the bits of one.
--   cell         == the width of `Cell`
--   minus-fits   == minus a small number fits the width
--   minus-back   == the bits of minus a small number are read back as it
-- Assumes nothing.
use mathlib.Core.Path.{◌≡◌, ap, ◌∙◌, subst, sym}
use Prim.Native.Nat.{ℕ, zero, suc, ◌^◌, ◌<◌}
use native.Mathlib.Nat.{lt_of_le_of_lt, le-suc}
use lib.IntN.{ℤ, pos, neg_ℤ, ◌-ℤ◌, +ℤ_idl}
use lib.Pow.{pow_pos}
use mir.Syntax.{Width, w16}
use mir.Val.{SFits, to_z, of_z, hbits}
use mir.ValLaws.{to_z_pos, to_z-of_z}

-- the width of `Cell`
abbrev pub cell : Width
cell = w16

module _ (w : Width) where
  neg-fits : (n : ℕ) → n < 2 ^ hbits w → SFits w (neg_ℤ (pos n))
  neg-fits zero h = record { sfits = pow_pos (hbits w) }
  neg-fits (suc n) h = record { sfits = lt_of_le_of_lt (le-suc n) h }

  minus : (n : ℕ) → n < 2 ^ hbits w → pos 0 -ℤ to_z w n ≡ neg_ℤ (pos n)
  minus n h = ap (λ (z : ℤ). pos 0 -ℤ z) (to_z_pos w n h) ∙ +ℤ_idl (neg_ℤ (pos n))

  -- minus a small number fits the width
  pub minus-fits : (n : ℕ) → n < 2 ^ hbits w → SFits w (pos 0 -ℤ to_z w n)
  minus-fits n h = subst (SFits w) (sym (minus n h)) (neg-fits n h)

  -- the bits of minus a small number are read back as it
  pub minus-back : (n : ℕ) → n < 2 ^ hbits w → to_z w (of_z w (pos 0 -ℤ to_z w n)) ≡ neg_ℤ (pos n)
  minus-back n h = to_z-of_z w _ (minus-fits n h) ∙ minus n h
