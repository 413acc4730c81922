-- When a sheet's list is refused by 4.
--   sheet-heavy   == for a block column with more than 32 set places alone, at the first column of the lowest such
-- Assumes nothing.
use Prim.Native.Nat.{ℕ, ◌+◌, ◌*◌, ◌-◌, ◌/◌, ◌%◌, ◌≤◌, ◌<◌}
use mathlib.Core.Path.{◌≡◌, sym, ap, subst, ◌∙◌}
use mathlib.Core.List.{List}
use mathlib.Core.Logic.{inl, inr}
use native.Mathlib.Nat.{div-add-mod', div-lt_iff_lt-mul, mod-lt, suc-mul, mul-le-mul_right}
use native.Mathlib.Decide.{ℕ_discrete, dec_lt}
use native.Mathlib.Omega.{arith}
use lib.Arith.{digits_lt}
use Rattle.counting.specs.Paper.Search.{FirstAt}
use Rattle.answers.specs.Paper.Answers.{Verdict, refused}
use Rattle.matrix.specs.Paper.Code.{Matrix}
use Rattle.matrix.specs.Paper.PlainCheck.{BadWeight}
use Rattle.matrix.specs.Paper.PlainCheck.{Reads, sizes_out, length_wrong, entry_bad, weight_bad, weight_none, rows_overlap, fine}
use Rattle.matrix.proofs.PlainCheck.{reads}
use Rattle.sheet.specs.Paper.Sheet.{block_columns, block_size, set_down}
use Rattle.sheet.specs.Paper.PlainSheet.{IsSheet}
use Rattle.sheet.specs.Paper.SheetMatrix.{matrix_of_sheet}
use Rattle.sheet.specs.Paper.Claims.{SheetHeavy}
use Rattle.sheet.proofs.Order.{number, place}
use Rattle.sheet.proofs.Weights.{sheet-weights}

module _ (bs : List ℕ) (s : IsSheet bs) where
  abbrev H : Matrix
  H = matrix_of_sheet bs

  -- a column that is too heavy or too light stands in a block column with more than 32 set places
  heavy : (c t : ℕ) → c < block_columns bs → t < block_size bs → BadWeight H (c * block_size bs + t) → 32 < set_down bs c
  unfolding matrix_of_sheet
  heavy c t l h (inl m) = absurd (omega (arith, m, (sheet-weights bs s).fewest (c * block_size bs + t) (digits_lt l h)))
  heavy c t l h (inr m) = omega (arith, m, (sheet-weights bs s).weighs c t l h)

  -- and every column of such a block column is too heavy
  all-heavy : (c t : ℕ) → c < block_columns bs → t < block_size bs → 32 < set_down bs c → BadWeight H (c * block_size bs + t)
  all-heavy c t l h m = inr (omega (arith, m, (sheet-weights bs s).weighs c t l h))

  -- refusal 4 has the first such column as its place: that no column weighs gamma does not occur
  fourth : {v : Verdict} → Reads H v → (x : ℕ) → v ≡ refused 4 x → FirstAt (BadWeight H) H.n x
  fourth (sizes_out h) x e = absurd (omega (arith, ap number e))
  fourth (length_wrong z h) x e = absurd (omega (arith, ap number e))
  fourth (entry_bad z l f) x e = absurd (omega (arith, ap number e))
  fourth (weight_bad z l c f) x e = subst (FirstAt (BadWeight H) H.n) (ap place e) f
  fourth (weight_none z l c w h) x e =
      let a = (sheet-weights bs s).attained in
      absurd (h a.0 a.1 a.2)
  fourth (rows_overlap z l c w h f) x e = absurd (omega (arith, ap number e))
  fourth (fine a) x e = absurd (omega (arith, ap number e))

-- for a block column with more than 32 set places alone, at the first column of the lowest such
pub sheet-heavy : SheetHeavy
unfolding matrix_of_sheet
sheet-heavy bs x s e =
    (c, inside, sym cell ∙ omega (arith, begins), here, lower)
  where
    Z : ℕ
    Z = block_size bs

    c : ℕ
    c = x / Z

    t : ℕ
    t = x % Z

    f : FirstAt (BadWeight (matrix_of_sheet bs)) (block_columns bs * Z) x
    f = fourth bs s (reads (matrix_of_sheet bs)) x e

    cell : c * Z + t ≡ x
    cell = div-add-mod' x Z

    inside : c < block_columns bs
    inside = (div-lt_iff_lt-mul {k = Z} {x = x} {y = block_columns bs} s.size_some).1 f.below

    last : t < Z
    last = mod-lt x s.size_some

    here : 32 < set_down bs c
    here = heavy bs s c t inside last (rw cell f.here)

    begins : t ≡ 0
    begins =
        elim (ℕ_discrete t 0) [
          | yes z ↦ z
          | no z ↦ absurd (f.before (c * Z + (t - 1)) (omega (arith, cell, z)) (all-heavy bs s c (t - 1) inside (omega (arith, last)) here))
        ]

    lower : (d : ℕ) → d < c → set_down bs d ≤ 32
    lower d l =
        elim (dec_lt 32 (set_down bs d)) [
          | yes h ↦
              absurd (f.before (d * Z + 0) (omega (arith, cell, mul-le-mul_right Z l, suc-mul d Z, s.size_some)) (all-heavy bs s d 0 (omega (arith, inside)) s.size_some h))
          | no h ↦ omega (arith, h)
        ]
