-- The column weights of a sheet's matrix.
--   sheet-weights   == a column weighs as much as its block column has set places, and gamma is the smallest weight
-- Assumes nothing.
use Prim.Native.Nat.{ℕ, ◌+◌, ◌*◌, ◌/◌, ◌%◌, ◌≤◌, ◌<◌}
use mathlib.Core.Path.{◌≡◌, ap, ◌∙◌}
use mathlib.Core.List.{List}
use native.Mathlib.Nat.{div-add-mod', div-lt_iff_lt-mul, mod-lt, mul-one}
use native.Mathlib.Omega.{arith}
use lib.Arith.{digits_lt}
use Rattle.counting.specs.Paper.Sum.{sum_below, same}
use Rattle.counting.proofs.Sums.{sum-cong, sum_bound, sum-mul, sum-swap, sum-flat}
use Rattle.counting.proofs.Least.{least-le, least_at}
use Rattle.counting.proofs.Residues.{turns-once, same_digits}
use Rattle.matrix.specs.Paper.Code.{entry, has, weight}
use Rattle.sheet.specs.Paper.Sheet.{block_rows, block_columns, block_size, set_at, set_in, set_down, shift_at}
use Rattle.sheet.specs.Paper.PlainSheet.{IsSheet}
use Rattle.sheet.specs.Paper.SheetMatrix.{matrix_of_sheet}
use Rattle.sheet.specs.Paper.Claims.{SheetWeights}
use Rattle.sheet.specs.Parts.{place_at, entry_of}
use Rattle.sheet.proofs.Entries.{set-bit, place-count, shift-near, entry-is}

-- no block column has more set places than there are block rows
down-most : (bs : List ℕ) (c : ℕ) → set_down bs c ≤ block_rows bs
unfolding set_down
down-most bs c =
    omega (arith, sum_bound (block_rows bs) 1 {f = λ r. set_at bs r c} (λ r l. set-bit bs r c), mul-one (block_rows bs))

module _ (bs : List ℕ) (s : IsSheet bs) where
  -- entry k of a row is column t of block column c where its place is c and its turned shift is t
  one_at : (r i k c t : ℕ) → r < block_rows bs → i < block_size bs → k < set_in bs 0 → t < block_size bs
      → same (entry (matrix_of_sheet bs) (r * block_size bs + i) k) (c * block_size bs + t)
      ≡ same (place_at bs r k) c * same ((i + shift_at bs (r * set_in bs 0 + k)) % block_size bs) t
  unfolding entry_of
  one_at r i k c t l h m b =
      let x : ℕ = (i + shift_at bs (r * set_in bs 0 + k)) % block_size bs in
      ap (λ (e : ℕ). same e (c * block_size bs + t)) (entry-is bs s r i k l h m)
      ∙ same_digits (block_size bs) (place_at bs r k) c x t (mod-lt (i + shift_at bs (r * set_in bs 0 + k)) s.size_some) b

  -- a shifted identity has each of its columns once
  block-once : (r k c t : ℕ) → r < block_rows bs → k < set_in bs 0 → t < block_size bs
      → sum_below (block_size bs) (λ i. same (place_at bs r k) c * same ((i + shift_at bs (r * set_in bs 0 + k)) % block_size bs) t) ≡ same (place_at bs r k) c
  block-once r k c t l h b =
      let shift : ℕ = shift_at bs (r * set_in bs 0 + k) in
      let place : ℕ = same (place_at bs r k) c in
      sum-mul (block_size bs) place (λ i. same ((i + shift) % block_size bs) t)
      ∙ ap (λ (x : ℕ). place * x) (turns-once (block_size bs) shift t (shift-near bs s r k l h) b)
      ∙ mul-one place

  -- the rows of a block row have a column as often as its block is set
  block-weight : (r c t : ℕ) → r < block_rows bs → c < block_columns bs → t < block_size bs
      → sum_below (block_size bs) (λ i. has (matrix_of_sheet bs) (r * block_size bs + i) (c * block_size bs + t)) ≡ set_at bs r c
  unfolding has matrix_of_sheet
  block-weight r c t l h b =
      let Z : ℕ = block_size bs in
      let rho : ℕ = set_in bs 0 in
      let f : ℕ → ℕ → ℕ = λ i k. same (place_at bs r k) c * same ((i + shift_at bs (r * rho + k)) % Z) t in
      sum-cong Z (λ i m. sum-cong rho (λ k n. one_at r i k c t l m n b))
      ∙ sum-swap Z rho f
      ∙ sum-cong rho (λ k n. block-once r k c t l n b)
      ∙ place-count bs s r c l h

  -- a column weighs as much as its block column has set places
  column-weight : (c t : ℕ) → c < block_columns bs → t < block_size bs → weight (matrix_of_sheet bs) (c * block_size bs + t) ≡ set_down bs c
  unfolding weight set_down matrix_of_sheet
  column-weight c t h b =
      sum-flat (block_rows bs) (block_size bs) (λ i. has (matrix_of_sheet bs) i (c * block_size bs + t))
      ∙ sum-cong (block_rows bs) (λ r l. block-weight r c t l h b)

  -- no column weighs less than gamma
  weight-most : (j : ℕ) → j < (matrix_of_sheet bs).n → (matrix_of_sheet bs).gamma ≤ weight (matrix_of_sheet bs) j
  unfolding matrix_of_sheet
  weight-most j l =
      let Z : ℕ = block_size bs in
      let c : j / Z < block_columns bs = (div-lt_iff_lt-mul {k = Z} {x = j} {y = block_columns bs} s.size_some).1 l in
      omega (
        arith,
        ap (weight (matrix_of_sheet bs)) (div-add-mod' j Z),
        column-weight (j / Z) (j % Z) c (mod-lt j s.size_some),
        least-le (block_rows bs) (block_columns bs) (set_down bs) (j / Z) c,
      )

  -- a column weighs gamma: the first of a block column with the fewest set places
  weight-least : (j : ℕ) × (j < (matrix_of_sheet bs).n) × (weight (matrix_of_sheet bs) j ≡ (matrix_of_sheet bs).gamma)
  unfolding matrix_of_sheet
  weight-least =
      let f = least_at (block_rows bs) (block_columns bs) (set_down bs) s.columns_some (λ c l. down-most bs c) in
      (f.0 * block_size bs + 0, digits_lt {c = block_size bs} f.1 s.size_some, column-weight f.0 0 f.1 s.size_some ∙ f.2)

-- a column weighs as much as its block column has set places, and gamma is the smallest weight
pub sheet-weights : (bs : List ℕ) → IsSheet bs → SheetWeights bs
sheet-weights bs s = record { weighs = column-weight bs s; fewest = weight-most bs s; attained = weight-least bs s }
