-- The list of a sheet has its length and is in order, and sizes that are too large for 16 bits are refused.
--   sheet-ordered   == refusals 2 and 3 never apply to it
--   too_wide        == a sheet with more than 1,023 columns is refused for its sizes
--   too-high        == so is one with more than 1,023 rows
--   number, place   == of a refusal
-- Assumes nothing.
use Prim.Native.Nat.{ℕ, suc, ◌+◌, ◌*◌, ◌/◌, ◌%◌, ◌≤◌, ◌<◌}
use mathlib.Core.Path.{◌≡◌, sym, ap, ◌∙◌}
use mathlib.Core.List.{List}
use native.Mathlib.Nat.{div-add-mod', div-lt_iff_lt-mul, mod-lt, suc-mul, mul-le-mul_right}
use native.Mathlib.Omega.{arith}
use lib.Arith.{digits_lt}
use lib.ListN.{length}
use Rattle.answers.specs.Paper.Answers.{Verdict, accepted, refused}
use Rattle.matrix.specs.Paper.Code.{Matrix, entry}
use Rattle.matrix.specs.Paper.Check.{check_of}
use Rattle.matrix.specs.Paper.PlainCheck.{Sizes, BadEntry, Never}
use Rattle.matrix.specs.Paper.PlainCheck.{Reads, sizes_out, length_wrong, entry_bad, weight_bad, weight_none, rows_overlap, fine}
use Rattle.matrix.proofs.PlainCheck.{entries-clear, reads, reads_only}
use Rattle.sheet.specs.Paper.Sheet.{block_rows, block_columns, block_size, set_in, shift_at}
use Rattle.sheet.specs.Paper.PlainSheet.{IsSheet}
use Rattle.sheet.specs.Paper.SheetMatrix.{matrix_of_sheet}
use Rattle.sheet.specs.Paper.Claims.{SheetOrdered}
use Rattle.sheet.specs.Parts.{place_at, entry_of}
use Rattle.sheet.proofs.Entries.{place-below, place_up, list-long, entry-is}

-- ---- sizes that are too large

-- a sheet with more than 1,023 columns is refused for its sizes
pub too_wide : (bs : List ℕ) → 1023 < block_columns bs * block_size bs → check_of (matrix_of_sheet bs) ≡ refused 1 0
unfolding matrix_of_sheet
too_wide bs h = sym (reads_only (matrix_of_sheet bs) (refused 1 0) (sizes_out (λ s. omega (arith, s.n_most))))

-- so is one with more than 1,023 rows
pub too-high : (bs : List ℕ) → 1023 < block_rows bs * block_size bs → check_of (matrix_of_sheet bs) ≡ refused 1 0
unfolding matrix_of_sheet
too-high bs h = sym (reads_only (matrix_of_sheet bs) (refused 1 0) (sizes_out (λ s. omega (arith, s.m_most))))

-- ---- which refusal a verdict is

-- the number of a refusal, and its place
abbrev pub number : Verdict → ℕ
number accepted = 0
number (refused k x) = k

abbrev pub place : Verdict → ℕ
place accepted = 0
place (refused k x) = x

-- a list of m × rho entries is not refused by 2
never-two : {H : Matrix} {v : Verdict} → Reads H v → length H.list ≡ H.m * H.rho → number v ≡ 2 → ⊥
never-two (sizes_out h) whole e = omega arith
never-two (length_wrong s h) whole e = h whole
never-two (entry_bad s l f) whole e = omega arith
never-two (weight_bad s l c f) whole e = omega arith
never-two (weight_none s l c w h) whole e = omega arith
never-two (rows_overlap s l c w h f) whole e = omega arith
never-two (fine a) whole e = omega arith

-- a list without a bad entry is not refused by 3
never-three : {H : Matrix} {v : Verdict} → Reads H v → (Sizes H → Never (BadEntry H) (length H.list)) → number v ≡ 3 → ⊥
never-three (sizes_out h) clear e = omega arith
never-three (length_wrong s h) clear e = omega arith
never-three (entry_bad s l f) clear e = clear s _ f.below f.here
never-three (weight_bad s l c f) clear e = omega arith
never-three (weight_none s l c w h) clear e = omega arith
never-three (rows_overlap s l c w h f) clear e = omega arith
never-three (fine a) clear e = omega arith

-- ---- the order of the list

module _ (bs : List ℕ) (s : IsSheet bs) where
  -- the list has the length that its sizes say
  list-whole : length (matrix_of_sheet bs).list ≡ (matrix_of_sheet bs).m * (matrix_of_sheet bs).rho
  unfolding matrix_of_sheet
  list-whole = list-long bs s

  -- the block row of row i
  row_in : (i : ℕ) → i < block_rows bs * block_size bs → i / block_size bs < block_rows bs
  row_in i l = (div-lt_iff_lt-mul {k = block_size bs} {x = i} {y = block_rows bs} s.size_some).1 l

  -- row i is row i % Z of block row i / Z
  entry_at : (i k : ℕ) → i < block_rows bs * block_size bs → k < set_in bs 0 → entry (matrix_of_sheet bs) i k ≡ entry_of bs (i / block_size bs) (i % block_size bs) k
  entry_at i k l h =
      let Z : ℕ = block_size bs in
      ap (λ (x : ℕ). entry (matrix_of_sheet bs) x k) (sym (div-add-mod' i Z))
      ∙ entry-is bs s (i / Z) (i % Z) k (row_in i l) (mod-lt i s.size_some) h

  -- a row's entries are below n
  one_below : (r i k : ℕ) → r < block_rows bs → k < set_in bs 0 → entry_of bs r i k < block_columns bs * block_size bs
  unfolding entry_of
  one_below r i k l h = digits_lt {c = block_size bs} (place-below bs s r k l h) (mod-lt (i + shift_at bs (r * set_in bs 0 + k)) s.size_some)

  -- an entry is above the one before it in its row: it stands in a later block
  one_up : (r i k : ℕ) → r < block_rows bs → suc k < set_in bs 0 → entry_of bs r i k < entry_of bs r i (suc k)
  unfolding entry_of
  one_up r i k l h =
      let Z : ℕ = block_size bs in
      let before : suc (place_at bs r k) * Z ≤ place_at bs r (suc k) * Z = mul-le-mul_right Z (place_up bs s r k l h) in
      omega (arith, before, suc-mul (place_at bs r k) Z, mod-lt (i + shift_at bs (r * set_in bs 0 + k)) s.size_some)

  -- the same of the list's entries
  entry-below : (i k : ℕ) → i < (matrix_of_sheet bs).m → k < (matrix_of_sheet bs).rho → entry (matrix_of_sheet bs) i k < (matrix_of_sheet bs).n
  unfolding matrix_of_sheet
  entry-below i k l h = omega (arith, entry_at i k l h, one_below (i / block_size bs) (i % block_size bs) k (row_in i l) h)

  entry-up : (i k : ℕ) → i < (matrix_of_sheet bs).m → suc k < (matrix_of_sheet bs).rho → entry (matrix_of_sheet bs) i k < entry (matrix_of_sheet bs) i (suc k)
  unfolding matrix_of_sheet
  entry-up i k l h =
      omega (arith, entry_at i k l (omega arith), entry_at i (suc k) l h, one_up (i / block_size bs) (i % block_size bs) k (row_in i l) h)

-- refusals 2 and 3 never apply to it
pub sheet-ordered : (bs : List ℕ) → IsSheet bs → SheetOrdered bs
sheet-ordered bs s =
    let H : Matrix = matrix_of_sheet bs in
    record {
      never_length = λ x e. never-two (reads H) (list-whole bs s) (ap number e);
      never_entry = λ x e. never-three (reads H) (λ z. entries-clear H z (list-whole bs s) (entry-below bs s) (entry-up bs s)) (ap number e);
    }
