-- What is promised of sheets: both ways, and what the two calls accept.
--   sheet-back     == a sheet is the sheet of its own matrix, byte for byte
--   list_back      == a matrix that a sheet describes is the matrix of its sheet
--   described      == a matrix is refused by 12 exactly where Z is 0 or no sheet with that Z describes it
--   sheet-unique   == a sheet is determined by its matrix and Z
--   calls_back     == what sheet to list accepts, list to sheet turns back
--   back-again     == what list to sheet accepts, sheet to list turns back
-- Assumes nothing.
use mathlib.Core.Path.{◌≡◌, refl, sym, ap, ap₂, subst, ◌∙◌}
use mathlib.Core.Bool.{true, false, not}
use mathlib.Core.List.{List}
use Prim.Native.Nat.{ℕ, ◌+◌, ◌*◌, ◌/◌, ◌<◌}
use native.Mathlib.Nat.{mul-div_cancel}
use native.Mathlib.Omega.{arith}
use lib.Arith.{digits_lt}
use lib.Dec.{ltb}
use lib.ListN.{length}
use borrow.Author.Tests.{le-ltb, not-false}
use Rattle.counting.specs.Paper.Sum.{sum_below, same}
use Rattle.counting.proofs.Sums.{sum-cong}
use Rattle.answers.specs.Paper.Answers.{accepted}
use Rattle.answers.proofs.Verdicts.{passed, passed_on}
use Rattle.packed_word.specs.Paper.Packed.{Bytes}
use Rattle.byte_numbers.specs.Paper.Numbers.{number16}
use Rattle.matrix.specs.Paper.Code.{Matrix}
use Rattle.matrix.specs.Paper.Check.{check_of}
use Rattle.matrix.proofs.PlainCheck.{accepted-is}
use Rattle.sheet.specs.Paper.Sheet.{block_rows, block_columns, block_size, map_bit, set_at, set_in, set_places, shift_at, no_sheet}
use Rattle.sheet.specs.Paper.PlainSheet.{IsSheet}
use Rattle.sheet.specs.Paper.SheetMatrix.{matrix_of_sheet}
use Rattle.sheet.specs.Paper.MatrixSheet.{sheet_of, describes}
use Rattle.sheet.specs.Paper.Calls.{to_list_verdict, to_sheet_verdict}
use Rattle.sheet.specs.Paper.Claims.{SheetBack, ListBack, SheetFor, Described, SheetUnique, CallsBack, BackAgain}
use Rattle.sheet.specs.Parts.{place_at, first_entry}
use Rattle.sheet.proofs.PlainSheet.{sheet-reads}
use Rattle.sheet.proofs.Entries.{places-set, place-below, place-count, shift-near, first-is}
use Rattle.sheet.proofs.Grids.{block-rows, first-place, first-shift, sheet-grid}
use Rattle.sheet.proofs.MadeBytes.{made-rows, made-columns, made-size, shift_of}
use Rattle.sheet.proofs.MadeMap.{in_rows, Blocks, set-of, places_of}
use Rattle.sheet.proofs.Made.{blocks-sheet, blocks-bytes, made_bytes}
use Rattle.sheet.proofs.Described.{describes-parts, parts-describe, describes-grid}
use Rattle.sheet.proofs.Alike.{Alike, alike-equal}

-- a number of two bytes
number_small : (bs : List ℕ) (p : ℕ) → Bytes bs → number16 bs p < 65536
unfolding number16 Bytes
number_small bs p small = omega (arith, small p, small (p + 1))

-- ---- from a sheet to its matrix and back

module _ (bs : List ℕ) (small : Bytes bs) (s : IsSheet bs) where
  -- the sheet's matrix, and the sheet of that
  abbrev own : Matrix
  own = matrix_of_sheet bs

  abbrev again : List ℕ
  again = sheet_of own (block_size bs)

  -- J, K and Z have 16 bits
  sizes-small : (block_rows bs < 65536) × (block_columns bs < 65536) × (block_size bs < 65536)
  unfolding block_rows block_columns block_size
  sizes-small = (number_small bs 0 small, number_small bs 2 small, number_small bs 4 small)

  -- the columns of the matrix in block columns
  block-columns : own.n / block_size bs ≡ block_columns bs
  unfolding matrix_of_sheet
  block-columns = mul-div_cancel (block_columns bs) s.size_some

  -- its row weight is the set places of a block row
  row-set : own.rho ≡ set_in bs 0
  unfolding matrix_of_sheet
  row-set = refl

  -- an entry of a first row is a column of the matrix
  first_below : (r k : ℕ) → r < block_rows bs → k < set_in bs 0 → first_entry own (block_size bs) r k < own.n
  unfolding first_entry matrix_of_sheet
  first_below r k l h =
      omega (
        arith,
        first-is bs s r k l h,
        digits_lt {q = place_at bs r k} {m = block_columns bs} {r = shift_at bs (r * set_in bs 0 + k)} {c = block_size bs}
            (place-below bs s r k l h) (shift-near bs s r k l h),
      )

  -- the matrix is a grid of blocks
  blocks-own : Blocks own (block_size bs)
  blocks-own =
      record {
        grid = sheet-grid bs s;
        rows_some = omega (arith, block-rows bs s, s.rows_some);
        columns_some = omega (arith, block-columns, s.columns_some);
        below = λ r k l h. first_below r k (omega (arith, block-rows bs s)) (omega (arith, row-set));
      }

  -- the heading is the same
  rows_back : block_rows again ≡ block_rows bs
  rows_back = made-rows own (block_size bs) ∙ block-rows bs s

  columns-back : block_columns again ≡ block_columns bs
  columns-back = made-columns own (block_size bs) ∙ block-columns

  -- the same places are set
  set_back : (r c : ℕ) → r < block_rows bs → c < block_columns bs → set_at again r c ≡ set_at bs r c
  set_back r c l h =
      set-of own (block_size bs) blocks-own r c (omega (arith, block-rows bs s)) (omega (arith, block-columns))
      ∙ sum-cong own.rho (λ k m. ap (λ (x : ℕ). same x c) (first-place bs s r k l (omega (arith, row-set))))
      ∙ ap (λ (x : ℕ). sum_below x (λ k. same (place_at bs r k) c)) row-set
      ∙ place-count bs s r c l h

  -- so the map is the same
  map_back : (p : ℕ) → p < block_rows bs * block_columns bs → map_bit again p ≡ map_bit bs p
  unfolding set_at
  map_back p l =
      let f = in_rows (block_rows bs) (block_columns bs) p l in
      ap (map_bit again) f.4
      ∙ ap (λ (x : ℕ). map_bit again (f.0 * x + f.1)) (sym columns-back)
      ∙ set_back f.0 f.1 f.2 f.3
      ∙ ap (map_bit bs) (sym f.4)

  -- the same shifts stand behind the map
  shift_back : (q : ℕ) → q < set_places bs → shift_at again q ≡ shift_at bs q
  shift_back q l =
      let f = in_rows (block_rows bs) (set_in bs 0) q (omega (arith, places-set bs s)) in
      ap (shift_at again) f.4
      ∙ ap (λ (x : ℕ). shift_at again (f.0 * x + f.1)) (sym row-set)
      ∙ shift_of own (block_size bs) f.0 f.1 (omega (arith, f.2, block-rows bs s)) (omega (arith, f.3, row-set))
      ∙ first-shift bs s f.0 f.1 f.2 f.3
      ∙ ap (shift_at bs) (sym f.4)

  -- heading, map and shifts are the same
  alike-back : Alike again bs
  alike-back =
      record {
        rows = rows_back;
        columns = columns-back;
        size = made-size own (block_size bs);
        map = map_back;
        many = places_of own (block_size bs) blocks-own ∙ ap₂ ◌*◌ (block-rows bs s) row-set ∙ sym (places-set bs s);
        shifts = shift_back;
      }

  -- it consists of bytes
  bytes_back : Bytes again
  bytes_back =
      blocks-bytes own (block_size bs) blocks-own (omega (arith, block-rows bs s, sizes-small.0))
      (omega (arith, block-columns, sizes-small.1)) sizes-small.2

-- a sheet is the sheet of its own matrix
pub sheet-back : SheetBack
sheet-back bs small s =
    alike-equal (sheet_of (matrix_of_sheet bs) (block_size bs)) bs (bytes_back bs small s) small
    (blocks-sheet (matrix_of_sheet bs) (block_size bs) (blocks-own bs small s)) s (alike-back bs small s)

-- a matrix that a sheet describes is the matrix of its sheet
pub list_back : ListBack
list_back H Z e = (describes-parts H Z e).1

-- ---- refusal 12

-- the matrix of a sheet is described by it
sheet-describes : (H : Matrix) (Z : ℕ) → SheetFor H Z → describes H Z ≡ true
sheet-describes H Z f =
    let back : sheet_of H Z ≡ f.bytes = ap₂ sheet_of (sym f.own) (sym f.size) ∙ sheet-back f.bytes f.small f.sheet in
    parts-describe H Z (subst IsSheet (sym back) f.sheet) (ap matrix_of_sheet back ∙ f.own)

-- a matrix is refused by 12 exactly where Z is 0 or no sheet with that Z describes it
pub described : (H : Matrix) (Z : ℕ) → check_of H ≡ accepted → Described H Z
described H Z e =
    record {
      found = λ d.
          record {
            bytes = sheet_of H Z;
            small = made_bytes H Z (accepted-is H e) (describes-grid H Z d);
            sheet = (describes-parts H Z d).0;
            size = made-size H Z;
            own = (describes-parts H Z d).1;
          };
      told = sheet-describes H Z;
    }

-- a sheet is determined by its matrix and Z
pub sheet-unique : SheetUnique
sheet-unique a b small small' s s' z e = sym (sheet-back a small s) ∙ ap₂ sheet_of e z ∙ sheet-back b small' s'

-- ---- the calls

-- what sheet to list accepts, list to sheet turns back into the same bytes
pub calls_back : CallsBack
unfolding to_list_verdict to_sheet_verdict
calls_back bs a b room small v l =
    let p = passed (no_sheet bs) 11 0 _ v in
    let q = passed_on (check_of (matrix_of_sheet bs)) _ p.1 in
    let s : IsSheet bs = (sheet-reads bs).is p.0 in
    let back : sheet_of (matrix_of_sheet bs) (block_size bs) ≡ bs = sheet-back bs small s in
    let told : describes (matrix_of_sheet bs) (block_size bs) ≡ true =
    sheet-describes (matrix_of_sheet bs) (block_size bs) (record { bytes = bs; small = small; sheet = s; size = refl; own = refl }) in
    let fits : ltb room (length (sheet_of (matrix_of_sheet bs) (block_size bs))) ≡ false = le-ltb room _ (omega (arith, ap length back, l)) in
    (rw (q.0, told, fits), back)

-- what list to sheet accepts, sheet to list turns back into the same sizes and list
pub back-again : BackAgain
unfolding to_list_verdict to_sheet_verdict
back-again H Z room a b v la lb =
    let p = passed_on (check_of H) _ v in
    let q = passed (not (describes H Z)) 12 0 _ p.1 in
    let parts = describes-parts H Z (not-false (describes H Z) q.0) in
    (rw ((sheet-reads (sheet_of H Z)).so parts.0, parts.1, p.0, le-ltb a 4 la, le-ltb b (H.m * H.rho) lb), parts.1)
