-- Laws of the sizes of a sheet: how large they are, and where the list that is made by them stands.
--   second-there, third-there   == places that are still there after the stores before them
--   sizes-put                   == four stores are the sizes over the memory
--   six-there                   == a sheet has a heading
--   first-there                 == and the map's first block row
--   row_small                   == the set places of a block row fit 16 bits
--   low_small                   == so do the fewest of a block column
--   shape-own                   == what is counted are the sizes of the sheet's matrix
--   sizes-refused               == sizes that do not fit: refusal 1
--   sizes-made                  == sizes that fit
--   made-lent                   == then the list can be made
--   made-room                   == with room for it
--   made-count, made-few        == it has m × rho entries, at most 32,736
--   made-long                   == the memory in which it is made stays as long as it was
--   made-front                  == the list stands at its front
--   made-own                    == so that what is checked is the sheet's matrix
-- Assumes nothing.
use mathlib.Core.Path.{◌≡◌, refl, sym, ap, ap₂, ◌∙◌}
use mathlib.Core.Bool.{true, false}
use mathlib.Core.List.{List, [], ◌∷◌}
use Prim.Native.Nat.{ℕ, ◌+◌, ◌*◌, ◌≤◌, ◌<◌}
use native.Mathlib.Nat.{mul-le-mul}
use native.Mathlib.Omega.{arith}
use lib.ListN.{length, set, take, length-set}
use Rattle.counting.specs.Paper.Sum.{least}
use Rattle.counting.specs.Paper.Lists.{over}
use Rattle.counting.proofs.Searches.{never}
use Rattle.counting.proofs.Least.{least-top}
use Rattle.counting.proofs.Writes.{length_over, take-over}
use Rattle.answers.specs.Paper.Answers.{refused}
use Rattle.matrix.specs.Paper.Code.{Matrix, matrix}
use Rattle.matrix.specs.Paper.Check.{sizes_fit, check_of}
use Rattle.matrix.specs.Paper.PlainCheck.{sizes_out}
use Rattle.matrix.specs.Paper.Shapes.{matrix_of}
use Rattle.matrix.specs.declared.Shape.{Shape}
use Rattle.matrix.proofs.PlainCheck.{sizes-say, sizes-fit, reads_only}
use Rattle.sheet.specs.Paper.Sheet.{block_rows, block_columns, block_size, set_in, set_down, sheet_length}
use Rattle.sheet.specs.Paper.PlainSheet.{IsSheet}
use Rattle.sheet.specs.Paper.SheetMatrix.{matrix_of_sheet}
use Rattle.sheet.specs.Paper.Calls.{sizes_of}
use Rattle.sheet.proofs.Entries.{list-long}
use Rattle.sheet_bytes.specs.declared.Heading.{Heading}
use Rattle.sheet_bytes.specs.Parts.{set_from}
use Rattle.sheet_bytes.proofs.Maps.{places-are, from_first, from-few}
use Rattle.sheet_rows.specs.Parts.{SheetLent}
use Rattle.sheet_to_list.specs.Parts.{Small, Made}

-- a place is still there after the stores before it
pub second-there : (l : List ℕ) (n : ℕ) → 4 ≤ length l → 1 < length (set l 0 n)
second-there l n h = omega (arith, length-set l 0 n)

pub third-there : (l : List ℕ) (n m : ℕ) → 4 ≤ length l → 2 < length (set (set l 0 n) 1 m)
third-there l n m h = omega (arith, length-set l 0 n, length-set (set l 0 n) 1 m)

-- four stores are the sizes over the memory
pub sizes-put : (s : Shape) (l : List ℕ) → 4 ≤ length l
    → set (set (set (set l 0 s.n) 1 s.m) 2 s.rho) 3 s.gamma ≡ over (sizes_of (matrix_of s [])) l
unfolding over sizes_of
sizes-put s [] h = absurd (omega arith)
sizes-put s (a ∷ []) h = absurd (omega arith)
sizes-put s (a ∷ b ∷ []) h = absurd (omega arith)
sizes-put s (a ∷ b ∷ c ∷ []) h = absurd (omega arith)
sizes-put s (a ∷ b ∷ c ∷ d ∷ l) h = refl

-- a sheet has a heading
pub six-there : (bs : List ℕ) → IsSheet bs → 6 ≤ length bs
unfolding sheet_length
six-there bs s = omega (arith, s.whole)

module _ (bs : List ℕ) (h : Heading) (t : Small bs h) where
  -- and the map's first block row
  pub first-there : 48 + (0 + h.columns) ≤ 8 * length bs
  unfolding sheet_length
  first-there =
      omega (
        arith,
        t.sheet.whole,
        places-are t.headed,
        mul-le-mul {n₁ = 1} {m₁ = h.columns} {n₂ = h.rows} {m₂ = h.columns}
            (omega (arith, t.sheet.rows_some, t.headed.rows)) (omega arith),
      )

  -- there are at most 1,023 block columns
  columns-few : h.columns ≤ 1023
  columns-few =
      omega (
        arith,
        t.wide,
        mul-le-mul {n₁ = h.columns} {m₁ = 1} {n₂ = h.columns} {m₂ = h.size}
            (omega arith) (omega (arith, t.sheet.size_some, t.headed.size)),
      )

  -- and block rows
  rows_few : h.rows ≤ 1023
  rows_few =
      omega (
        arith,
        t.high,
        mul-le-mul {n₁ = h.rows} {m₁ = 1} {n₂ = h.rows} {m₂ = h.size}
            (omega arith) (omega (arith, t.sheet.size_some, t.headed.size)),
      )

  -- the set places of a block row fit 16 bits
  pub row_small : set_from bs 0 h.columns ≤ 1023
  row_small = omega (arith, columns-few, from-few bs 0 h.columns)

  -- so do the fewest of a block column
  pub low_small : least (block_rows bs) (block_columns bs) (set_down bs) ≤ 1023
  low_small = omega (arith, rows_few, t.headed.rows, least-top (block_rows bs) (block_columns bs) (set_down bs))

  -- what is counted are the sizes of the sheet's matrix
  pub shape-own : (rho gamma : ℕ) → rho ≡ set_from bs 0 h.columns → gamma ≡ least (block_rows bs) (block_columns bs) (set_down bs)
      → matrix (h.columns * h.size) (h.rows * h.size) rho gamma (matrix_of_sheet bs).list ≡ matrix_of_sheet bs
  unfolding matrix_of_sheet
  shape-own rho gamma e g = rw (e ∙ from_first t.headed, g, t.headed.columns, t.headed.rows, t.headed.size) refl

module _ (bs : List ℕ) (s : Shape) (own : matrix_of s (matrix_of_sheet bs).list ≡ matrix_of_sheet bs) where
  -- the list is not among the sizes
  sizes-alike : sizes_fit (matrix_of s []) ≡ sizes_fit (matrix_of_sheet bs)
  unfolding sizes_fit
  sizes-alike = ap sizes_fit own

  -- sizes that do not fit
  pub sizes-refused : sizes_fit (matrix_of s []) ≡ false → check_of (matrix_of_sheet bs) ≡ refused 1 0
  sizes-refused e =
      sym (reads_only (matrix_of_sheet bs) (refused 1 0) (sizes_out (λ f. never (sym (sizes-fit (matrix_of_sheet bs) f) ∙ sym sizes-alike ∙ e))))

  -- sizes that fit
  pub sizes-made : (h : Heading) → Small bs h → sizes_fit (matrix_of s []) ≡ true → Made bs h s
  sizes-made h t e = record { small = t; own = own; fit = sizes-say (matrix_of_sheet bs) (sym sizes-alike ∙ e) }

module _ (bs : List ℕ) (h : Heading) (s : Shape) (t : Made bs h s) where
  -- the sizes one by one
  rho-is : s.rho ≡ set_in bs 0
  unfolding matrix_of_sheet
  rho-is = ap (λ (H : Matrix). H.rho) t.own

  m-is : s.m ≡ block_rows bs * block_size bs
  unfolding matrix_of_sheet
  m-is = ap (λ (H : Matrix). H.m) t.own

  rho-few : s.rho ≤ 32
  unfolding matrix_of_sheet
  rho-few = omega (arith, rho-is, t.fit.rho_most)

  -- then the list can be made
  pub made-lent : SheetLent bs h s.rho
  made-lent =
      record {
        sheet = t.small.sheet;
        headed = t.small.headed;
        row = rho-is;
        few = rho-few;
        wide = t.small.wide;
        high = t.small.high;
      }

  -- with room for it
  pub made-room : h.rows * h.size * s.rho ≤ 32736
  made-room = mul-le-mul {n₁ = h.rows * h.size} {m₁ = s.rho} {n₂ = 1023} {m₂ = 32} t.small.high rho-few

  -- it has m × rho entries
  pub made-count : s.m * s.rho ≡ length (matrix_of_sheet bs).list
  made-count = ap₂ ◌*◌ m-is rho-is ∙ sym (list-long bs t.small.sheet)

  -- which are no more than there is room for
  pub made-few : s.m * s.rho ≤ 32736
  made-few =
      omega (
        arith,
        made-room,
        ap (λ (x : ℕ). x * s.rho) (m-is ∙ sym (ap₂ ◌*◌ t.small.headed.rows t.small.headed.size)),
      )

  module _ (old x : List ℕ) (e : x ≡ over (matrix_of_sheet bs).list old) where
    -- the memory stays as long as it was
    pub made-long : length old ≡ 32736 → length x ≡ 32736
    made-long l = ap length e ∙ length_over (matrix_of_sheet bs).list old (omega (arith, made-count, made-few)) ∙ l

    -- the list stands at its front
    pub made-front : take (s.m * s.rho) x ≡ (matrix_of_sheet bs).list
    made-front = ap₂ (λ (k : ℕ) (y : List ℕ). take k y) made-count e ∙ take-over (matrix_of_sheet bs).list old

    -- so that what is checked is the sheet's matrix
    pub made-own : matrix_of s (take (s.m * s.rho) x) ≡ matrix_of_sheet bs
    made-own = ap (matrix_of s) made-front ∙ t.own
