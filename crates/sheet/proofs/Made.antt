-- The sheet of an accepted matrix that is a grid of blocks: it is a sheet, of bytes, and its matrix is the one it was made of.
--   matrix-cong    == matrices of the same sizes and list are equal
--   blocks-sheet   == the sheet of a grid of blocks is a sheet
--   blocks-bytes   == it consists of bytes where the sizes have 16 bits
--   blocks-list    == its matrix has the list that it was made of
--   blocks_is      == an accepted matrix that is a grid has some blocks, with the first rows' column numbers below n
--   made_bytes     == its sheet consists of bytes
--   made-sheet     == it is a sheet
--   made-matrix    == and its matrix is the one that it was made of, sizes and list
-- Assumes nothing.
use mathlib.Core.Path.{◌≡◌, sym, ap, ap₂, ◌∙◌}
use mathlib.Core.List.{List}
use mathlib.Core.Logic.{inl, inr}
use Prim.Native.Nat.{ℕ, ◌+◌, ◌*◌, ◌-◌, ◌/◌, ◌≤◌, ◌<◌}
use native.Mathlib.Nat.{mod-lt, zero-mul, eq-zero-or-pos, div-le_self}
use native.Mathlib.Omega.{arith}
use lib.Arith.{digits_lt}
use lib.ListN.{length, get_or}
use lib.Seq.{ext_get_or}
use Rattle.counting.specs.Paper.Sum.{sum_below, same}
use Rattle.packed_word.specs.Paper.Packed.{bytes_for, Bytes}
use Rattle.matrix.specs.Paper.Code.{Matrix, matrix, entry, weight}
use Rattle.matrix.specs.Paper.PlainCheck.{Accepted}
use Rattle.matrix.proofs.Rows.{weight-flat}
use Rattle.sheet.specs.Paper.Sheet.{block_rows, block_columns, block_size, set_places, shift_at, sheet_length}
use Rattle.sheet.specs.Paper.PlainSheet.{IsSheet}
use Rattle.sheet.specs.Paper.SheetMatrix.{matrix_of_sheet}
use Rattle.sheet.specs.Paper.MatrixSheet.{sheet_of}
use Rattle.sheet.specs.Parts.{entry_of, first_entry, turned, Grid}
use Rattle.sheet.proofs.MadeBytes.{made-long, made-rows, made-columns, made-size, shift_of, bytes_of}
use Rattle.sheet.proofs.MadeMap.{Blocks, in_rows, bits_of, row_of, places_of, place-of, spare_of}
use Rattle.sheet.proofs.Entries.{list-long, entry-is}
use Rattle.sheet.proofs.Weights.{sheet-weights}

-- ---- matrices by their parts

-- matrices of equal parts
matrix-parts : (n n' m m' rho rho' gamma gamma' : ℕ) (list list' : List ℕ) → n ≡ n' → m ≡ m' → rho ≡ rho' → gamma ≡ gamma' → list ≡ list'
    → matrix n m rho gamma list ≡ matrix n' m' rho' gamma' list'
matrix-parts n n' m m' rho rho' gamma gamma' list list' a b c d e = rw (a, b, c, d, e)

-- matrices of the same sizes and list are equal
pub matrix-cong : (A B : Matrix) → A.n ≡ B.n → A.m ≡ B.m → A.rho ≡ B.rho → A.gamma ≡ B.gamma → A.list ≡ B.list → A ≡ B
matrix-cong A B = matrix-parts A.n B.n A.m B.m A.rho B.rho A.gamma B.gamma A.list B.list

-- a column's weight depends on the rows alone
weight-cong : (A B : Matrix) (j : ℕ) → A.m ≡ B.m → A.rho ≡ B.rho → A.list ≡ B.list → weight A j ≡ weight B j
weight-cong A B j em er el =
    weight-flat A j ∙ parts ∙ sym (weight-flat B j)
  where
    parts : sum_below (A.m * A.rho) (λ p. same (get_or A.list p 0) j) ≡ sum_below (B.m * B.rho) (λ p. same (get_or B.list p 0) j)
    parts = rw (em, er, el)

-- ---- a grid of blocks

module _ (H : Matrix) (Z : ℕ) (b : Blocks H Z) where
  -- the places of its map
  places : block_rows (sheet_of H Z) * block_columns (sheet_of H Z) ≡ H.m / Z * (H.n / Z)
  places = ap₂ ◌*◌ (made-rows H Z) (made-columns H Z)

  -- its length is the one that its heading and map say
  whole : length (sheet_of H Z) ≡ sheet_length (sheet_of H Z)
  unfolding sheet_length
  whole = made-long H Z ∙ sym (ap₂ (λ (x y : ℕ). 6 + bytes_for x + 2 * y) places (places_of H Z b))

  -- the q-th shift stands for an entry, which tells where it lies in its block
  near : (q : ℕ) → q < set_places (sheet_of H Z) → shift_at (sheet_of H Z) q < block_size (sheet_of H Z)
  near q l =
      let f = in_rows (H.m / Z) H.rho q (omega (arith, places_of H Z b)) in
      omega (
        arith,
        ap (shift_at (sheet_of H Z)) f.4,
        shift_of H Z f.0 f.1 f.2 f.3,
        mod-lt (first_entry H Z f.0 f.1) b.grid.some,
        made-size H Z,
      )

  -- the sheet of a grid of blocks is a sheet
  pub blocks-sheet : IsSheet (sheet_of H Z)
  blocks-sheet =
      record {
        whole = whole;
        rows_some = omega (arith, made-rows H Z, b.rows_some);
        columns_some = omega (arith, made-columns H Z, b.columns_some);
        size_some = omega (arith, made-size H Z, b.grid.some);
        padded = λ p l h. spare_of H Z b p (omega (arith, places)) (omega (arith, places));
        near = near;
        alike = λ r l. row_of H Z b r (omega (arith, made-rows H Z)) ∙ sym (row_of H Z b 0 b.rows_some);
      }

  -- it consists of bytes where the sizes have 16 bits
  pub blocks-bytes : H.m / Z < 65536 → H.n / Z < 65536 → Z < 65536 → Bytes (sheet_of H Z)
  blocks-bytes j k z =
      bytes_of H Z j k z (bits_of H Z b) (λ r k l h. omega (arith, mod-lt (first_entry H Z r k) b.grid.some, z))

  -- its entries by place and shift are the first rows' turned
  entry-turned : (r i k : ℕ) → r < H.m / Z → k < H.rho → entry_of (sheet_of H Z) r i k ≡ turned Z (first_entry H Z r k) i
  unfolding entry_of turned
  entry-turned r i k l m = rw (place-of H Z b r k l m, made-size H Z, row_of H Z b 0 b.rows_some, shift_of H Z r k l m)

  -- each of its entries is that of the list that it was made of
  entry-made : (r i k : ℕ) → r < H.m / Z → i < Z → k < H.rho → entry (matrix_of_sheet (sheet_of H Z)) (r * Z + i) k ≡ entry H (r * Z + i) k
  entry-made r i k l h m =
      ap (λ (x : ℕ). entry (matrix_of_sheet (sheet_of H Z)) (r * x + i) k) (sym (made-size H Z))
      ∙ entry-is (sheet_of H Z) blocks-sheet r i k (omega (arith, made-rows H Z)) (omega (arith, made-size H Z))
      (omega (arith, row_of H Z b 0 b.rows_some))
      ∙ entry-turned r i k l m
      ∙ sym (b.grid.follows r i k l h m)

  -- where an entry of its matrix stands in the list
  entry_at : (i k : ℕ) → entry (matrix_of_sheet (sheet_of H Z)) i k ≡ get_or (matrix_of_sheet (sheet_of H Z)).list (i * H.rho + k) 0
  unfolding entry matrix_of_sheet
  entry_at i k = ap (λ (x : ℕ). get_or (matrix_of_sheet (sheet_of H Z)).list (i * x + k) 0) (row_of H Z b 0 b.rows_some)

  -- the list is as long
  list-made : length (matrix_of_sheet (sheet_of H Z)).list ≡ H.m * H.rho
  list-made =
      list-long (sheet_of H Z) blocks-sheet ∙ rw (made-rows H Z, made-size H Z, row_of H Z b 0 b.rows_some, b.grid.high)

  -- and has the same number at each place
  place-made : (p : ℕ) → p < H.m * H.rho → get_or (matrix_of_sheet (sheet_of H Z)).list p 0 ≡ get_or H.list p 0
  unfolding entry
  place-made p l =
      let f = in_rows H.m H.rho p l in
      let g = in_rows (H.m / Z) Z f.0 (omega (arith, f.2, b.grid.high)) in
      rw (f.4, g.4) (sym (entry_at (g.0 * Z + g.1) f.1) ∙ entry-made g.0 g.1 f.1 g.2 g.3 f.3)

  -- its matrix has the list that it was made of
  pub blocks-list : length H.list ≡ H.m * H.rho → (matrix_of_sheet (sheet_of H Z)).list ≡ H.list
  blocks-list long =
      ext_get_or 0 (matrix_of_sheet (sheet_of H Z)).list H.list (list-made ∙ sym long) (λ p l. place-made p (omega (arith, list-made)))

-- ---- an accepted matrix that is a grid

module _ (H : Matrix) (Z : ℕ) (a : Accepted H) (g : Grid H Z) where
  -- a product that is not 0 has no factor 0
  factor-some : (x : ℕ) → 0 < x / Z * Z → 0 < x / Z
  factor-some x h = elim (eq-zero-or-pos (x / Z)) [ inl e ↦ absurd (omega (arith, ap (λ (y : ℕ). y * Z) e, zero-mul Z)) | inr l ↦ l ]

  -- it has some blocks, with the first rows' column numbers below n
  pub blocks_is : Blocks H Z
  unfolding first_entry
  blocks_is =
      record {
        grid = g;
        rows_some = factor-some H.m (omega (arith, g.high, a.sizes.m_least));
        columns_some = factor-some H.n (omega (arith, g.wide, a.sizes.n_least));
        below = λ r k l h. a.rows.below (r * Z) k (omega (arith, digits_lt {q = r} {m = H.m / Z} {r = 0} {c = Z} l g.some, g.high)) h;
      }

  -- a block is no higher than the matrix
  size-most : Z ≤ H.m
  size-most =
      omega (arith, digits_lt {q = 0} {m = H.m / Z} {r = Z - 1} {c = Z} blocks_is.rows_some (omega (arith, g.some)), zero-mul Z, g.high)

  -- its sheet consists of bytes
  pub made_bytes : Bytes (sheet_of H Z)
  made_bytes =
      let rows : H.m / Z ≤ H.m = div-le_self H.m Z in
      let columns : H.n / Z ≤ H.n = div-le_self H.n Z in
      blocks-bytes H Z blocks_is (omega (arith, a.sizes.m_most)) (omega (arith, a.sizes.n_most)) (omega (arith, size-most, a.sizes.m_most))

  -- it is a sheet
  pub made-sheet : IsSheet (sheet_of H Z)
  made-sheet = blocks-sheet H Z blocks_is

  -- its sizes
  n-made : (matrix_of_sheet (sheet_of H Z)).n ≡ H.n
  unfolding matrix_of_sheet
  n-made = ap₂ ◌*◌ (made-columns H Z) (made-size H Z) ∙ g.wide

  m-made : (matrix_of_sheet (sheet_of H Z)).m ≡ H.m
  unfolding matrix_of_sheet
  m-made = ap₂ ◌*◌ (made-rows H Z) (made-size H Z) ∙ g.high

  rho-made : (matrix_of_sheet (sheet_of H Z)).rho ≡ H.rho
  unfolding matrix_of_sheet
  rho-made = row_of H Z blocks_is 0 blocks_is.rows_some

  -- its columns weigh the same
  weight-made : (j : ℕ) → weight (matrix_of_sheet (sheet_of H Z)) j ≡ weight H j
  weight-made j = weight-cong (matrix_of_sheet (sheet_of H Z)) H j m-made rho-made (blocks-list H Z blocks_is a.rows.whole)

  -- so its smallest weight is gamma
  gamma-made : (matrix_of_sheet (sheet_of H Z)).gamma ≡ H.gamma
  gamma-made =
      let w = sheet-weights (sheet_of H Z) made-sheet in
      let here = w.attained in
      let there = a.least in
      omega (
        arith,
        w.fewest there.0 (omega (arith, n-made, there.1)),
        weight-made there.0,
        there.2,
        (a.weights here.0 (omega (arith, n-made, here.1))).0,
        weight-made here.0,
        here.2,
      )

  -- and its matrix is the one that it was made of, sizes and list
  pub made-matrix : matrix_of_sheet (sheet_of H Z) ≡ H
  made-matrix = matrix-cong (matrix_of_sheet (sheet_of H Z)) H n-made m-made rho-made gamma-made (blocks-list H Z blocks_is a.rows.whole)
