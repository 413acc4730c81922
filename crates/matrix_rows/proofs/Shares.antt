-- Laws of what entries add to the cells: together they are the rows' sets.
--   word_low    == a column's word is one of sixteen
--   place-low   == and its place there one of sixty-four
--   column-is   == the column at the place of column j is column j
--   word-is, place_is   == and that of place b of word w stands in word w, at place b
--   entry-bit   == an entry adds at least its column's bit to its row's word
--   row-grows   == what one entry more of a row adds
--   row-part    == some entries of a row and the next add no more than all of them
--   cell-all    == all rows together make each cell what it is to be
--   past_all    == and add nothing past the cells
--   rows_fit    == the cells are numbers of 64 bits, and so is each sum on the way
-- Assumes nothing.
use mathlib.Core.Path.{◌≡◌, refl, sym, ap, ap₂, ◌∙◌}
use Prim.Native.Nat.{ℕ, suc, ◌+◌, ◌*◌, ◌/◌, ◌%◌, ◌^◌, ◌<◌, ◌≤◌}
use native.Mathlib.Nat.{mul-zero, zero-mul, one-mul, mul_assoc}
use native.Mathlib.Decide.{ℕ_discrete}
use native.Mathlib.Omega.{arith}
use Rattle.counting.specs.Paper.Sum.{sum_below, same}
use Rattle.counting.proofs.Sums.{sum-cong, sum-zero, sum-mul, sum-mul-right, sum-swap, sum-next, sum-pick, same_refl, same-ne, same-sym}
use Rattle.counting.proofs.Bits.{bits_below}
use Rattle.matrix.specs.Paper.Code.{Matrix, entry, has}
use Rattle.matrix.specs.Paper.PlainCheck.{Accepted}
use Rattle.matrix.proofs.Rows.{has-le}
use Rattle.matrix_rows.specs.Rows.{word_of, place_of, column_at, row_word, row_cell, rows_size}
use Rattle.matrix_rows.specs.Filling.{entry_share, row_share, rows_share}

-- ---- places

-- a column's word is one of sixteen
pub word_low : (j : ℕ) → word_of j < 16
word_low j = omega arith

-- and its place there one of sixty-four
pub place-low : (j : ℕ) → j < 1024 → place_of j < 64
place-low j h = omega arith

-- a number in eights, and a column in its three parts
eights : (a r : ℕ) → r < 8 → (8 * a + r) / 8 ≡ a
eights a r h = omega arith

rest : (a r : ℕ) → r < 8 → (8 * a + r) % 8 ≡ r
rest a r h = omega arith

parts : (j : ℕ) → 128 * (j / 128) + 8 * (j / 8 % 16) + j % 8 ≡ j
parts j = omega arith

-- the column at the place of column j is column j
pub column-is : (j : ℕ) → j < 1024 → column_at (word_of j) (place_of j) ≡ j
column-is j h =
    let low : j / 128 < 8 = omega arith in
    ap₂ (λ (x y : ℕ). 128 * y + 8 * word_of j + x) (eights (j % 8) (j / 128) low) (rest (j % 8) (j / 128) low) ∙ parts j

-- and its word and place are those it is named by
word-of : (q w r : ℕ) → w < 16 → r < 8 → word_of (128 * q + 8 * w + r) ≡ w
word-of q w r h l =
    let e : (128 * q + 8 * w + r) / 8 ≡ 16 * q + w = omega arith in
    let o : (16 * q + w) % 16 ≡ w = omega arith in
    ap (λ (y : ℕ). y % 16) e ∙ o

place-of : (q w r : ℕ) → w < 16 → r < 8 → place_of (128 * q + 8 * w + r) ≡ 8 * r + q
place-of q w r h l =
    let e : (128 * q + 8 * w + r) % 8 ≡ r = omega arith in
    let o : (128 * q + 8 * w + r) / 128 ≡ q = omega arith in
    ap₂ (λ (x y : ℕ). 8 * x + y) e o

pub word-is : (w b : ℕ) → w < 16 → b < 64 → word_of (column_at w b) ≡ w
word-is w b h l = word-of (b % 8) w (b / 8) h (omega arith)

pub place_is : (w b : ℕ) → w < 16 → b < 64 → place_of (column_at w b) ≡ b
place_is w b h l =
    let e : 8 * (b / 8) + b % 8 ≡ b = omega arith in
    place-of (b % 8) w (b / 8) h (omega arith) ∙ e

-- columns are the same where their words and places are
same_place : (c w b : ℕ) → c < 1024 → w < 16 → b < 64 → same (word_of c) w * same (place_of c) b ≡ same c (column_at w b)
same_place c w b h g l =
    elim (ℕ_discrete c (column_at w b)) [
      | yes e ↦
          rw (e, word-is w b g l, place_is w b g l, same_refl w, same_refl b, same_refl (column_at w b)) refl
      | no ne ↦
          elim (ℕ_discrete (word_of c) w) [
            | yes p ↦
                ap (λ (y : ℕ). same (word_of c) w * y) (same-ne (place_of c) b (λ q. ne (sym (column-is c h) ∙ rw (p, q) refl)))
                ∙ mul-zero (same (word_of c) w) ∙ sym (same-ne c (column_at w b) ne)
            | no np ↦
                ap (λ (y : ℕ). y * same (place_of c) b) (same-ne (word_of c) w np) ∙ zero-mul (same (place_of c) b)
                ∙ sym (same-ne c (column_at w b) ne)
          ]
    ]

-- cells are the same where row and word are
same_word : (r i v w : ℕ) → v < 16 → w < 16 → same (16 * r + v) (16 * i + w) ≡ same r i * same v w
same_word r i v w h l =
    elim (ℕ_discrete r i) [
      | yes e ↦
          elim (ℕ_discrete v w) [
            | yes q ↦ rw (e, q, same_refl i, same_refl w, same_refl (16 * i + w)) refl
            | no nq ↦ rw (same-ne v w nq, mul-zero (same r i)) (same-ne (16 * r + v) (16 * i + w) (λ s. nq (omega arith)))
          ]
      | no ne ↦ rw (same-ne r i ne, zero-mul (same v w)) (same-ne (16 * r + v) (16 * i + w) (λ s. ne (omega arith)))
    ]

-- ---- entries

-- an entry adds its column's bit to its row's word, and nothing to other words
entry-word : (r c i w : ℕ) → w < 16 → entry_share r c (16 * i + w) ≡ same r i * (same (word_of c) w * 2 ^ (place_of c))
unfolding entry_share
entry-word r c i w g =
    ap (λ (y : ℕ). y * 2 ^ (place_of c)) (same_word r i (word_of c) w (word_low c) g) ∙ mul_assoc (same r i) (same (word_of c) w) (2 ^ (place_of c))

-- of sixty-four bits that is the one of its column
bit-picked : (c w : ℕ) → c < 1024 → w < 16 → same (word_of c) w * 2 ^ (place_of c) ≡ sum_below 64 (λ b. same c (column_at w b) * 2 ^ b)
bit-picked c w h g =
    ap (λ (y : ℕ). same (word_of c) w * y) (sym (sum-pick 64 (λ b. 2 ^ b) (place_of c) (place-low c h)))
    ∙ sym (sum-mul 64 (same (word_of c) w) (λ b. same (place_of c) b * 2 ^ b))
    ∙ sum-cong 64 (λ b l. sym (mul_assoc (same (word_of c) w) (same (place_of c) b) (2 ^ b))
    ∙ ap (λ (y : ℕ). y * 2 ^ b) (same_place c w b h g l))

-- it adds nothing past the cells
entry_past : (m r c t : ℕ) → r < m → 16 * m ≤ t → entry_share r c t ≡ 0
unfolding entry_share
entry_past m r c t h l =
    ap (λ (y : ℕ). y * 2 ^ (place_of c)) (same-ne (16 * r + word_of c) t (λ e. omega (arith, word_low c))) ∙ zero-mul (2 ^ (place_of c))

-- its share, as a bound
pub entry-bit : (r c : ℕ) → 2 ^ (place_of c) ≤ entry_share r c (16 * r + word_of c)
unfolding entry_share
entry-bit r c = omega (arith, ap (λ (y : ℕ). y * 2 ^ (place_of c)) (same_refl (16 * r + word_of c)), one-mul (2 ^ (place_of c)))

-- ---- rows

module _ (H : Matrix) where
  -- one entry more of a row
  pub row-grows : (i k t : ℕ) → row_share H i (suc k) t ≡ row_share H i k t + entry_share i (entry H i k) t
  unfolding row_share sum_below
  row-grows i k t = refl

  -- some entries of a row and the next
  pub row-part : (i k t : ℕ) → k < H.rho → row_share H i k t + entry_share i (entry H i k) t ≤ row_share H i H.rho t
  unfolding row_share
  row-part i k t h = sum-next k H.rho (λ q. entry_share i (entry H i q) t) h

  -- some rows and the next
  rows-part : (i t : ℕ) → i < H.m → rows_share H i t + row_share H i H.rho t ≤ rows_share H H.m t
  unfolding rows_share
  rows-part i t h = sum-next i H.m (λ r. row_share H r H.rho t) h

  -- past the cells a row adds nothing
  row-over : (i t : ℕ) → i < H.m → rows_size H ≤ t → row_share H i H.rho t ≡ 0
  unfolding row_share rows_size
  row-over i t h l = sum-zero H.rho (λ k q. entry_past H.m i (entry H i k) t h l)

  -- nor do all
  pub past_all : (t : ℕ) → rows_size H ≤ t → rows_share H H.m t ≡ 0
  unfolding rows_share
  past_all t l = sum-zero H.m (λ i h. row-over i t h l)

module _ (H : Matrix) (a : Accepted H) where
  -- a row's columns are among 1,024
  column-low : (i k : ℕ) → i < H.m → k < H.rho → entry H i k < 1024
  column-low i k h l = omega (arith, a.rows.below i k h l, a.sizes.n_most)

  -- the bits of a row's entries that stand in word w make that word
  bits-word : (i w : ℕ) → i < H.m → w < 16 → sum_below H.rho (λ k. same (word_of (entry H i k)) w * 2 ^ (place_of (entry H i k))) ≡ row_word H i w
  unfolding row_word has
  bits-word i w h g =
      sum-cong H.rho (λ k l. bit-picked (entry H i k) w (column-low i k h l) g)
      ∙ sum-swap H.rho 64 (λ k b. same (entry H i k) (column_at w b) * 2 ^ b)
      ∙ sum-cong 64 (λ b l. sum-mul-right H.rho (2 ^ b) (λ k. same (entry H i k) (column_at w b)))

  -- what a row adds to a word
  row_word_lem : (r i w : ℕ) → r < H.m → w < 16 → row_share H r H.rho (16 * i + w) ≡ same i r * row_word H r w
  unfolding row_share
  row_word_lem r i w h g =
      sum-cong H.rho (λ k l. entry-word r (entry H r k) i w g)
      ∙ sum-mul H.rho (same r i) (λ k. same (word_of (entry H r k)) w * 2 ^ (place_of (entry H r k)))
      ∙ ap (λ (y : ℕ). same r i * y) (bits-word r w h g) ∙ ap (λ (y : ℕ). y * row_word H r w) (same-sym r i)

  -- all rows together: a word is that of its row
  word-all : (i w : ℕ) → i < H.m → w < 16 → rows_share H H.m (16 * i + w) ≡ row_word H i w
  unfolding rows_share
  word-all i w h g = sum-cong H.m (λ r l. row_word_lem r i w l g) ∙ sum-pick H.m (λ r. row_word H r w) i h

  -- each cell
  pub cell-all : (t : ℕ) → t < rows_size H → rows_share H H.m t ≡ row_cell H t
  unfolding row_cell rows_size
  cell-all t l =
      let e : t ≡ 16 * (t / 16) + t % 16 = omega arith in
      ap (rows_share H H.m) e ∙ word-all (t / 16) (t % 16) (omega arith) (omega arith)

  -- the cells are numbers of 64 bits
  cell-fits : (t : ℕ) → t < rows_size H → row_cell H t < 18446744073709551616
  unfolding row_cell row_word rows_size
  cell-fits t l = bits_below (λ b. has H (t / 16) (column_at (t % 16) b)) 64 (λ b g. has-le H a.rows (t / 16) (column_at (t % 16) b) (omega arith))

  -- so no sum on the way outgrows them
  pub rows_fit : (i t : ℕ) → i < H.m → t < rows_size H → rows_share H i t + row_share H i H.rho t < 18446744073709551616
  rows_fit i t h l = omega (arith, rows-part H i t h, cell-all t l, cell-fits t l)
