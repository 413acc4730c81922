-- Laws of what rows add to the cells: together they are the columns' sets and weights.
--   entry-bit   == an entry adds the row's bit to its column's word
--   entry-one   == and one to its column's weight
--   row-grows   == what one entry more of a row adds
--   row-part    == some entries of a row and the next add no more than all of them
--   cell-all    == all rows together make each cell what it is to be
--   past_all    == and add nothing past the cells
--   row-bit     == a row is in a column's set or not
--   rows_fit    == the cells are numbers of 64 bits, and so is each sum on the way
-- Assumes nothing.
use mathlib.Core.Path.{◌≡◌, refl, sym, ap, ap₂, ◌∙◌}
use Prim.Native.Nat.{ℕ, suc, ◌+◌, ◌-◌, ◌*◌, ◌/◌, ◌%◌, ◌^◌, ◌<◌, ◌≤◌}
use native.Mathlib.Nat.{mul-zero, zero-mul, one-mul, mul_assoc, mul_comm}
use native.Mathlib.Decide.{ℕ_discrete, dec_lt}
use native.Mathlib.Omega.{arith}
use borrow.Author.Tests.{lt-ltb, le-ltb}
use lib.Arith.{digits_div, digits_mod}
use Rattle.counting.specs.Paper.Sum.{sum_below, same}
use Rattle.counting.proofs.Sums.{sum-cong, sum-zero, sum-append, sum-flat, sum-mul, sum-mul-right, sum-next, sum-pick, same_refl, same-ne, same-sym}
use Rattle.counting.proofs.Bits.{bits_below}
use Rattle.matrix.specs.Paper.Code.{Matrix, entry, has, weight}
use Rattle.matrix.specs.Paper.PlainCheck.{Accepted}
use Rattle.matrix.proofs.Rows.{has-le}
use Rattle.matrix.proofs.Weights.{weight-small}
use Rattle.syndrome_words.specs.Sets.{has_row}
use Rattle.syndrome_words.proofs.Sets.{row-there, row-past}
use Rattle.matrix_columns.specs.Columns.{column_word, column_cell, columns_size}
use Rattle.matrix_columns.specs.Filling.{entry_share, row_share, rows_share}

-- ---- entries

-- cells of words are the same where column and word are
same_word : (c j v w : ℕ) → v < 16 → w < 16 → same (16 * c + v) (16 * j + w) ≡ same c j * same v w
same_word c j v w h l =
    elim (ℕ_discrete c j) [
      | yes e ↦
          elim (ℕ_discrete v w) [
            | yes q ↦ rw (e, q, same_refl j, same_refl w, same_refl (16 * j + w)) refl
            | no nq ↦ rw (same-ne v w nq, mul-zero (same c j)) (same-ne (16 * c + v) (16 * j + w) (λ s. nq (omega arith)))
          ]
      | no ne ↦ rw (same-ne c j ne, zero-mul (same v w)) (same-ne (16 * c + v) (16 * j + w) (λ s. ne (omega arith)))
    ]

-- an entry adds the row's bit to its column's word, and nothing to other words
entry-word : (n i c j w : ℕ) → i < 1024 → j < n → w < 16 → entry_share n i c (16 * j + w) ≡ same c j * (same (i / 64) w * 2 ^ (i % 64))
unfolding entry_share
entry-word n i c j w h l g =
    let none : same (16 * n + c) (16 * j + w) ≡ 0 = same-ne (16 * n + c) (16 * j + w) (λ e. omega arith) in
    let word : same (16 * c + i / 64) (16 * j + w) * 2 ^ (i % 64) ≡ same c j * (same (i / 64) w * 2 ^ (i % 64)) =
    ap (λ (y : ℕ). y * 2 ^ (i % 64)) (same_word c j (i / 64) w (omega arith) g) ∙ mul_assoc (same c j) (same (i / 64) w) (2 ^ (i % 64)) in
    omega (arith, none, word)

-- it adds one to its column's weight, and nothing to others
entry-weight : (n i c j : ℕ) → i < 1024 → c < n → entry_share n i c (16 * n + j) ≡ same c j
unfolding entry_share
entry-weight n i c j h l =
    let none : same (16 * c + i / 64) (16 * n + j) * 2 ^ (i % 64) ≡ 0 =
    ap (λ (y : ℕ). y * 2 ^ (i % 64)) (same-ne (16 * c + i / 64) (16 * n + j) (λ e. omega arith)) ∙ zero-mul (2 ^ (i % 64)) in
    let one : same (16 * n + c) (16 * n + j) ≡ same c j =
    elim (ℕ_discrete c j) [
      | yes e ↦ rw (e, same_refl j, same_refl (16 * n + j)) refl
      | no ne ↦ same-ne (16 * n + c) (16 * n + j) (λ s. ne (omega arith)) ∙ sym (same-ne c j ne)
    ] in
    omega (arith, none, one)

-- and nothing past the cells
entry_past : (n i c t : ℕ) → i < 1024 → c < n → 17 * n ≤ t → entry_share n i c t ≡ 0
unfolding entry_share
entry_past n i c t h l g =
    let none : same (16 * c + i / 64) t * 2 ^ (i % 64) ≡ 0 =
    ap (λ (y : ℕ). y * 2 ^ (i % 64)) (same-ne (16 * c + i / 64) t (λ e. omega arith)) ∙ zero-mul (2 ^ (i % 64)) in
    omega (arith, none, same-ne (16 * n + c) t (λ e. omega arith))

-- its two shares, as bounds
pub entry-bit : (n i c : ℕ) → 2 ^ (i % 64) ≤ entry_share n i c (16 * c + i / 64)
unfolding entry_share
entry-bit n i c = omega (arith, ap (λ (y : ℕ). y * 2 ^ (i % 64)) (same_refl (16 * c + i / 64)), one-mul (2 ^ (i % 64)))

pub entry-one : (n i c : ℕ) → 1 ≤ entry_share n i c (16 * n + c)
unfolding entry_share
entry-one n i c = omega (arith, same_refl (16 * n + c))

-- ---- rows

module _ (H : Matrix) where
  -- one entry more of a row
  pub row-grows : (i k t : ℕ) → row_share H i (suc k) t ≡ row_share H i k t + entry_share H.n i (entry H i k) t
  unfolding row_share sum_below
  row-grows i k t = refl

  -- some entries of a row and the next
  pub row-part : (i k t : ℕ) → k < H.rho → row_share H i k t + entry_share H.n i (entry H i k) t ≤ row_share H i H.rho t
  unfolding row_share
  row-part i k t h = sum-next k H.rho (λ q. entry_share H.n i (entry H i q) t) h

  -- some rows and the next
  rows-part : (i t : ℕ) → i < H.m → rows_share H i t + row_share H i H.rho t ≤ rows_share H H.m t
  unfolding rows_share
  rows-part i t h = sum-next i H.m (λ r. row_share H r H.rho t) h

-- what row r adds to word w of column j
unfoldable row_bit : Matrix → ℕ → ℕ → ℕ → ℕ
row_bit H j w r = has_row H r j * (same (r / 64) w * 2 ^ (r % 64))

-- bit b of word v, as a part of word w
bit_word : (H : Matrix) (j w v b : ℕ) → b < 64 → row_bit H j w (v * 64 + b) ≡ same w v * (has_row H (64 * v + b) j * 2 ^ b)
unfolding row_bit
bit_word H j w v b l =
    let e : v * 64 + b ≡ 64 * v + b = omega arith in
    let d : (v * 64 + b) / 64 ≡ v = digits_div v {m = 64} {r = b} l in
    let o : (v * 64 + b) % 64 ≡ b = digits_mod v {m = 64} {r = b} l in
    ap₂ (λ (x y : ℕ). has_row H (v * 64 + b) j * (same x w * 2 ^ y)) d o
    ∙ ap (λ (x : ℕ). has_row H x j * (same v w * 2 ^ b)) e
    ∙ ap (λ (x : ℕ). has_row H (64 * v + b) j * (x * 2 ^ b)) (same-sym v w)
    ∙ sym (mul_assoc (has_row H (64 * v + b) j) (same w v) (2 ^ b))
    ∙ ap (λ (x : ℕ). x * 2 ^ b) (mul_comm (has_row H (64 * v + b) j) (same w v))
    ∙ mul_assoc (same w v) (has_row H (64 * v + b) j) (2 ^ b)

-- of 1,024 rows word w has the sixty-four that are its own
bits-word : (H : Matrix) (j w : ℕ) → w < 16 → sum_below 1024 (row_bit H j w) ≡ column_word H j w
unfolding column_word
bits-word H j w l =
    sum-flat 16 64 (row_bit H j w)
    ∙ sum-cong 16 (λ v h. sum-cong 64 (λ b g. bit_word H j w v b g) ∙ sum-mul 64 (same w v) (λ b. has_row H (64 * v + b) j * 2 ^ b))
    ∙ sum-pick 16 (λ v. sum_below 64 (λ b. has_row H (64 * v + b) j * 2 ^ b)) w l

-- rows that are not there add nothing
bits-past : (H : Matrix) (j w : ℕ) → H.m ≤ 1023 → sum_below H.m (row_bit H j w) ≡ sum_below 1024 (row_bit H j w)
unfolding row_bit
bits-past H j w h =
    let e : H.m + (1024 - H.m) ≡ 1024 = omega arith in
    let none : sum_below (1024 - H.m) (λ k. row_bit H j w (H.m + k)) ≡ 0 =
    sum-zero (1024 - H.m) (λ k l. ap (λ (y : ℕ). y * (same ((H.m + k) / 64) w * 2 ^ ((H.m + k) % 64))) (row-past H (H.m + k) j (omega arith))
    ∙ zero-mul (same ((H.m + k) / 64) w * 2 ^ ((H.m + k) % 64))) in
    omega (arith, ap (λ (k : ℕ). sum_below k (row_bit H j w)) e, sum-append H.m (1024 - H.m) (row_bit H j w), none)

module _ (H : Matrix) (a : Accepted H) where
  -- a row is one of 1,024
  row_low : (i : ℕ) → i < H.m → i < 1024
  row_low i h = omega (arith, a.sizes.m_most)

  -- what a row adds to a word
  row_word : (i j w : ℕ) → i < H.m → j < H.n → w < 16 → row_share H i H.rho (16 * j + w) ≡ row_bit H j w i
  unfolding row_share row_bit has
  row_word i j w h l g =
      sum-cong H.rho (λ k q. entry-word H.n i (entry H i k) j w (row_low i h) l g)
      ∙ sum-mul-right H.rho (same (i / 64) w * 2 ^ (i % 64)) (λ k. same (entry H i k) j)
      ∙ ap (λ (y : ℕ). y * (same (i / 64) w * 2 ^ (i % 64))) (sym (row-there H i j h))

  -- to a weight
  row-weight : (i j : ℕ) → i < H.m → row_share H i H.rho (16 * H.n + j) ≡ has H i j
  unfolding row_share has
  row-weight i j h =
      sum-cong H.rho (λ k q. entry-weight H.n i (entry H i k) j (row_low i h) (a.rows.below i k h q))

  -- and past the cells
  row-over : (i t : ℕ) → i < H.m → columns_size H ≤ t → row_share H i H.rho t ≡ 0
  unfolding row_share columns_size
  row-over i t h l =
      sum-zero H.rho (λ k q. entry_past H.n i (entry H i k) t (row_low i h) (a.rows.below i k h q) l)

  -- all rows together: a word
  word-all : (j w : ℕ) → j < H.n → w < 16 → rows_share H H.m (16 * j + w) ≡ column_word H j w
  unfolding rows_share
  word-all j w l g =
      sum-cong H.m (λ i h. row_word i j w h l g) ∙ bits-past H j w a.sizes.m_most ∙ bits-word H j w g

  -- a weight
  weight-all : (j : ℕ) → rows_share H H.m (16 * H.n + j) ≡ weight H j
  unfolding rows_share weight
  weight-all j = sum-cong H.m (λ i h. row-weight i j h)

  -- each cell
  pub cell-all : (t : ℕ) → t < columns_size H → rows_share H H.m t ≡ column_cell H t
  unfolding column_cell columns_size
  cell-all t l =
      elim (dec_lt t (16 * H.n)) [
        | yes h ↦
            let e : t ≡ 16 * (t / 16) + t % 16 = omega arith in
            ap (rows_share H H.m) e ∙ word-all (t / 16) (t % 16) (omega arith) (omega arith) ∙ rw (lt-ltb t (16 * H.n) h) refl
        | no f ↦
            let e : t ≡ 16 * H.n + (t - 16 * H.n) = omega arith in
            ap (rows_share H H.m) e ∙ weight-all (t - 16 * H.n) ∙ rw (le-ltb t (16 * H.n) (omega arith)) refl
      ]

  -- nothing past the cells
  pub past_all : (t : ℕ) → columns_size H ≤ t → rows_share H H.m t ≡ 0
  unfolding rows_share
  past_all t l = sum-zero H.m (λ i h. row-over i t h l)

  -- a row is in a set or not
  pub row-bit : (i j : ℕ) → has_row H i j ≤ 1
  row-bit i j =
      elim (dec_lt i H.m) [
        | yes h ↦ omega (arith, row-there H i j h, has-le H a.rows i j h)
        | no f ↦ omega (arith, row-past H i j (omega arith))
      ]

  -- the cells are numbers of 64 bits
  cell-fits : (t : ℕ) → column_cell H t < 18446744073709551616
  unfolding column_cell column_word
  cell-fits t =
      elim (dec_lt t (16 * H.n)) [
        | yes h ↦
            rw (lt-ltb t (16 * H.n) h) (bits_below (λ b. has_row H (64 * (t % 16) + b) (t / 16)) 64 (λ b l. row-bit (64 * (t % 16) + b) (t / 16)))
        | no f ↦ rw (le-ltb t (16 * H.n) (omega arith)) (omega (arith, weight-small H a (t - 16 * H.n)))
      ]

  -- so no sum on the way outgrows them
  pub rows_fit : (i t : ℕ) → i < H.m → t < columns_size H → rows_share H i t + row_share H i H.rho t < 18446744073709551616
  rows_fit i t h l = omega (arith, rows-part H i t h, cell-all t l, cell-fits t)
