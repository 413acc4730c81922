-- Laws of cells that are filled: rows added to cleared cells make them the columns' sets and weights.
--   room-is                  == room for the columns, as the code counts it
--   cleared-is               == the cells cleared, as the code clears them
--   row-entry                == a row's numbers, as the code takes them from the list
--   entry-put                == two stores add an entry
--   put-none                 == no entry is added yet
--   put_next                 == one entry more
--   put-long                 == adding a row leaves the cells as many as they were
--   word_fits, weight-fits   == a row that fits has entries that fit
--   puts_none                == no row is added yet
--   puts-next                == one row more
--   puts-room                == what is filled stays as long as the memory was
--   puts-fit                 == cells cleared first hold what the rows add, so the next row fits
--   rows-done                == all rows added to cleared cells are the columns, and the cells past them are as they were
-- Assumes nothing.
use mathlib.Core.Path.{◌≡◌, refl, sym, ap, ap₂, ◌∙◌}
use mathlib.Core.List.{List, ◌++◌}
use mathlib.Core.Logic.{inl, inr}
use Prim.Native.Nat.{ℕ, zero, suc, ◌+◌, ◌-◌, ◌*◌, ◌/◌, ◌%◌, ◌^◌, ◌<◌, ◌≤◌}
use native.Mathlib.Nat.{zero-mul, one-mul}
use native.Mathlib.Numerals.{add-one}
use native.Mathlib.Decide.{dec_lt}
use native.Mathlib.Omega.{arith}
use lib.ListN.{length, set, length-set, replicate, take, drop}
use Rattle.std.proofs.lemmas.List.{length-replicate, get_or-replicate, length-take, length-take-le, get_or-take, get_or-drop}
use lib.Seq.{ext_get_or}
use Rattle.counting.specs.Paper.Sum.{sum_below, same}
use Rattle.counting.specs.Paper.Lists.{listed, over}
use Rattle.counting.specs.Places.{at}
use Rattle.counting.proofs.Sums.{same_refl, same-ne}
use Rattle.counting.proofs.Writes.{length-listed, get_or-listed, stored, over-long, over-at, over-rest}
use Rattle.matrix.specs.Paper.Code.{Matrix, entry}
use Rattle.matrix.specs.Paper.PlainCheck.{Accepted}
use Rattle.matrix_columns.specs.Columns.{column_cell, columns_size, columns_of}
use Rattle.matrix_columns.specs.Filling.{blank, added, entry_put, row_put, rows_put, entry_share, row_share, rows_share, RowFits}
use Rattle.matrix_columns.proofs.Shares.{row-grows, row-part, entry-bit, entry-one, cell-all, past_all, rows_fit}

-- room for the columns, as the code counts it
pub room-is : (H : Matrix) {k : ℕ} → columns_size H ≤ k → 17 * H.n ≤ k
unfolding columns_size
room-is H h = h

-- the cells cleared, as the code clears them
pub cleared-is : (H : Matrix) (old x : List ℕ) → 17 * H.n ≤ length old → x ≡ replicate (length (take (17 * H.n) old)) 0
    → x ++ drop (17 * H.n) old ≡ over (listed (columns_size H) blank) old
unfolding over columns_size blank
cleared-is H old x room e =
    let k : ℕ = 17 * H.n in
    let long : length (listed {A = ℕ} k (λ t. 0)) ≡ k = length-listed {A = ℕ} k (λ t. 0) in
    let same : replicate k 0 ≡ listed k (λ t. 0) = ext_get_or 0 (replicate k 0) (listed k (λ t. 0)) (length-replicate {A = ℕ} k 0 ∙ sym long)
    (λ (t : ℕ) (h : t < length (replicate {A = ℕ} k 0)). let l : t < k = omega (arith, h, length-replicate {A = ℕ} k 0) in
    get_or-replicate k t 0 0 l ∙ sym (get_or-listed k (λ t. 0) t 0 l)) in
    rw (e, length-take-le k old room, same, long) refl

-- a row's numbers, as the code takes them from the list
pub row-entry : (H : Matrix) (i k : ℕ) → k < length (take (i * H.rho + H.rho - i * H.rho) (drop (i * H.rho) H.list))
    → (k < H.rho) × (at (take (i * H.rho + H.rho - i * H.rho) (drop (i * H.rho) H.list)) k ≡ entry H i k)
unfolding entry
row-entry H i k h =
    let n : ℕ = i * H.rho + H.rho - i * H.rho in
    let l : k < n = omega (arith, length-take n (drop (i * H.rho) H.list)) in
    (omega arith, get_or-take n (drop (i * H.rho) H.list) k 0 l ∙ get_or-drop (i * H.rho) H.list k 0)

-- ---- one entry

-- two stores add an entry
pub entry-put : (n i j : ℕ) (x y : List ℕ) (v : ℕ) → v ≡ 2 ^ (i % 64) → y ≡ set x (16 * j + i / 64) (at x (16 * j + i / 64) + v)
    → set y (16 * n + j) (at y (16 * n + j) + 1) ≡ entry_put n i j x
unfolding entry_put added
entry-put n i j x y v e q = rw (q, e) refl

-- adding to a cell leaves the cells as many as they were
added-long : (t v : ℕ) (x : List ℕ) → length (added t v x) ≡ length x
unfolding added
added-long t v x = length-set x t (at x t + v)

-- and one of them has v more
added-at : (s v : ℕ) (x : List ℕ) (t : ℕ) → s < length x → at (added s v x) t ≡ at x t + same s t * v
unfolding added
added-at s v x t h =
    elim (stored x s (at x s + v) t h) [
      | inl e ↦ rw e.1 (rw e.1 at e.0 ∙ ap (λ (y : ℕ). at x s + y) (sym (one-mul v) ∙ ap (λ (y : ℕ). y * v) (sym (same_refl s))))
      | inr e ↦ omega (arith, e.0, ap (λ (y : ℕ). y * v) (same-ne s t (λ q. e.1 (sym q))), zero-mul v)
    ]

-- an entry leaves the cells as many as they were
entry-long : (n i j : ℕ) (x : List ℕ) → length (entry_put n i j x) ≡ length x
unfolding entry_put
entry-long n i j x = added-long (16 * n + j) 1 (added (16 * j + i / 64) (2 ^ (i % 64)) x) ∙ added-long (16 * j + i / 64) (2 ^ (i % 64)) x

-- each cell then has the entry's share more
entry_at : (n i j : ℕ) (x : List ℕ) (t : ℕ) → i < 1024 → j < n → 17 * n ≤ length x → at (entry_put n i j x) t ≡ at x t + entry_share n i j t
unfolding entry_put entry_share
entry_at n i j x t h l room =
    let b : List ℕ = added (16 * j + i / 64) (2 ^ (i % 64)) x in
    let first : at b t ≡ at x t + same (16 * j + i / 64) t * 2 ^ (i % 64) = added-at (16 * j + i / 64) (2 ^ (i % 64)) x t (omega arith) in
    let second : at (added (16 * n + j) 1 b) t ≡ at b t + same (16 * n + j) t * 1 =
    added-at (16 * n + j) 1 b t (omega (arith, added-long (16 * j + i / 64) (2 ^ (i % 64)) x)) in
    omega (arith, first, second)

-- ---- one row

module _ (H : Matrix) (i : ℕ) where
  -- no entry is added yet
  pub put-none : (x : List ℕ) → x ≡ row_put H i 0 x
  unfolding row_put
  put-none x = refl

  -- one entry more
  pub put_next : (k c : ℕ) (x₀ x y : List ℕ) → c ≡ entry H i k → x ≡ row_put H i k x₀ → y ≡ entry_put H.n i c x → y ≡ row_put H i (k + 1) x₀
  unfolding row_put
  put_next k c x₀ x y s e q = rw (add-one k) (q ∙ ap₂ (entry_put H.n i) s e)

  -- adding a row leaves the cells as many as they were
  pub put-long : (k : ℕ) (x : List ℕ) → length (row_put H i k x) ≡ length x
  unfolding row_put
  put-long zero x = refl
  put-long (suc k) x = entry-long H.n i (entry H i k) (row_put H i k x) ∙ put-long k x

module _ (H : Matrix) (a : Accepted H) (i : ℕ) (row : i < H.m) (x : List ℕ) (room : columns_size H ≤ length x) where
  -- each cell has the row's share more
  put-at : (k t : ℕ) → k ≤ H.rho → at (row_put H i k x) t ≡ at x t + row_share H i k t
  unfolding row_put row_share sum_below columns_size
  put-at zero t h = omega arith
  put-at (suc k) t h =
      omega (
        arith,
        entry_at H.n i (entry H i k) (row_put H i k x) t (omega (arith, a.sizes.m_most)) (a.rows.below i k row h)
            (omega (arith, put-long H i k x)),
        put-at k t (omega arith),
        row-grows H i k t,
      )

  module _ (fits : RowFits H i x) (k c : ℕ) (h : k < H.rho) (s : c ≡ entry H i k) (y : List ℕ) (e : y ≡ row_put H i k x) where
    next_fits : (t : ℕ) → t < columns_size H → at y t + entry_share H.n i c t < 18446744073709551616
    next_fits t l =
        omega (
          arith,
          fits t l,
          ap (λ (z : List ℕ). at z t) e,
          put-at k t (omega arith),
          row-part H i k t h,
          ap (λ (z : ℕ). entry_share H.n i z t) s,
        )

    -- a row that fits has entries that fit: the word
    pub word_fits : at y (16 * c + i / 64) + 2 ^ (i % 64) < 18446744073709551616
    unfolding columns_size
    word_fits = omega (arith, next_fits (16 * c + i / 64) (omega (arith, s, a.rows.below i k row h, a.sizes.m_most)), entry-bit H.n i c)

    -- and the weight
    pub weight-fits : at y (16 * H.n + c) + 1 < 18446744073709551616
    unfolding columns_size
    weight-fits = omega (arith, next_fits (16 * H.n + c) (omega (arith, s, a.rows.below i k row h)), entry-one H.n i c)

-- ---- all rows

module _ (H : Matrix) where
  -- no row is added yet
  pub puts_none : (x : List ℕ) → x ≡ rows_put H 0 x
  unfolding rows_put
  puts_none x = refl

  -- one row more
  pub puts-next : (i : ℕ) (x₀ x y : List ℕ) → x ≡ rows_put H i x₀ → y ≡ row_put H i H.rho x → y ≡ rows_put H (i + 1) x₀
  unfolding rows_put
  puts-next i x₀ x y e q = rw (add-one i) (q ∙ ap (row_put H i H.rho) e)

  -- adding rows leaves the cells as many as they were
  puts-long : (i : ℕ) (x : List ℕ) → length (rows_put H i x) ≡ length x
  unfolding rows_put
  puts-long zero x = refl
  puts-long (suc i) x = put-long H i H.rho (rows_put H i x) ∙ puts-long i x

module _ (H : Matrix) (a : Accepted H) where
  -- each cell has the rows' shares more
  puts-at : (x : List ℕ) → columns_size H ≤ length x → (i t : ℕ) → i ≤ H.m → at (rows_put H i x) t ≡ at x t + rows_share H i t
  unfolding rows_put rows_share sum_below
  puts-at x room zero t h = omega arith
  puts-at x room (suc i) t h =
      omega (arith, put-at H a i h (rows_put H i x) (omega (arith, puts-long H i x)) H.rho t (omega arith), puts-at x room i t (omega arith))

  module _ (old x : List ℕ) (room : columns_size H ≤ length old) (e : x ≡ over (listed (columns_size H) blank) old) where
    cleared-long : length x ≡ length old
    cleared-long = over-long (columns_size H) blank old x e room

    -- what is filled stays as long as the memory was
    pub puts-room : (i : ℕ) (y : List ℕ) → y ≡ rows_put H i x → length y ≡ length old
    puts-room i y q = ap length q ∙ puts-long H i x ∙ cleared-long

    -- a cell that was cleared holds what the rows add
    filled : (i t : ℕ) → i ≤ H.m → t < columns_size H → at (rows_put H i x) t ≡ rows_share H i t
    unfolding blank
    filled i t h l = omega (arith, puts-at x (omega (arith, cleared-long)) i t h, over-at (columns_size H) blank old x e 0 t l)

    -- so the next row fits
    pub puts-fit : (i : ℕ) (y : List ℕ) → i < H.m → y ≡ rows_put H i x → RowFits H i y
    puts-fit i y h q t l = omega (arith, ap (λ (z : List ℕ). at z t) q, filled i t (omega arith) l, rows_fit H a i t h l)

    -- all rows added to cleared cells are the columns, and the cells past them are as they were
    pub rows-done : (y : List ℕ) → y ≡ rows_put H H.m x → y ≡ over (columns_of H) old
    unfolding columns_of
    rows-done y q =
        q ∙ ext_get_or 0 (rows_put H H.m x) (over (listed (columns_size H) (column_cell H)) old)
        (puts-room H.m (rows_put H H.m x) refl ∙ sym (over-long (columns_size H) (column_cell H) old _ refl room))
        (λ t h. elim (dec_lt t (columns_size H)) [
          | yes l ↦
              filled H.m t (omega arith) l ∙ cell-all H a t l
              ∙ sym (over-at (columns_size H) (column_cell H) old (over (listed (columns_size H) (column_cell H)) old) refl 0 t l)
          | no g ↦
              omega (
                arith,
                puts-at x (omega (arith, cleared-long)) H.m t (omega arith),
                past_all H a t (omega arith),
                over-rest (columns_size H) blank old x e 0 t (omega arith),
                over-rest (columns_size H) (column_cell H) old (over (listed (columns_size H) (column_cell H)) old) refl 0 t (omega arith),
              )
        ])
