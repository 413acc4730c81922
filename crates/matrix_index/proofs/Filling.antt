-- Laws of an index that is filled: writing the rows at their places, over the starting places, makes it the index of the matrix.
--   put-long        == writing a row leaves the index as long as it was
--   size_is         == the index's size as the code adds it up
--   put-none        == nothing is written yet
--   put_step        == one entry more is written
--   put_next        == the same at the place that the cursor tells
--   puts-step       == one row more is written
--   puts-long       == writing rows leaves the index as long as it was
--   started         == the memory once the starting places are written
--   puts_none       == no row is written yet
--   puts-next       == the next row is written
--   begun-long      == the starting places leave the memory as long as it was
--   rows_all        == all rows over the starting places are the index, and the rest of the memory is as it was
--   rows-done       == the same for the starting places as they are counted
--   puts-room       == what is written stays as long as the memory was
--   size_small      == the index has at most 33,760 numbers
--   size-past       == and more than n
--   index-front     == the front of the memory in which the index is written is the index
--   index-fits      == and lies in that memory
-- Assumes nothing.
use mathlib.Core.Path.{◌≡◌, refl, sym, ap, ap₂, ◌∙◌}
use mathlib.Core.List.{List}
use mathlib.Core.Logic.{inl, inr}
use Prim.Native.Nat.{ℕ, zero, suc, ◌+◌, ◌*◌, ◌≤◌, ◌<◌}
use native.Mathlib.Nat.{not-suc-le-zero}
use native.Mathlib.Numerals.{add-one}
use native.Mathlib.Decide.{ℕ_discrete, dec_lt}
use native.Mathlib.Omega.{arith}
use lib.ListN.{length, set, take, length-set}
use lib.Seq.{get_or-set_other, ext_get_or}
use Rattle.counting.specs.Paper.Lists.{listed, over}
use Rattle.counting.specs.Places.{at}
use Rattle.counting.proofs.Writes.{length-listed, get_or-listed, length_over, get_or-over-new, get_or-over-old, take-over, stored}
use Rattle.matrix.specs.Paper.Code.{Matrix}
use Rattle.matrix.specs.Paper.PlainCheck.{Accepted}
use Rattle.matrix.proofs.Rows.{few-entries}
use Rattle.matrix_index.specs.Paper.Index.{column_start, index_of, index_size}
use Rattle.matrix_index.specs.Filling.{row_place, row_put, rows_put}
use Rattle.matrix_index.proofs.Parts.{index-long, index-start, index-row, place-past, place_inside, place-own, index-covers}

-- the index's size as the code adds it up
pub size_is : (H : Matrix) → H.n + 1 + H.m * H.rho ≡ index_size H
unfolding index_size
size_is H = omega arith

-- nothing is written yet
pub put-none : (H : Matrix) (i : ℕ) (x : List ℕ) → x ≡ row_put H i 0 x
unfolding row_put
put-none H i x = refl

-- one entry more is written
pub put_step : (H : Matrix) (i k : ℕ) (x : List ℕ) → set (row_put H i k x) (row_place H i k) i ≡ row_put H i (k + 1) x
unfolding row_put
put_step H i k x = rw (add-one k) refl

-- the same at the place that the cursor tells
pub put_next : (H : Matrix) (i k p : ℕ) (x₀ x : List ℕ) → p ≡ row_place H i k → x ≡ row_put H i k x₀ → set x p i ≡ row_put H i (k + 1) x₀
put_next H i k p x₀ x e q = rw (e, q) (put_step H i k x₀)

-- one row more is written
pub puts-step : (H : Matrix) (i : ℕ) (x : List ℕ) → row_put H i H.rho (rows_put H i x) ≡ rows_put H (i + 1) x
unfolding rows_put
puts-step H i x = rw (add-one i) refl

-- writing a row leaves the index as long as it was
pub put-long : (H : Matrix) (i k : ℕ) (x : List ℕ) → length (row_put H i k x) ≡ length x
unfolding row_put
put-long H i zero x = refl
put-long H i (suc k) x = length-set (row_put H i k x) (row_place H i k) i ∙ put-long H i k x

-- writing rows does too
pub puts-long : (H : Matrix) (i : ℕ) (x : List ℕ) → length (rows_put H i x) ≡ length x
unfolding rows_put
puts-long H zero x = refl
puts-long H (suc i) x = put-long H i H.rho (rows_put H i x) ∙ puts-long H i x

-- what the starting places leave
abbrev pub started : Matrix → List ℕ → List ℕ
started H x = over (listed (suc H.n) (column_start H)) x

-- no row is written yet
pub puts_none : (H : Matrix) (x : List ℕ) → x ≡ rows_put H 0 x
unfolding rows_put
puts_none H x = refl

-- the next row is written
pub puts-next : (H : Matrix) (i : ℕ) (x₀ x y : List ℕ) → x ≡ rows_put H i x₀ → y ≡ row_put H i H.rho x → y ≡ rows_put H (i + 1) x₀
puts-next H i x₀ x y e q = q ∙ ap (row_put H i H.rho) e ∙ puts-step H i x₀

module _ (H : Matrix) (a : Accepted H) where
  -- the index has at most 33,760 numbers
  pub size_small : index_size H ≤ 33760
  unfolding index_size
  size_small = omega (arith, few-entries H a.sizes, a.sizes.n_most)

  -- and room for the starting places
  pub size-past : suc H.n ≤ index_size H
  unfolding index_size
  size-past = omega arith

  module _ (old x : List ℕ) (e : x ≡ over (index_of H) old) where
    -- the front of the memory in which the index is written is the index
    pub index-front : take (H.n + 1 + H.m * H.rho) x ≡ index_of H
    index-front =
        ap₂ (λ (k : ℕ) (y : List ℕ). take k y) (size_is H ∙ sym (index-long H a.rows)) e ∙ take-over (index_of H) old

    -- and lies in that memory
    pub index-fits : index_size H ≤ length old → H.n + 1 + H.m * H.rho ≤ length x
    index-fits l = omega (arith, size_is H, ap length e, length_over (index_of H) old (omega (arith, index-long H a.rows)))

  module _ (i : ℕ) (row : i < H.m) (x : List ℕ) where
    -- a place that is none of the row's stays
    put_other : (k c : ℕ) → k ≤ H.rho → ((q : ℕ) → q < H.rho → c ≡ row_place H i q → ⊥) → at (row_put H i k x) c ≡ at x c
    unfolding row_put
    put_other zero c h off = refl
    put_other (suc k) c h off =
        get_or-set_other (row_put H i k x) (row_place H i k) c i 0 (λ e. off k (omega arith) e) ∙ put_other k c (omega arith) off

    -- a row that stands at its place stays there
    put-stays : (k r q : ℕ) → k ≤ H.rho → r < H.m → q < H.rho → index_size H ≤ length x → at x (row_place H r q) ≡ r
        → at (row_put H i k x) (row_place H r q) ≡ r
    unfolding row_put
    put-stays zero r q h l g room e = e
    put-stays (suc k) r q h l g room e =
        elim (stored (row_put H i k x) (row_place H i k) i (row_place H r q)
        (omega (arith, put-long H i k x, place_inside H a.rows i k row h))) [
          | inl s ↦ s.0 ∙ place-own H a.rows i k r q row h l g (sym s.1)
          | inr s ↦ s.0 ∙ put-stays k r q (omega arith) l g room e
        ]

    -- the row stands at the places of its entries
    put-there : (k q : ℕ) → k ≤ H.rho → q < k → index_size H ≤ length x → at (row_put H i k x) (row_place H i q) ≡ i
    unfolding row_put
    put-there zero q h l room = absurd (not-suc-le-zero l)
    put-there (suc k) q h l room =
        elim (stored (row_put H i k x) (row_place H i k) i (row_place H i q)
        (omega (arith, put-long H i k x, place_inside H a.rows i k row h))) [
          | inl s ↦ s.0
          | inr s ↦ s.0 ∙ put-there k q (omega arith) (before-it s.1) room
        ]
      where
        before-it : (row_place H i q ≡ row_place H i k → ⊥) → q < k
        before-it ne = elim (ℕ_discrete q k) [ yes e ↦ absurd (ne (ap (row_place H i) e)) | no n ↦ omega arith ]

  -- a place that is no row's stays
  puts-other : (i c : ℕ) (x : List ℕ) → i ≤ H.m → ((r q : ℕ) → r < H.m → q < H.rho → c ≡ row_place H r q → ⊥) → at (rows_put H i x) c ≡ at x c
  unfolding rows_put
  puts-other zero c x h off = refl
  puts-other (suc i) c x h off =
      put_other i h (rows_put H i x) H.rho c (omega arith) (λ q l. off i q h l) ∙ puts-other i c x (omega arith) off

  -- the rows stand at the places of their entries
  puts-there : (i r q : ℕ) (x : List ℕ) → i ≤ H.m → r < i → q < H.rho → index_size H ≤ length x → at (rows_put H i x) (row_place H r q) ≡ r
  unfolding rows_put
  puts-there zero r q x h l g room = absurd (not-suc-le-zero l)
  puts-there (suc i) r q x h l g room =
      elim (ℕ_discrete r i) [
        | yes e ↦ rw e (put-there i h (rows_put H i x) H.rho q (omega arith) g long)
        | no ne ↦
            put-stays i h (rows_put H i x) H.rho r q (omega arith) (omega arith) g long (puts-there i r q x (omega arith) (omega arith) g room)
      ]
    where
      long : index_size H ≤ length (rows_put H i x)
      long = omega (arith, puts-long H i x)

  module _ (x : List ℕ) (room : index_size H ≤ length x) where
    abbrev begun : List ℕ
    begun = started H x

    -- the starting places leave the memory as long as it was
    pub begun-long : length begun ≡ length x
    unfolding index_size
    begun-long = length_over (listed (suc H.n) (column_start H)) x (omega (arith, length-listed (suc H.n) (column_start H)))

    -- a starting place, as written and as it is to be
    start-there : (c : ℕ) → c < suc H.n → at begun c ≡ at (index_of H) c
    start-there c l =
        get_or-over-new (listed (suc H.n) (column_start H)) x c 0 (omega (arith, length-listed (suc H.n) (column_start H)))
        ∙ get_or-listed (suc H.n) (column_start H) c 0 l
        ∙ sym (index-start H a.rows c l)

    -- each cell
    cell-right : (c : ℕ) → at (rows_put H H.m begun) c ≡ at (over (index_of H) x) c
    unfolding index_size
    cell-right c =
        elim (dec_lt c (suc H.n)) [
          | yes l ↦
              puts-other H.m c begun (omega arith) (λ r q h g e. omega (arith, place-past H a.rows r q h g))
              ∙ start-there c l
              ∙ sym (get_or-over-new (index_of H) x c 0 (omega (arith, index-long H a.rows)))
          | no g ↦
              elim (dec_lt c (index_size H)) [
                | yes l ↦
                    let p = index-covers H a.rows c (omega arith) l in
                    rw p.4
                    (puts-there H.m p.0 p.1 begun (omega arith) p.2 p.3 (omega (arith, begun-long))
                    ∙ sym (index-row H a.rows p.0 p.1 p.2 p.3)
                    ∙ sym (get_or-over-new (index_of H) x (row_place H p.0 p.1) 0
                    (omega (arith, index-long H a.rows, place_inside H a.rows p.0 p.1 p.2 p.3))))
                | no f ↦
                    puts-other H.m c begun (omega arith) (λ r q h l e. omega (arith, place_inside H a.rows r q h l))
                    ∙ get_or-over-old (listed (suc H.n) (column_start H)) x c 0
                    (omega (arith, length-listed (suc H.n) (column_start H)))
                    ∙ sym (get_or-over-old (index_of H) x c 0 (omega (arith, index-long H a.rows)))
              ]
        ]

    -- all rows over the starting places are the index, and the rest of the memory is as it was
    pub rows_all : rows_put H H.m begun ≡ over (index_of H) x
    rows_all =
        ext_get_or 0 (rows_put H H.m begun) (over (index_of H) x)
        (puts-long H H.m begun ∙ begun-long ∙ sym (length_over (index_of H) x (omega (arith, index-long H a.rows))))
        (λ c h. cell-right c)

    module _ (y : List ℕ) (e : y ≡ over (listed (H.n + 1) (column_start H)) x) where
      begun-is : y ≡ begun
      begun-is = e ∙ ap (λ (k : ℕ). over (listed k (column_start H)) x) (add-one H.n)

      -- all rows over the starting places as they are counted
      pub rows-done : (z : List ℕ) → z ≡ rows_put H H.m y → z ≡ over (index_of H) x
      rows-done z q = q ∙ ap (rows_put H H.m) begun-is ∙ rows_all

      -- what is written stays as long as the memory was
      pub puts-room : (i : ℕ) (z : List ℕ) → z ≡ rows_put H i y → length z ≡ length x
      puts-room i z q = ap length q ∙ puts-long H i y ∙ ap length begun-is ∙ begun-long
