-- Laws of rows written into a list from a place on.
--   put-none, put_next     == a row's first values: none yet, and one more
--   put-long               == the list stays as long as it was
--   rows_none, rows_next   == rows: none yet, and one more
--   rows_long              == the list stays as long as it was
--   rows-cong              == rows of equal values are equal
--   rows-over              == a list whose first p numbers are written has, with the next rows, so many more written
-- Assumes nothing.
use mathlib.Core.Path.{◌≡◌, refl, ap, ap₂, ◌∙◌}
use mathlib.Core.List.{List}
use Prim.Native.Nat.{ℕ, zero, suc, ◌+◌, ◌*◌, ◌≤◌, ◌<◌}
use native.Mathlib.Nat.{suc-mul}
use native.Mathlib.Numerals.{add-one}
use native.Mathlib.Omega.{arith}
use lib.ListN.{length, set, length-set}
use Rattle.counting.specs.Paper.Lists.{listed, over}
use Rattle.counting.proofs.Writes.{over-more}
use Rattle.sheet_rows.specs.Parts.{put_from, put_rows}

-- ---- one row

module _ (p : ℕ) (f : ℕ → ℕ) (l : List ℕ) where
  -- nothing is written yet
  pub put-none : l ≡ put_from p 0 f l
  unfolding put_from
  put-none = refl

  -- the next value is written
  pub put_next : (k v : ℕ) (x : List ℕ) → x ≡ put_from p k f l → v ≡ f k → set x (p + k) v ≡ put_from p (k + 1) f l
  unfolding put_from
  put_next k v x e q = rw (e, q, add-one k) refl

  -- the list stays as long as it was
  pub put-long : (k : ℕ) → length (put_from p k f l) ≡ length l
  unfolding put_from
  put-long zero = refl
  put-long (suc k) = length-set (put_from p k f l) (p + k) (f k) ∙ put-long k

-- rows of equal values are equal
put-cong : (p w : ℕ) (f g : ℕ → ℕ) (l : List ℕ) → ((k : ℕ) → k < w → f k ≡ g k) → put_from p w f l ≡ put_from p w g l
unfolding put_from
put-cong p zero f g l h = refl
put-cong p (suc k) f g l h = ap₂ (λ (x : List ℕ) (v : ℕ). set x (p + k) v) (put-cong p k f g l (λ q b. h q (omega arith))) (h k (omega arith))

-- a row behind p written numbers
put-over : (p w : ℕ) (f g : ℕ → ℕ) (old : List ℕ) → p + w ≤ length old → ((k : ℕ) → k < w → f k ≡ g (p + k))
    → put_from p w f (over (listed p g) old) ≡ over (listed (p + w) g) old
unfolding put_from
put-over p zero f g old room h = ap (λ (k : ℕ). over (listed k g) old) (omega arith)
put-over p (suc k) f g old room h =
    ap₂ (λ (x : List ℕ) (v : ℕ). set x (p + k) v) (put-over p k f g old (omega arith) (λ q b. h q (omega arith))) (h k (omega arith))
    ∙ over-more (p + k) g old (omega arith)
    ∙ ap (λ (k : ℕ). over (listed k g) old) (omega arith)

-- ---- rows

module _ (p w : ℕ) (f : ℕ → ℕ → ℕ) (l : List ℕ) where
  -- no row is written yet
  pub rows_none : l ≡ put_rows p w f 0 l
  unfolding put_rows
  rows_none = refl

  -- the next row is written
  pub rows_next : (i q : ℕ) (x y : List ℕ) → x ≡ put_rows p w f i l → q ≡ p + i * w → y ≡ put_from q w (f i) x → y ≡ put_rows p w f (i + 1) l
  unfolding put_rows
  rows_next i q x y e at e' = rw (add-one i) (e' ∙ ap₂ (λ (q : ℕ) (x : List ℕ). put_from q w (f i) x) at e)

  -- the list stays as long as it was
  pub rows_long : (i : ℕ) → length (put_rows p w f i l) ≡ length l
  unfolding put_rows
  rows_long zero = refl
  rows_long (suc i) = put-long (p + i * w) (f i) (put_rows p w f i l) w ∙ rows_long i

-- rows of equal values are equal
pub rows-cong : (p w : ℕ) (f g : ℕ → ℕ → ℕ) (z : ℕ) (l : List ℕ) → ((i k : ℕ) → i < z → k < w → f i k ≡ g i k)
    → put_rows p w f z l ≡ put_rows p w g z l
unfolding put_rows
rows-cong p w f g zero l h = refl
rows-cong p w f g (suc i) l h =
    put-cong (p + i * w) w (f i) (g i) (put_rows p w f i l) (λ k b. h i k (omega arith) b)
    ∙ ap (put_from (p + i * w) w (g i)) (rows-cong p w f g i l (λ j k a b. h j k (omega arith) b))

-- rows behind p written numbers
pub rows-over : (p w : ℕ) (f : ℕ → ℕ → ℕ) (g : ℕ → ℕ) (z : ℕ) (old : List ℕ) → p + z * w ≤ length old
    → ((i k : ℕ) → i < z → k < w → f i k ≡ g (p + i * w + k)) → put_rows p w f z (over (listed p g) old) ≡ over (listed (p + z * w) g) old
unfolding put_rows
rows-over p w f g zero old room h = ap (λ (k : ℕ). over (listed k g) old) (omega arith)
rows-over p w f g (suc i) old room h =
    ap (put_from (p + i * w) w (f i)) (rows-over p w f g i old (omega (arith, suc-mul i w)) (λ j k a b. h j k (omega arith) b))
    ∙ put-over (p + i * w) w (f i) g old (omega (arith, suc-mul i w)) (λ k b. h i k (omega arith) b)
    ∙ ap (λ (k : ℕ). over (listed k g) old) (omega (arith, suc-mul i w))
