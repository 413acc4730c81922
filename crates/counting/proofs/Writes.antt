-- Laws of lists by their places, and of buffers overwritten at the front.
--   length-listed                      == the list of k values has length k
--   get_or-listed                      == the value at place i of the list is f i
--   listed-cong                        == lists of equal values are equal
--   listed-get_or                      == a list is the list of its values
--   length_over                        == a buffer overwritten at the front stays as long as it was
--   get_or-over-new, get_or-over-old   == the written places have the new values, the others stay
--   take-over                          == the front of the buffer is what was written
--   drop-over                          == the rest of the buffer is what stood there
--   over_none                          == where nothing is written yet the buffer is as it was
--   over-more                          == one store more writes one place more
--   stored                             == what stands at a place after a store: the stored value there, the old one elsewhere
--   zeros                              == an array of zeros is zero at every place, past its end too
--   over-long                          == a buffer that has been written stays as long as it was
--   over-step                          == a store of the next value writes one place more
--   over-at, over-rest                 == the values written are f's, and the other places stay
--   over-over                          == of two writings of one length the later stands
-- Assumes nothing.
use mathlib.Core.Path.{◌≡◌, refl, sym, ap, ◌∙◌}
use mathlib.Core.List.{List, [], ◌∷◌, ◌++◌}
use mathlib.Core.Logic.{◌⊎◌, inl, inr, ⊎_elim}
use Prim.Native.Nat.{ℕ, zero, suc, ◌+◌, ◌-◌, ◌≤◌, ◌<◌}
use native.Mathlib.Nat.{le_of_suc-le-suc, not-suc-le-zero, eq-or-lt_of_le}
use native.Mathlib.Numerals.{add-one}
use native.Mathlib.Decide.{ℕ_discrete}
use native.Mathlib.Omega.{arith}
use lib.ListN.{length, get_or, drop, take, set, replicate, length-append, length-drop, get_or-append}
use lib.Seq.{get_or-append-add, get_or-append_seam, get_or-drop, take-append_seam, drop-append_seam, drop-cons, append_snoc}
use lib.Seq.{set_at, get_or-set_same, get_or-set_other, ext_get_or}
use Rattle.counting.specs.Paper.Lists.{listed, over}

module _ {A : Type 0} where
  -- the list of k values has length k
  pub length-listed : (k : ℕ) (f : ℕ → A) → length (listed k f) ≡ k
  unfolding listed
  length-listed zero f = refl
  length-listed (suc k) f = length-append (listed k f) _ ∙ omega (arith, length-listed k f)

  -- the value at a place of the list
  pub get_or-listed : (k : ℕ) (f : ℕ → A) (i : ℕ) (d : A) → i < k → get_or (listed k f) i d ≡ f i
  unfolding listed
  get_or-listed zero f i d l = absurd (not-suc-le-zero l)
  get_or-listed (suc k) f i d l =
      ⊎_elim
      (λ e. rw e (ap (λ (x : ℕ). get_or (listed k f ++ (f k ∷ [])) x d) (sym (length-listed k f)) ∙ get_or-append_seam (listed k f) (f k) [] d))
      (λ m. get_or-append (listed k f) (f k ∷ []) d i (omega (arith, length-listed k f)) ∙ get_or-listed k f i d m) (eq-or-lt_of_le (le_of_suc-le-suc l))

  -- lists of equal values
  pub listed-cong : (k : ℕ) (f g : ℕ → A) → ((i : ℕ) → i < k → f i ≡ g i) → listed k f ≡ listed k g
  unfolding listed
  listed-cong zero f g h = refl
  listed-cong (suc k) f g h = rw (listed-cong k f g (λ i l. h i (omega arith)), h k (omega arith))

  -- a list is the list of its values
  pub listed-get_or : (l : List A) (d : A) → listed (length l) (λ i. get_or l i d) ≡ l
  listed-get_or l d =
      ext_get_or d (listed (length l) (λ i. get_or l i d)) l (length-listed (length l) (λ i. get_or l i d))
      (λ i h. get_or-listed (length l) (λ i. get_or l i d) i d (omega (arith, length-listed (length l) (λ i. get_or l i d))))

  -- a buffer overwritten at the front stays as long as it was
  pub length_over : (new old : List A) → length new ≤ length old → length (over new old) ≡ length old
  unfolding over
  length_over new old h =
      length-append new (drop (length new) old) ∙ omega (arith, length-drop (length new) old)

  -- the written places, and those that stay
  pub get_or-over-new : (new old : List A) (i : ℕ) (d : A) → i < length new → get_or (over new old) i d ≡ get_or new i d
  unfolding over
  get_or-over-new new old i d l = get_or-append new (drop (length new) old) d i l

  pub get_or-over-old : (new old : List A) (i : ℕ) (d : A) → length new ≤ i → get_or (over new old) i d ≡ get_or old i d
  unfolding over
  get_or-over-old new old i d l =
      let e : length new + (i - length new) ≡ i = omega arith in
      ap (λ (x : ℕ). get_or (new ++ drop (length new) old) x d) (sym e)
      ∙ get_or-append-add new (drop (length new) old) (i - length new) d
      ∙ get_or-drop (length new) old (i - length new) d
      ∙ ap (λ (x : ℕ). get_or old x d) e

  -- the front of the buffer is what was written
  pub take-over : (new old : List A) → take (length new) (over new old) ≡ new
  unfolding over
  take-over new old = take-append_seam new (drop (length new) old)

  -- the rest of the buffer is what stood there
  pub drop-over : (new old : List A) → drop (length new) (over new old) ≡ drop (length new) old
  unfolding over
  drop-over new old = drop-append_seam new (drop (length new) old)

  -- nothing is written yet
  pub over_none : (f : ℕ → A) (old : List A) → over (listed zero f) old ≡ old
  unfolding over listed
  over_none f old = refl

  -- one place more is written
  pub over-more : (k : ℕ) (f : ℕ → A) (old : List A) → k < length old → set (over (listed k f) old) k (f k) ≡ over (listed (suc k) f) old
  unfolding over listed
  over-more k f old l =
      let n : length (listed k f) ≡ k = length-listed k f in
      let n' : length (listed k f ++ (f k ∷ [])) ≡ suc k = length-append (listed k f) (f k ∷ []) ∙ omega (arith, n) in
      ap (λ (x : ℕ). set (listed k f ++ drop x old) k (f k)) n
      ∙ ap (λ (x : List A). set (listed k f ++ x) k (f k)) (drop-cons old k (f k) l)
      ∙ set_at (listed k f) (get_or old k (f k)) (drop (suc k) old) (f k) k n
      ∙ sym (append_snoc (listed k f) (f k) (drop (suc k) old))
      ∙ ap (λ (x : ℕ). (listed k f ++ (f k ∷ [])) ++ drop x old) (sym n')

-- ---- one store in a list of numbers

-- what stands at a place after a store: the stored value there, the old one elsewhere
pub stored : (l : List ℕ) (x v i : ℕ) → x < length l
    → ((get_or (set l x v) i 0 ≡ v) × (i ≡ x)) ⊎ ((get_or (set l x v) i 0 ≡ get_or l i 0) × (i ≡ x → ⊥))
stored l x v i h =
    elim (ℕ_discrete i x) [ yes e ↦ inl (rw e (get_or-set_same l x v 0 h), e) | no ne ↦ inr (get_or-set_other l x i v 0 ne, ne) ]

-- an array of zeros is zero at every place, past its end too
pub zeros : (k i : ℕ) → get_or {A = ℕ} (replicate k 0) i 0 ≡ 0
zeros zero i = refl
zeros (suc k) zero = refl
zeros (suc k) (suc i) = zeros k i

-- ---- a loop that overwrites a buffer from its front

module _ {A : Type 0} (k : ℕ) (f : ℕ → A) (old new : List A) (e : new ≡ over (listed k f) old) where
  -- the buffer stays as long as it was
  pub over-long : k ≤ length old → length new ≡ length old
  over-long h = ap length e ∙ length_over (listed k f) old (omega (arith, length-listed k f))

  -- one store at the next place
  pub over-step : (v : A) → k < length old → v ≡ f k → set new k v ≡ over (listed (k + 1) f) old
  over-step v h q = rw (e, q, add-one k) (over-more k f old h)

  -- the values written, and the places that stay
  pub over-at : (d : A) (i : ℕ) → i < k → get_or new i d ≡ f i
  over-at d i h = ap (λ (x : List A). get_or x i d) e ∙ get_or-over-new (listed k f) old i d (omega (arith, length-listed k f)) ∙ get_or-listed k f i d h

  pub over-rest : (d : A) (i : ℕ) → k ≤ i → get_or new i d ≡ get_or old i d
  over-rest d i h = ap (λ (x : List A). get_or x i d) e ∙ get_or-over-old (listed k f) old i d (omega (arith, length-listed k f))

-- the later of two writings of one length
pub over-over : {A : Type 0} (a b old : List A) → length a ≡ length b → over a (over b old) ≡ over a old
unfolding over
over-over a b old e =
    ap (λ (x : ℕ). a ++ drop x (over b old)) e ∙ ap (λ (x : List _). a ++ x) (drop-over b old) ∙ ap (λ (x : ℕ). a ++ drop x old) (sym e)
