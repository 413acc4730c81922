-- Laws of lists of places: one place more is looked at, and a sum over a list of places.
--   places-none   == no place is looked at yet
--   places-step   == one place more is looked at
--   places-pass   == one place more that is not counted needs no writing
--   places-skip   == nor do several
--   listed-none   == no place is written over the list yet
--   listed-step   == one place more is written over it
--   listed-cong   == places written by one test are written so by a test that agrees with it below m
--   places-sum    == a sum over a list of places is one over all places
-- Assumes nothing.
use mathlib.Core.Path.{◌≡◌, refl, sym, ap, ap₂, ◌∙◌}
use mathlib.Core.List.{List}
use Prim.Native.Nat.{ℕ, zero, suc, ◌+◌, ◌*◌, ◌<◌}
use native.Mathlib.Nat.{add-zero, add-suc}
use native.Mathlib.Numerals.{add-one}
use native.Mathlib.Decide.{ℕ_discrete}
use native.Mathlib.Omega.{arith}
use lib.ListN.{length, set, length-set}
use lib.Seq.{get_or-set_same, get_or-set_other}
use Rattle.counting.specs.Paper.Sum.{sum_below, same}
use Rattle.counting.specs.Places.{at}
use Rattle.counting.proofs.Sums.{sum-cong, sum-zero, sum-swap, sum-pick, sum-mul-right, same_refl, same-ne}
use Rattle.syndrome.specs.Places.{Places, places_over, PlacesListed}

-- no place is looked at yet
pub places-none : (f : ℕ → ℕ) (l : List ℕ) → length l ≡ 1023 → Places f 0 l 0
unfolding sum_below
places-none f l e =
    record { long = e; few = omega arith; below = λ q h. absurd (omega arith); each = λ x h. absurd (omega arith); total = refl }

module _ (f : ℕ → ℕ) (i : ℕ) (l : List ℕ) (t : ℕ) (p : Places f i l t) (room : i < 1023) where
  -- the place i, written behind the list
  abbrev next : List ℕ
  next = set l t i

  written : at next t ≡ i
  written = get_or-set_same l t i 0 (omega (arith, p.few, p.long))

  kept : (q : ℕ) → q < t → at next q ≡ at l q
  kept q h = get_or-set_other l t q i 0 (λ e. omega arith)

  kept-sum : (x : ℕ) → sum_below t (λ q. same (at next q) x) ≡ sum_below t (λ q. same (at l q) x)
  kept-sum x = sum-cong t (λ q h. ap (λ (y : ℕ). same y x) (kept q h))

  fresh : sum_below t (λ q. same (at l q) i) ≡ 0
  fresh = sum-zero t (λ q h. same-ne (at l q) i (λ e. omega (arith, p.below q h)))

  -- it is not counted, and the next place is written over it
  left_out : f i ≡ 0 → Places f (i + 1) next (t + 0)
  unfolding sum_below
  left_out e =
      rw (add-zero t, add-one i)
      record {
        long = length-set l t i ∙ p.long;
        few = omega (arith, p.few);
        below = λ q h. omega (arith, kept q h, p.below q h);
        each = λ x h. kept-sum x ∙ elim (ℕ_discrete x i) [ yes q ↦ rw q (fresh ∙ sym e) | no ne ↦ p.each x (omega arith) ];
        total = omega (arith, p.total);
      }

  -- it is counted
  taken_in : f i ≡ 1 → Places f (i + 1) next (t + 1)
  unfolding sum_below
  taken_in e =
      rw (add-one t, add-one i)
      record {
        long = length-set l t i ∙ p.long;
        few = omega (arith, p.few);
        below = λ q h. elim (ℕ_discrete q t) [
          | yes g ↦ omega (arith, ap (at next) g, written)
          | no ne ↦ let b : q < t = omega arith in omega (arith, kept q b, p.below q b)
        ];
        each = λ x h. elim (ℕ_discrete x i) [
          | yes q ↦ rw q (omega (arith, kept-sum i, fresh, ap (λ (y : ℕ). same y i) written, same_refl i))
          | no ne ↦ omega (arith, kept-sum x, p.each x (omega arith), ap (λ (y : ℕ). same y x) written, same-ne i x (λ q. ne (sym q)))
        ];
        total = omega (arith, p.total);
      }

  -- one place more
  pub places-step : (x : ℕ) → x ≡ f i → x < 2 → Places f (i + 1) next (t + x)
  places-step zero e h = left_out (sym e)
  places-step (suc zero) e h = taken_in (sym e)
  places-step (suc (suc x)) e h = absurd (omega arith)

-- ---- places that are not counted

-- one of them needs no writing
pub places-pass : (f : ℕ → ℕ) (i : ℕ) (l : List ℕ) (t : ℕ) → Places f i l t → f i ≡ 0 → Places f (suc i) l t
unfolding sum_below
places-pass f i l t p e =
    record {
      long = p.long;
      few = omega (arith, p.few);
      below = λ q h. omega (arith, p.below q h);
      each = λ x h. elim (ℕ_discrete x i) [
        | yes g ↦ rw g (sum-zero t (λ q k. same-ne (at l q) i (λ s. omega (arith, s, p.below q k))) ∙ sym e)
        | no ne ↦ p.each x (omega arith)
      ];
      total = omega (arith, p.total);
    }

-- nor do several
pub places-skip : (f : ℕ → ℕ) (i k : ℕ) (l : List ℕ) (t : ℕ) → Places f i l t → ((d : ℕ) → d < k → f (i + d) ≡ 0) → Places f (i + k) l t
places-skip f i zero l t p e = rw (add-zero i) p
places-skip f i (suc k) l t p e =
    rw (add-suc i k) (places-pass f (i + k) l t (places-skip f i k l t p (λ d h. e d (omega arith))) (e k (omega arith)))

-- ---- the list with all its cells

-- no place is written over the list yet
pub listed-none : (f : ℕ → ℕ) (l : List ℕ) → length l ≡ 1023 → PlacesListed f 0 l l 0
unfolding places_over
listed-none f l e = record { cells = refl; places = places-none f l e }

-- one place more is written over it
pub listed-step : (f : ℕ → ℕ) (i : ℕ) (l₀ l : List ℕ) (t : ℕ) → PlacesListed f i l₀ l t → i < 1023 → (x : ℕ) → x ≡ f i → x < 2
    → PlacesListed f (i + 1) l₀ (set l t i) (t + x)
unfolding places_over
listed-step f i l₀ l t p room x e h =
    record {
      cells = ap₂ (λ (y : List ℕ) (k : ℕ). set y k i) p.cells p.places.total ∙ ap (λ (k : ℕ). places_over f k l₀) (sym (add-one i));
      places = places-step f i l t p.places room x e h;
    }

-- the cells by a test that agrees below m
over-cong : (f g : ℕ → ℕ) (l : List ℕ) (m : ℕ) → ((i : ℕ) → i < m → f i ≡ g i) → places_over f m l ≡ places_over g m l
unfolding places_over
over-cong f g l zero e = refl
over-cong f g l (suc m) e =
    ap₂ (λ (y : List ℕ) (k : ℕ). set y k m) (over-cong f g l m (λ i h. e i (omega arith))) (sum-cong m (λ i h. e i (omega arith)))

-- places written by one test are written so by a test that agrees with it below m
pub listed-cong : (f g : ℕ → ℕ) (m : ℕ) (l₀ l : List ℕ) (t : ℕ) → ((i : ℕ) → i < m → f i ≡ g i) → PlacesListed f m l₀ l t → PlacesListed g m l₀ l t
listed-cong f g m l₀ l t e p =
    record {
      cells = p.cells ∙ over-cong f g l₀ m e;
      places = record {
        long = p.places.long;
        few = p.places.few;
        below = p.places.below;
        each = λ x h. p.places.each x h ∙ e x h;
        total = p.places.total ∙ sum-cong m e;
      };
    }

-- a sum over a list of places is one over all places
pub places-sum : (f : ℕ → ℕ) (m : ℕ) (l : List ℕ) (t : ℕ) → Places f m l t → (g : ℕ → ℕ) → sum_below t (λ q. g (at l q)) ≡ sum_below m (λ x. f x * g x)
places-sum f m l t p g =
    sum-cong t (λ q h. sym (sum-pick m g (at l q) (p.below q h)))
    ∙ sum-swap t m (λ q x. same (at l q) x * g x)
    ∙ sum-cong m (λ x h. sum-mul-right t (g x) (λ q. same (at l q) x) ∙ ap (λ (y : ℕ). y * g x) (p.each x h))
