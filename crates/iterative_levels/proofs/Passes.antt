-- One cell more of a pass over the levels: the step laws of `update` and `bias`.
--   moved_none    == no level is moved yet
--   moved-step    == one level more is moved
--   moved-cong    == weights that agree below n move the levels alike
--   biased-none   == no level is kept as a number yet
--   biased-step   == one level more is kept as a number
-- Assumes nothing.
use mathlib.Core.Path.{◌≡◌, refl, sym, ap, ap₂, ◌∙◌}
use mathlib.Core.Logic.{inl, inr}
use mathlib.Core.List.{List}
use Prim.Native.Nat.{ℕ, ◌+◌, ◌<◌}
use native.Mathlib.Omega.{arith}
use lib.IntN.{ℤ, pos}
use lib.ListN.{length, get_or, set, length-set}
use Rattle.counting.proofs.Writes.{stored}
use Rattle.counting.specs.Places.{at}
use Rattle.iterative_levels.specs.Levels.{biased, next_level, above_middle, Moved, Biased}

-- a place passed now or before
less : (i j : ℕ) → i < j + 1 → (i ≡ j → ⊥) → i < j
less i j h ne = omega arith

-- no level is moved yet
pub moved_none : (v : List ℕ) (w : ℕ → ℕ) (L ceiling : ℕ) (z x : List ℕ) → length z ≡ 1023 → length x ≡ 1023 → Moved v w 0 L ceiling z x z x
moved_none v w L ceiling z x lz lx =
    record {
      long_word = lz;
      long_levels = lx;
      levels = λ i h. absurd (omega arith);
      bits = λ i h. absurd (omega arith);
      rest_word = λ i h. refl;
      rest_levels = λ i h. refl;
    }

module _ (v : List ℕ) (w : ℕ → ℕ) (j L ceiling : ℕ) (z₀ x₀ z x : List ℕ) (t : Moved v w j L ceiling z₀ x₀ z x) (room : j < 1023) where
  -- one level more is moved
  pub moved-step : (y b : ℕ) → y ≡ next_level (w j) ceiling (at x j) (at z j) (at v j) → b ≡ above_middle L y
      → Moved v w (j + 1) L ceiling z₀ x₀ (set z j b) (set x j y)
  moved-step y b e f =
      record {
        long_word = length-set z j b ∙ t.long_word;
        long_levels = length-set x j y ∙ t.long_levels;
        levels = λ i h. elim (stored x j y i (omega (arith, t.long_levels))) [
          | inl q ↦ q.0 ∙ here i q.1
          | inr q ↦ q.0 ∙ t.levels i (less i j h q.1)
        ];
        bits = λ i h. elim (stored z j b i (omega (arith, t.long_word))) [
          | inl q ↦ q.0 ∙ f ∙ ap (above_middle L) (sym (at_level i q.1))
          | inr q ↦ q.0 ∙ t.bits i (less i j h q.1) ∙ ap (above_middle L) (sym (other-level i q.1))
        ];
        rest_word = λ i h. elim (stored z j b i (omega (arith, t.long_word))) [
          | inl q ↦ absurd (omega (arith, q.1))
          | inr q ↦ q.0 ∙ t.rest_word i (omega arith)
        ];
        rest_levels = λ i h. elim (stored x j y i (omega (arith, t.long_levels))) [
          | inl q ↦ absurd (omega (arith, q.1))
          | inr q ↦ q.0 ∙ t.rest_levels i (omega arith)
        ];
      }
    where
      here : (i : ℕ) → i ≡ j → y ≡ next_level (w i) ceiling (at x₀ i) (at z₀ i) (at v i)
      here i q =
          e
          ∙ ap₂ (λ (a b : ℕ). next_level (w j) ceiling a b (at v j)) (t.rest_levels j (omega arith)) (t.rest_word j (omega arith))
          ∙ ap (λ (i : ℕ). next_level (w i) ceiling (at x₀ i) (at z₀ i) (at v i)) (sym q)

      at_level : (i : ℕ) → i ≡ j → at (set x j y) i ≡ y
      at_level i q = elim (stored x j y i (omega (arith, t.long_levels))) [ inl p ↦ p.0 | inr p ↦ absurd (p.1 q) ]

      other-level : (i : ℕ) → (i ≡ j → ⊥) → at (set x j y) i ≡ at x i
      other-level i ne = elim (stored x j y i (omega (arith, t.long_levels))) [ inl p ↦ absurd (ne p.1) | inr p ↦ p.0 ]

-- weights that agree below n move the levels alike
pub moved-cong : (v : List ℕ) (w w' : ℕ → ℕ) (n L ceiling : ℕ) (z x z' x' : List ℕ) → ((j : ℕ) → j < n → w j ≡ w' j)
    → Moved v w n L ceiling z x z' x' → Moved v w' n L ceiling z x z' x'
moved-cong v w w' n L ceiling z x z' x' e m =
    record {
      long_word = m.long_word;
      long_levels = m.long_levels;
      levels = λ j l. m.levels j l ∙ ap (λ (k : ℕ). next_level k ceiling (at x j) (at z j) (at v j)) (e j l);
      bits = m.bits;
      rest_word = m.rest_word;
      rest_levels = m.rest_levels;
    }

-- no level is kept as a number yet
pub biased-none : (L : ℕ) (R : List ℤ) (x : List ℕ) → length x ≡ 1023 → Biased 0 L R x x
biased-none L R x l = record { long = l; each = λ i h. absurd (omega arith); rest = λ i h. refl }

-- one level more is kept as a number
pub biased-step : (j L : ℕ) (R : List ℤ) (x₀ x : List ℕ) → Biased j L R x₀ x → j < 1023 → (y : ℕ) → y ≡ biased L (get_or R j (pos 0))
    → Biased (j + 1) L R x₀ (set x j y)
biased-step j L R x₀ x t room y e =
    record {
      long = length-set x j y ∙ t.long;
      each = λ i h. elim (stored x j y i (omega (arith, t.long))) [
        | inl q ↦ q.0 ∙ e ∙ ap (λ (i : ℕ). biased L (get_or R i (pos 0))) (sym q.1)
        | inr q ↦ q.0 ∙ t.each i (less i j h q.1)
      ];
      rest = λ i h. elim (stored x j y i (omega (arith, t.long))) [
        | inl q ↦ absurd (omega (arith, q.1))
        | inr q ↦ q.0 ∙ t.rest i (omega arith)
      ];
    }
