-- The step laws of the loops over guesses.
--   guessed-none, guessed-step   == no guess is made yet; one guess more
--   fits-none, fits-step         == no guess is asked yet; one guess more
--   laid_none, laid-step         == nothing is written yet; the cells of one sample more
-- Assumes nothing.
use mathlib.Core.Path.{◌≡◌, refl, sym, ap, ap₂, ◌∙◌}
use mathlib.Core.Bool.{Bool, true, false, not, ◌&&◌, ◌||◌}
use mathlib.Core.Logic.{inl, inr}
use mathlib.Core.List.{List}
use Prim.Native.Nat.{ℕ, ◌+◌, ◌*◌, ◌%◌, ◌<◌}
use native.Mathlib.Omega.{arith}
use lib.ListN.{length, set, length-set}
use Rattle.counting.specs.Paper.Search.{any_below}
use Rattle.counting.specs.Places.{at}
use Rattle.counting.proofs.Searches.{any_step}
use Rattle.counting.proofs.Writes.{stored, over_none, over-step}
use Rattle.byte_numbers.specs.Paper.Numbers.{number32}
use Rattle.quantiser_guess.specs.Guess.{pattern_in, fits_at, misfit, kept_by, bit_by, mark_by, bit_in, kept_in, mark_in, Guessed, Laid}

-- ---- guesses

-- no guess is made yet
pub guessed-none : (gs : List ℕ) → length gs ≡ 1023 → Guessed 0 gs
guessed-none gs e = record { long = e; below = λ i h. absurd (omega arith) }

-- one guess more
pub guessed-step : (j : ℕ) (gs : List ℕ) → Guessed j gs → j < 1023 → (v : ℕ) → v < 2048 → Guessed (j + 1) (set gs j v)
guessed-step j gs t room v b =
    record {
      long = length-set gs j v ∙ t.long;
      below = λ i h. elim (stored gs j v i (omega (arith, t.long))) [
        | inl q ↦ omega (arith, q.0)
        | inr q ↦ omega (arith, q.0, t.below i (less i h q.1))
      ];
    }
  where
    less : (i : ℕ) → i < j + 1 → (i ≡ j → ⊥) → i < j
    less i h ne = omega arith

-- ---- the table is asked

module _ (t bs gs : List ℕ) where
  -- no guess is asked yet
  pub fits-none : true ≡ not (any_below (misfit t bs gs) 0)
  unfolding any_below
  fits-none = refl

  both : (a f : Bool) → not a && f ≡ not (a || not f)
  both true f = refl
  both false true = refl
  both false false = refl

  -- one guess more
  pub fits-step : (j u : ℕ) (ok f : Bool) → ok ≡ not (any_below (misfit t bs gs) j) → u ≡ number32 bs (4 * j) → f ≡ fits_at t (at gs j) (u % 2147483648)
      → ok && f ≡ not (any_below (misfit t bs gs) (j + 1))
  unfolding misfit pattern_in
  fits-step j u ok f e p q =
      ap₂ ◌&&◌ e (q ∙ ap (λ (x : ℕ). fits_at t (at gs j) (x % 2147483648)) p)
      ∙ both (any_below (misfit t bs gs) j) (fits_at t (at gs j) (pattern_in bs j))
      ∙ sym (ap not (any_step (misfit t bs gs) j))

-- ---- bits, kept levels and marks

-- nothing is written yet
pub laid_none : (L : ℕ) (bs gs z x o : List ℕ) → Laid 0 L bs gs z z x x o o
laid_none L bs gs z x o = record { bits = sym (over_none _ _); kept = sym (over_none _ _); marks = sym (over_none _ _) }

-- the cells of one sample more
module _ (j L : ℕ) (bs gs z₀ z x₀ x o₀ o : List ℕ) (t : Laid j L bs gs z₀ z x₀ x o₀ o) where
  pub laid-step : j < length z₀ → j < length x₀ → j < length o₀ → (u b k m : ℕ) → u ≡ number32 bs (4 * j) → b ≡ bit_by u
      → k ≡ kept_by L u (at gs j) → m ≡ mark_by (at gs j) b → Laid (j + 1) L bs gs z₀ (set z j b) x₀ (set x j k) o₀ (set o j m)
  unfolding bit_in kept_in mark_in
  laid-step hz hx ho u b k m e eb ek em =
      let f : b ≡ bit_in bs j = eb ∙ ap bit_by e in
      record {
        bits = over-step j (bit_in bs) z₀ z t.bits b hz f;
        kept = over-step j (kept_in L bs gs) x₀ x t.kept k hx (ek ∙ ap (λ (n : ℕ). kept_by L n (at gs j)) e);
        marks = over-step j (mark_in bs gs) o₀ o t.marks m ho (em ∙ ap (mark_by (at gs j)) f);
      }
