-- Laws of tests that decide a statement, and of the searches for its first place.
--   Decides           == the test passes where the statement holds, and only there
--   test-holds        == where the statement holds the test passes
--   test-fails        == where it does not hold the test fails
--   found             == a search that ends below the bound has found the first place
--   missed            == one that ends at the bound says that there is none
--   found-or-missed   == the search finds the first place, or there is none
-- Assumes nothing.
use mathlib.Core.Path.{◌≡◌, refl, sym, subst}
use mathlib.Core.Bool.{Bool, true, false}
use mathlib.Core.Logic.{◌⊎◌, inl, inr}
use Prim.Native.Nat.{ℕ, ◌≤◌, ◌<◌}
use native.Mathlib.Decide.{dec_lt}
use native.Mathlib.Omega.{arith}
use Rattle.counting.specs.Paper.Search.{first, FirstAt}
use Rattle.counting.proofs.Searches.{cases, first-clear, first_reads}

-- the test passes where the statement holds, and only there
pub record Decides (t : ℕ → Bool) (P : ℕ → Type 0) : Type 0 where
  pub says : (x : ℕ) → t x ≡ true → P x
  pub clear : (x : ℕ) → t x ≡ false → P x → ⊥

module _ {t : ℕ → Bool} {P : ℕ → Type 0} (d : Decides t P) where
  -- where the statement holds the test passes
  pub test-holds : (x : ℕ) → P x → t x ≡ true
  test-holds x p = cases (t x) (λ y. y) (λ o. absurd (d.clear x o p))

  -- where it does not hold the test fails
  pub test-fails : (x : ℕ) → (P x → ⊥) → t x ≡ false
  test-fails x f = cases (t x) (λ y. absurd (f (d.says x y))) (λ o. o)

  -- what the search finds is the first place, or there is none
  pub found : (b x : ℕ) → x ≡ first t b → x < b → FirstAt P b x
  found b x e l = subst (FirstAt P b) (sym e) (first_reads t b d.says d.clear (omega arith))

  -- one that ends at the bound says that there is none
  pub missed : (b x : ℕ) → x ≡ first t b → b ≤ x → (y : ℕ) → y < b → P y → ⊥
  missed b x e h y l = d.clear y (first-clear t b (omega arith) y l)

  -- the search finds the first place, or there is none
  pub found-or-missed : (b : ℕ) → FirstAt P b (first t b) ⊎ ((y : ℕ) → y < b → P y → ⊥)
  found-or-missed b =
      elim (dec_lt (first t b) b) [ yes l ↦ inl (found b _ refl l) | no f ↦ inr (missed b _ refl (omega arith)) ]
