-- What it is to add votes or to take them, as one thing with two cases.
--   TurnLaws room turned fits gives   == what both have in common: votes may be turned in parts, one after another
--     room f v                        == the array v has room to be turned f times at every place
--     turned f old new                == the array so turned
--     fits v b, gives v b r           == one byte can be turned b times, and is r then
--   add_laws, take_laws               == adding does, and so does taking
-- Assumes nothing.
use mathlib.Core.Path.{◌≡◌, ◌∙◌}
use mathlib.Core.List.{List}
use mathlib.Core.Logic.{inl, inr}
use Prim.Native.Nat.{ℕ, ◌+◌, ◌<◌, ◌≤◌}
use native.Mathlib.Omega.{arith}
use lib.ListN.{length, set, length-set}
use Rattle.counting.specs.Places.{at}
use Rattle.counting.proofs.Writes.{stored}
use Rattle.majority_votes.specs.Tallies.{Addable, More, Takeable, Fewer}

pub record TurnLaws (room : (ℕ → ℕ) → List ℕ → Type 0) (turned : (ℕ → ℕ) → List ℕ → List ℕ → Type 0) (fits : ℕ → ℕ → Type 0)
    (gives : ℕ → ℕ → ℕ → Type 0) : Type 0 where
  -- the arrays have 1,023 bytes
  pub room_long : (f : ℕ → ℕ) (v : List ℕ) → room f v → length v ≡ 1023
  pub turned_long : (f : ℕ → ℕ) (old new : List ℕ) → turned f old new → length new ≡ 1023
  -- no turn at all
  pub none : (f : ℕ → ℕ) (v : List ℕ) → length v ≡ 1023 → ((j : ℕ) → f j ≡ 0) → turned f v v
  -- one part of the turns after another
  pub join : (f g h : ℕ → ℕ) (old mid new : List ℕ) → ((j : ℕ) → h j ≡ f j + g j) → turned f old mid → turned g mid new → turned h old new
  -- what is left has its room still
  pub left : (f g h : ℕ → ℕ) (old mid : List ℕ) → ((j : ℕ) → f j + g j ≤ h j) → room h old → turned f old mid → room g mid
  -- one byte of the array
  pub byte : (f : ℕ → ℕ) (v : List ℕ) (x b : ℕ) → b ≤ f x → room f v → fits (at v x) b
  pub store : (f : ℕ → ℕ) (v : List ℕ) (x b r : ℕ) → x < 1023 → length v ≡ 1023 → f x ≡ b → ((j : ℕ) → (j ≡ x → ⊥) → f j ≡ 0)
      → gives (at v x) b r
      → turned f v (set v x r)

-- adding: b more than v fits a byte
pub add_laws : TurnLaws Addable More (λ v b. v + b ≤ 255) (λ v b r. r ≡ v + b)
add_laws =
    record {
      room_long = λ f v a. a.long;
      turned_long = λ f old new t. t.long;
      none = λ f v e z. record { long = e; each = λ j. omega (arith, z j) };
      join = λ f g h old mid new s t u. record { long = u.long; each = λ j. omega (arith, t.each j, u.each j, s j) };
      left = λ f g h old mid s a t. record { long = t.long; fits = λ j. omega (arith, a.fits j, t.each j, s j) };
      byte = λ f v x b l a. omega (arith, a.fits x);
      store = λ f v x b r lt e here other q. record {
        long = length-set v x r ∙ e;
        each = λ j. elim (stored v x r j (omega (arith, lt, e))) [
          | inl s ↦ rw s.1 (omega (arith, rw s.1 at s.0, q, here))
          | inr s ↦ omega (arith, s.0, other j s.1)
        ];
      };
    }

-- taking: v is b or more
pub take_laws : TurnLaws Takeable Fewer (λ v b. b ≤ v) (λ v b r. r + b ≡ v)
take_laws =
    record {
      room_long = λ f v a. a.long;
      turned_long = λ f old new t. t.long;
      none = λ f v e z. record { long = e; each = λ j. omega (arith, z j) };
      join = λ f g h old mid new s t u. record { long = u.long; each = λ j. omega (arith, t.each j, u.each j, s j) };
      left = λ f g h old mid s a t. record { long = t.long; there = λ j. omega (arith, a.there j, t.each j, s j) };
      byte = λ f v x b l a. omega (arith, a.there x);
      store = λ f v x b r lt e here other q. record {
        long = length-set v x r ∙ e;
        each = λ j. elim (stored v x r j (omega (arith, lt, e))) [
          | inl s ↦ rw s.1 (omega (arith, rw s.1 at s.0, q, here))
          | inr s ↦ omega (arith, s.0, other j s.1)
        ];
      };
    }
