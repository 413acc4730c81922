-- Laws of the ones of a word that are listed from the lowest on.
--   ones-passed       == a zero is not listed
--   ones-taken        == a one is written behind those below it
--   ones-skip         == nor are several zeros listed
--   ones-long         == the list stays as long as it was
--   Listing           == the ones of x below a place are listed, and y has the others
--   listing_none      == none is listed yet
--   listing_step      == the lowest one of y is listed
--   listing-all       == all are listed where y is 0
--   listing-place     == the next one has a place, and its number is small
-- Assumes nothing.
use mathlib.Core.Path.{◌≡◌, refl, sym, ap, ap₂, ◌∙◌}
use mathlib.Core.Logic.{inl, inr}
use mathlib.Core.List.{List}
use Prim.Native.Nat.{ℕ, zero, suc, ◌+◌, ◌-◌, ◌^◌, ◌<◌, ◌≤◌, zero-le}
use native.Mathlib.Nat.{add-zero, add-suc, zero-div, eq-zero-or-pos}
use native.Mathlib.Decide.{dec_lt}
use native.Mathlib.Omega.{arith}
use borrow.Author.Tests.{eq-eqb, ne_eqb}
use lib.Bits.{bit_and}
use lib.ListN.{length, set, length-set}
use Rattle.counting.specs.Digits.{binary_digit}
use Rattle.counting.specs.Paper.Sum.{sum_below}
use Rattle.counting.proofs.Sums.{sum_bound}
use Rattle.syndrome_rows.specs.Words.{ones_over, OnesListed, OnesFit}
use Rattle.syndrome_rows.proofs.Lowest.{Lowest, lowest-here, lowest-before, cleared-here, cleared-above}

module _ (x first t : ℕ) (l : List ℕ) where
  -- a zero is not listed
  pub ones-passed : (d : ℕ) → binary_digit x d ≡ 0 → ones_over x first t (suc d) l ≡ ones_over x first t d l
  unfolding ones_over
  ones-passed d e = rw (ne_eqb (binary_digit x d) 1 (λ h. omega (arith, h, e))) refl

  -- a one is written behind those below it
  pub ones-taken : (d : ℕ) → binary_digit x d ≡ 1
      → ones_over x first t (suc d) l ≡ set (ones_over x first t d l) (t + sum_below d (binary_digit x)) (first + d)
  unfolding ones_over
  ones-taken d e = rw (eq-eqb (binary_digit x d) 1 e) refl

  -- nor are several zeros listed
  pub ones-skip : (c k : ℕ) → ((d : ℕ) → c ≤ d → d < c + k → binary_digit x d ≡ 0)
      → (ones_over x first t (c + k) l ≡ ones_over x first t c l) × (sum_below (c + k) (binary_digit x) ≡ sum_below c (binary_digit x))
  unfolding sum_below
  ones-skip c zero z = rw (add-zero c) (refl, refl)
  ones-skip c (suc k) z =
      let r = ones-skip c k (λ d h g. z d h (omega arith)) in
      let e = z (c + k) (omega arith) (omega arith) in
      rw (add-suc c k) (ones-passed (c + k) e ∙ r.0, omega (arith, r.1, e))

  -- the list stays as long as it was
  pub ones-long : (d : ℕ) → length (ones_over x first t d l) ≡ length l
  unfolding ones_over
  ones-long zero = refl
  ones-long (suc d) =
      elim (eq-zero-or-pos (binary_digit x d)) [
        | inl e ↦ ap length (ones-passed d e) ∙ ones-long d
        | inr h ↦
            ap length (ones-taken d (omega arith))
            ∙ length-set (ones_over x first t d l) (t + sum_below d (binary_digit x)) (first + d)
            ∙ ones-long d
      ]

-- ---- the ones of x, taken from y one after another

-- the ones of x below a place are listed, and y has the others
pub record Listing (x first t₀ : ℕ) (l₀ : List ℕ) (y : ℕ) (l : List ℕ) (t : ℕ) : Type 0 where
  pub seen : ℕ
  pub most : seen ≤ 64
  pub cells : l ≡ ones_over x first t₀ seen l₀
  pub behind : t ≡ t₀ + sum_below seen (binary_digit x)
  pub below : (d : ℕ) → d < seen → binary_digit y d ≡ 0
  pub rest : (d : ℕ) → seen ≤ d → binary_digit y d ≡ binary_digit x d

module _ (x first t₀ : ℕ) (l₀ : List ℕ) where
  -- none is listed yet
  pub listing_none : Listing x first t₀ l₀ x l₀ t₀
  unfolding ones_over sum_below
  listing_none =
      record {
        seen = 0;
        most = zero-le;
        cells = refl;
        behind = sym (add-zero t₀);
        below = λ d h. absurd (omega arith);
        rest = λ d h. refl;
      }

  -- all are listed where y is 0
  pub listing-all : (y : ℕ) (l : List ℕ) (t : ℕ) → y ≡ 0 → Listing x first t₀ l₀ y l t → OnesListed x first t₀ l₀ l t
  listing-all y l t e p =
      record {
        cells = p.cells ∙ sym none.0 ∙ ap (λ (d : ℕ). ones_over x first t₀ d l₀) whole;
        behind = omega (arith, p.behind, none.1, ap (λ (d : ℕ). sum_below d (binary_digit x)) whole);
      }
    where
      zero-there : (d : ℕ) → p.seen ≤ d → binary_digit x d ≡ 0
      zero-there d h = omega (arith, p.rest d h, ap (λ (z : ℕ). binary_digit z d) e, zero-div (2 ^ d))

      none : (ones_over x first t₀ (p.seen + (64 - p.seen)) l₀ ≡ ones_over x first t₀ p.seen l₀)
          × (sum_below (p.seen + (64 - p.seen)) (binary_digit x) ≡ sum_below p.seen (binary_digit x))
      none = ones-skip x first t₀ l₀ p.seen (64 - p.seen) (λ d h g. zero-there d h)

      whole : p.seen + (64 - p.seen) ≡ 64
      whole = omega (arith, p.most)

  module _ (y : ℕ) (l : List ℕ) (t b : ℕ) (p : Listing x first t₀ l₀ y l t) (w : Lowest 64 y b) where
    -- the lowest one of y is one of x that is not listed yet
    fresh : p.seen ≤ b
    fresh =
        elim (dec_lt b p.seen) [
          | yes h ↦ absurd (omega (arith, p.below b h, lowest-here 64 y b w))
          | no g ↦ omega arith
        ]

    one-there : binary_digit x b ≡ 1
    one-there = sym (p.rest b fresh) ∙ lowest-here 64 y b w

    -- and x has zeros before it
    before : (ones_over x first t₀ (p.seen + (b - p.seen)) l₀ ≡ ones_over x first t₀ p.seen l₀)
        × (sum_below (p.seen + (b - p.seen)) (binary_digit x) ≡ sum_below p.seen (binary_digit x))
    before =
        ones-skip x first t₀ l₀ p.seen (b - p.seen)
        (λ d h g. sym (p.rest d h) ∙ lowest-before 64 y b w d (omega (arith, fresh)))

    there : p.seen + (b - p.seen) ≡ b
    there = omega (arith, fresh)

    cells-there : l ≡ ones_over x first t₀ b l₀
    cells-there = p.cells ∙ sym before.0 ∙ ap (λ (d : ℕ). ones_over x first t₀ d l₀) there

    behind-there : t ≡ t₀ + sum_below b (binary_digit x)
    behind-there = omega (arith, p.behind, before.1, ap (λ (d : ℕ). sum_below d (binary_digit x)) there)

    -- the next one has a place, and its number is small
    pub listing-place : OnesFit x first t₀ l₀ → (t < 1023) × (first + b < 1023)
    listing-place fit = (omega (arith, behind-there, few, small, fit.few), small)
      where
        small : first + b < 1023
        small =
            elim (dec_lt (first + b) 1023) [ yes h ↦ h | no g ↦ absurd (omega (arith, one-there, fit.past b w.inside (omega arith))) ]

        few : sum_below b (binary_digit x) ≤ b
        few = omega (arith, sum_bound b 1 {f = binary_digit x} (λ d h. omega arith))

    -- the lowest one of y is listed
    pub listing_step : Listing x first t₀ l₀ (bit_and y (y - 1)) (set l t (first + b)) (t + 1)
    unfolding sum_below
    listing_step =
        record {
          seen = suc b;
          most = w.inside;
          cells = ap₂ (λ (z : List ℕ) (k : ℕ). set z k (first + b)) cells-there behind-there ∙ sym (ones-taken x first t₀ l₀ b one-there);
          behind = omega (arith, behind-there, one-there);
          below = λ d h. cleared-here 64 y b w d (omega arith);
          rest = λ d h. cleared-above 64 y b w d h ∙ p.rest d (omega (arith, fresh));
        }
