-- The checks that one set has and another has not, word by word, and lists of them.
--   only-bit        == whether a set alone has a check is a bit
--   only-past       == past the checks of the matrix there are none
--   only_word       == a word of them as it is computed
--   only-word       == it has them digit by digit
--   only-fit        == the ones of that word have room behind those of the words before
--   places-word     == the places of one word more
--   places-within   == places of which none lies from m on are those below m
-- Assumes nothing.
use mathlib.Core.Path.{◌≡◌, refl, sym, ap, ap₂, ◌∙◌}
use mathlib.Core.Logic.{inl, inr}
use mathlib.Core.List.{List}
use Prim.Native.Nat.{ℕ, zero, suc, ◌+◌, ◌*◌, ◌-◌, ◌/◌, ◌%◌, ◌<◌, ◌≤◌}
use native.Mathlib.Nat.{add-zero, add-suc, zero-mul, eq-zero-or-pos}
use native.Mathlib.Decide.{dec_lt}
use native.Mathlib.Omega.{arith}
use lib.Bits.{bit_and, bit_xor}
use Rattle.counting.specs.Digits.{binary_digit}
use Rattle.counting.specs.Paper.Sum.{sum_below, same}
use Rattle.counting.specs.Places.{at}
use Rattle.counting.proofs.Digits.{digit_and, digit-xor}
use Rattle.counting.proofs.Sums.{sum-zero, sum_bound, sum-append, sum-term, same_refl}
use Rattle.syndrome.specs.Places.{Places}
use Rattle.syndrome.proofs.Lists.{places-step, places-pass}
use Rattle.syndrome_words.specs.Sets.{bit_in, Within, only_in}
use Rattle.syndrome_words.proofs.Sets.{bit-bit}
use Rattle.syndrome_rows.specs.Words.{ones_over, OnesListed, OnesFit}
use Rattle.syndrome_rows.proofs.Listing.{ones-passed, ones-taken}

-- ---- lists of places

-- places of which none lies from m on are those below m
pub places-within : (f : ℕ → ℕ) (m k : ℕ) (l : List ℕ) (t : ℕ) → Places f k l t → m ≤ k → ((i : ℕ) → f i < 2)
    → ((i : ℕ) → m ≤ i → i < k → f i ≡ 0) → Places f m l t
places-within f m k l t p h bit none =
    record {
      long = p.long;
      few = omega (arith, total, sum_bound m 1 {f = f} (λ i g. omega (arith, bit i)));
      below = λ q g. elim (dec_lt (at l q) m) [
        | yes s ↦ s
        | no s ↦
            absurd (omega (
              arith,
              sum-term t (λ j. same (at l j) (at l q)) q g,
              same_refl (at l q),
              p.each (at l q) (p.below q g),
              none (at l q) (omega arith) (p.below q g),
            ))
      ];
      each = λ x g. p.each x (omega arith);
      total = total;
    }
  where
    whole : m + (k - m) ≡ k
    whole = omega arith

    total : t ≡ sum_below m f
    total =
        omega (
          arith,
          p.total,
          ap (λ (y : ℕ). sum_below y f) whole,
          sum-append m (k - m) f,
          sum-zero (k - m) {f = λ i. f (m + i)} (λ i g. none (m + i) (omega arith) (omega arith)),
        )

module _ (f : ℕ → ℕ) (x first t : ℕ) (l : List ℕ) (fit : OnesFit x first t l) (p : Places f first l t)
    (own : (d : ℕ) → d < 64 → f (first + d) ≡ binary_digit x d) where
  -- one place more of the word
  places-more : (d : ℕ) → d < 64 → Places f (first + d) (ones_over x first t d l) (t + sum_below d (binary_digit x))
      → Places f (first + suc d) (ones_over x first t (suc d) l) (t + sum_below (suc d) (binary_digit x))
  unfolding sum_below
  places-more d h r =
      elim (eq-zero-or-pos (binary_digit x d)) [
        | inl e ↦
            let none : t + (sum_below d (binary_digit x) + binary_digit x d) ≡ t + sum_below d (binary_digit x) = omega (arith, e) in
            rw (none, ones-passed x first t l d e, add-suc first d) (places-pass f (first + d) _ _ r (own d h ∙ e))
        | inr g ↦
            let e : binary_digit x d ≡ 1 = omega arith in
            let one : t + (sum_below d (binary_digit x) + binary_digit x d) ≡ t + sum_below d (binary_digit x) + 1 = omega (arith, e) in
            let next : first + suc d ≡ first + d + 1 = omega arith in
            rw (one, ones-taken x first t l d e, next)
            (places-step f (first + d) _ _ r (low d h e) 1 (sym (own d h ∙ e)) (omega arith))
      ]
    where
      low : (d : ℕ) → d < 64 → binary_digit x d ≡ 1 → first + d < 1023
      low d h e = elim (dec_lt (first + d) 1023) [ yes s ↦ s | no s ↦ absurd (omega (arith, fit.past d h (omega arith), e)) ]

  -- the places of the word as far as they are listed
  places-ones : (d : ℕ) → d ≤ 64 → Places f (first + d) (ones_over x first t d l) (t + sum_below d (binary_digit x))
  unfolding ones_over sum_below
  places-ones zero h = rw (add-zero first, add-zero t) p
  places-ones (suc d) h = places-more d h (places-ones d (omega arith))

  -- the places of one word more
  pub places-word : (l' : List ℕ) (t' : ℕ) → OnesListed x first t l l' t' → Places f (first + 64) l' t'
  places-word l' t' o = rw (o.cells, o.behind) (places-ones 64 (omega arith))

-- ---- the checks that one set alone has

-- of two bits, as it is computed
only-bits : (x y : ℕ) → x < 2 → y < 2 → bit_and x (bit_xor x y) ≡ x * (1 - y)
only-bits zero y h g = sym (zero-mul (1 - y))
only-bits (suc zero) zero h g = refl
only-bits (suc zero) (suc zero) h g = refl
only-bits (suc zero) (suc (suc y)) h g = absurd (omega arith)
only-bits (suc (suc x)) y h g = absurd (omega arith)

-- what one bit alone has is no more than it
only-le : (x y : ℕ) → x * (1 - y) ≤ x
only-le x zero = omega arith
only-le x (suc y) =
    let e : 1 - suc y ≡ 0 = omega arith in
    omega (arith, ap (λ (z : ℕ). x * z) e)

-- a digit of a word of them, as it is computed
only-digit : (x y d : ℕ) → binary_digit (bit_and x (bit_xor x y)) d ≡ binary_digit x d * (1 - binary_digit y d)
only-digit x y d =
    digit_and x (bit_xor x y) d
    ∙ ap (bit_and (binary_digit x d)) (digit-xor x y d)
    ∙ only-bits (binary_digit x d) (binary_digit y d) (omega arith) (omega arith)

module _ (a b : List ℕ) where
  -- a word of them, as it is computed
  abbrev pub only_word : ℕ → ℕ
  only_word w = bit_and (at a w) (bit_xor (at a w) (at b w))

  -- whether a set alone has a check is a bit
  pub only-bit : (i : ℕ) → only_in a b i < 2
  unfolding only_in
  only-bit i = omega (arith, only-le (bit_in a 0 i) (bit_in b 0 i), bit-bit a 0 i)

  -- past the checks of the matrix there are none
  pub only-past : (m : ℕ) → Within m a → (i : ℕ) → m ≤ i → i < 1024 → only_in a b i ≡ 0
  unfolding only_in
  only-past m within i h g = ap (λ (y : ℕ). y * (1 - bit_in b 0 i)) (within i h g) ∙ zero-mul (1 - bit_in b 0 i)

  -- it has them digit by digit
  pub only-word : (w d : ℕ) → d < 64 → only_in a b (64 * w + d) ≡ binary_digit (only_word w) d
  unfolding only_in bit_in
  only-word w d h =
      let word : 0 + (64 * w + d) / 64 ≡ w = omega arith in
      let place : (64 * w + d) % 64 ≡ d = omega arith in
      ap₂ (λ (x y : ℕ). binary_digit (at a x) y * (1 - binary_digit (at b x) y)) word place ∙ sym (only-digit (at a w) (at b w) d)

  -- the ones of that word have room behind those of the words before
  pub only-fit : (m w : ℕ) → m ≤ 1023 → w < 16 → Within m a → (l : List ℕ) (t : ℕ) → Places (only_in a b) (64 * w) l t
      → OnesFit (only_word w) (64 * w) t l
  only-fit m w few h within l t p =
      record {
        long = p.long;
        few = p.few;
        low = omega arith;
        past = λ d g s. sym (only-word w d g) ∙ only-past m within (64 * w + d) (omega arith) (omega arith);
      }
