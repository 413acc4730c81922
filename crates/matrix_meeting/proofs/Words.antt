-- Laws of the bits of words: binary digits of `&` and `|`, and a bit that is set.
--   or_right, or_left       == a digit set in either part is set in `|`
--   or-digit                == a digit set in `|` is set in one of the parts
--   and_none                == numbers of which `&` is 0 have no digit in common
--   and-digit               == a digit set in `&` is set in both parts
--   or-none                 == numbers of which `|` is 0 are 0
--   digit-none              == a number below 2 ^ k without a digit set below place k is 0
--   long-marked             == setting a bit keeps the number of words
--   marked-is               == storing `|` with the power of two in the bit's word sets the bit
--   marked-here             == the bit that is set is set
--   marked-kept             == so is each bit that was
--   marked-only             == and no other is
--   unmarked-zeros          == an array of zeros has words that are all 0
--   unmarked-none           == words that are all 0 have no bit set
--   shifted                 == 1 shifted to a place below 64 is the power of two
-- Assumes nothing.
use mathlib.Core.Path.{◌≡◌, refl, sym, ap, ap₂, ◌∙◌}
use mathlib.Core.List.{List}
use mathlib.Core.Logic.{◌⊎◌, inl, inr}
use Prim.Native.Nat.{ℕ, zero, suc, ◌+◌, ◌*◌, ◌/◌, ◌%◌, ◌^◌, ◌<◌}
use native.Mathlib.Nat.{zero-div, one-mul}
use native.Mathlib.Decide.{ℕ_discrete}
use native.Mathlib.Omega.{arith}
use lib.Bits.{bit_and, bit_or, and_le_l, and_le_r, or_comm, or_zero_l, or_add_and}
use lib.ListN.{length, get_or, set, replicate, length-set}
use lib.Pow.{shl_exact, shr-shr}
use Rattle.counting.specs.Digits.{binary_digit}
use Rattle.counting.proofs.Digits.{digit_and, digit_or, or-one, or-here, or-there}
use Rattle.counting.proofs.Writes.{stored, zeros}
use Rattle.matrix_meeting.specs.Marks.{MarksHeld, Unmarked, marked}

-- ---- binary digits

-- a digit of either part is one of the whole
pub or_right : (a b k : ℕ) → binary_digit b k ≡ 1 → binary_digit (bit_or a b) k ≡ 1
or_right a b k e = digit_or a b k ∙ ap (bit_or (binary_digit a k)) e ∙ or-one (binary_digit a k) (omega arith)

pub or_left : (a b k : ℕ) → binary_digit a k ≡ 1 → binary_digit (bit_or a b) k ≡ 1
or_left a b k e = ap (λ (x : ℕ). binary_digit x k) (or_comm a b) ∙ or_right b a k e

-- and a digit of the whole is one of a part
pub or-digit : (a b k : ℕ) → binary_digit (bit_or a b) k ≡ 1 → (binary_digit a k ≡ 1) ⊎ (binary_digit b k ≡ 1)
or-digit a b k e =
    elim (ℕ_discrete (binary_digit a k) 1) [
      | yes one ↦ inl one
      | no ne ↦
          let z : binary_digit a k ≡ 0 = omega arith in
          inr (sym (or_zero_l (binary_digit b k)) ∙ ap (λ (x : ℕ). bit_or x (binary_digit b k)) (sym z) ∙ sym (digit_or a b k) ∙ e)
    ]

-- numbers without a common digit
pub and_none : (a b k : ℕ) → bit_and a b ≡ 0 → binary_digit a k ≡ 1 → binary_digit b k ≡ 1 → ⊥
and_none a b k e p q =
    let one : binary_digit (bit_and a b) k ≡ 1 = digit_and a b k ∙ ap₂ bit_and p q in
    omega (arith, sym one ∙ ap (λ (x : ℕ). binary_digit x k) e, zero-div (2 ^ k))

-- a common digit
pub and-digit : (a b k : ℕ) → binary_digit (bit_and a b) k ≡ 1 → (binary_digit a k ≡ 1) × (binary_digit b k ≡ 1)
and-digit a b k e =
    let both : bit_and (binary_digit a k) (binary_digit b k) ≡ 1 = sym (digit_and a b k) ∙ e in
    (omega (arith, and_le_l (binary_digit a k) (binary_digit b k)), omega (arith, and_le_r (binary_digit a k) (binary_digit b k)))

-- numbers of which `|` is 0 are 0
pub or-none : (a b : ℕ) → bit_or a b ≡ 0 → (a ≡ 0) × (b ≡ 0)
or-none a b e =
    (omega (arith, or_add_and a b, and_le_r a b), omega (arith, or_add_and a b, and_le_l a b))

-- a number below 2 ^ k without a digit set below place k is 0
pub digit-none : (k a : ℕ) → a < 2 ^ k → ((b : ℕ) → b < k → binary_digit a b ≡ 1 → ⊥) → a ≡ 0
digit-none zero a h none = omega arith
digit-none (suc k) a h none =
    let low : a / 1 % 2 ≡ 1 → ⊥ = none 0 (omega arith) in
    let high : a / 2 ≡ 0 =
    digit-none k (a / 2) (omega arith) (λ b l e. none (suc b) (omega arith) (next b ∙ e)) in
    elim (ℕ_discrete (a / 1 % 2) 1) [ yes e ↦ absurd (low e) | no ne ↦ omega arith ]
  where
    next : (b : ℕ) → binary_digit a (suc b) ≡ binary_digit (a / 2) b
    next b =
        let e : suc b ≡ 1 + b = omega arith in
        ap (λ (x : ℕ). a / 2 ^ x % 2) e ∙ ap (λ (x : ℕ). x % 2) (sym (shr-shr a 1 b))

-- ---- a bit that is set

module _ (x : ℕ) (w : List ℕ) where
  -- setting a bit keeps the number of words
  pub long-marked : length (marked x w) ≡ length w
  unfolding marked
  long-marked = length-set w (x / 64) (bit_or (get_or w (x / 64) 0) (2 ^ (x % 64)))

  -- storing `|` with the power of two in the bit's word sets the bit
  pub marked-is : (v r : ℕ) → v ≡ x / 64 → r ≡ 2 ^ (x % 64) → set w v (bit_or (get_or w v 0) r) ≡ marked x w
  unfolding marked
  marked-is v r e q = rw (e, q)

  module _ (fits : x / 64 < length w) where
    -- a word after the store
    word-marked : (y : ℕ) → y / 64 ≡ x / 64 → get_or (marked x w) (y / 64) 0 ≡ bit_or (get_or w (y / 64) 0) (2 ^ (x % 64))
    unfolding marked
    word-marked y s =
        elim (stored w (x / 64) (bit_or (get_or w (x / 64) 0) (2 ^ (x % 64))) (y / 64) fits)
        [ inl e ↦ e.0 ∙ ap (λ (v : ℕ). bit_or (get_or w v 0) (2 ^ (x % 64))) (sym s) | inr e ↦ absurd (e.1 s) ]

    word_kept : (y : ℕ) → (y / 64 ≡ x / 64 → ⊥) → get_or (marked x w) (y / 64) 0 ≡ get_or w (y / 64) 0
    unfolding marked
    word_kept y ne =
        elim (stored w (x / 64) (bit_or (get_or w (x / 64) 0) (2 ^ (x % 64))) (y / 64) fits)
        [ inl e ↦ absurd (ne e.1) | inr e ↦ e.0 ]

    -- the bit that is set is set
    pub marked-here : MarksHeld (marked x w) x
    unfolding MarksHeld
    marked-here = ap (λ (v : ℕ). binary_digit v (x % 64)) (word-marked x refl) ∙ or-here (get_or w (x / 64) 0) (x % 64)

    -- any other bit is as it was
    other : (y : ℕ) → (y ≡ x → ⊥) → binary_digit (get_or (marked x w) (y / 64) 0) (y % 64) ≡ binary_digit (get_or w (y / 64) 0) (y % 64)
    other y ne =
        elim (ℕ_discrete (y / 64) (x / 64)) [
          | yes s ↦
              let apart : y % 64 ≡ x % 64 → ⊥ = λ e. ne (omega arith) in
              ap (λ (v : ℕ). binary_digit v (y % 64)) (word-marked y s) ∙ or-there (get_or w (y / 64) 0) (x % 64) (y % 64) apart
          | no f ↦ ap (λ (v : ℕ). binary_digit v (y % 64)) (word_kept y f)
        ]

    -- so is each bit that was
    pub marked-kept : (y : ℕ) → MarksHeld w y → MarksHeld (marked x w) y
    unfolding MarksHeld
    marked-kept y h = elim (ℕ_discrete y x) [ yes e ↦ rw e marked-here | no ne ↦ other y ne ∙ h ]

    -- and no other is
    pub marked-only : (y : ℕ) → MarksHeld (marked x w) y → MarksHeld w y ⊎ (y ≡ x)
    unfolding MarksHeld
    marked-only y h = elim (ℕ_discrete y x) [ yes e ↦ inr e | no ne ↦ inl (sym (other y ne) ∙ h) ]

-- an array of zeros has words that are all 0
pub unmarked-zeros : (k : ℕ) → Unmarked (replicate k 0)
unfolding Unmarked
unmarked-zeros k p = zeros k p

-- words that are all 0 have no bit set
pub unmarked-none : (w : List ℕ) → Unmarked w → (x : ℕ) → MarksHeld w x → ⊥
unfolding MarksHeld Unmarked
unmarked-none w z x h = omega (arith, sym h ∙ ap (λ (v : ℕ). binary_digit v (x % 64)) (z (x / 64)), zero-div (2 ^ (x % 64)))

-- 1 shifted to a place below 64 is the power of two
pub shifted : (a k j : ℕ) → a ≡ 1 → k ≡ j → k < 64 → (a * 2 ^ k) % 18446744073709551616 ≡ 2 ^ j
shifted a k j one e h = rw (one, ← e) (shl_exact {a = 1} 1 k 64 (omega arith) (omega arith) ∙ one-mul (2 ^ k))
