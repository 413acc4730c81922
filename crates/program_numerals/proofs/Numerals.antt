-- Laws of decimal and hexadecimal digits.
--   decimal-one           == a number below 10 is one digit
--   decimal-more          == any other has the digits of its tenth, and its last digit
--   length-decimal-more   == so it has one digit more than its tenth
--   decimal-within        == a number below 10 ^ (k + 1) has at most k + 1 digits
--   decimal-five          == a number below 65,536 has at most 5 digits
--   number-ends           == a number's field ends within 6 bytes
--   hex-append            == the digits of bytes one after another are those of each part
--   length-hex            == each byte has two hexadecimal digits
-- Assumes nothing.
use mathlib.Core.Path.{◌≡◌, refl, sym, ap, ◌∙◌}
use mathlib.Core.List.{List, [], ◌∷◌, ◌++◌}
use Prim.Native.Nat.{ℕ, zero, suc, ◌+◌, ◌*◌, ◌/◌, ◌%◌, ◌^◌, ◌≤◌, ◌<◌}
use native.Mathlib.Decide.{dec_lt}
use native.Mathlib.Omega.{arith}
use lib.ListN.{length, length-append}
use borrow.Author.Tests.{lt-ltb, le-ltb}
use Rattle.program_numerals.specs.Texts.{Put}
use Rattle.program_numerals.specs.Paper.Numerals.{digit, digits_within, decimal, hex}

-- ---- decimal digits

within-one : (k x : ℕ) → x < 10 → digits_within k x ≡ digit x ∷ []
unfolding digits_within
within-one zero x h = refl
within-one (suc k) x h = rw (lt-ltb x 10 h)

within_more : (k x : ℕ) → 10 ≤ x → digits_within (suc k) x ≡ digits_within k (x / 10) ++ (digit (x % 10) ∷ [])
unfolding digits_within
within_more k x h = rw (le-ltb x 10 h)

-- room for more digits changes nothing
within-enough : (k l x : ℕ) → x ≤ k → x ≤ l → digits_within k x ≡ digits_within l x
within-enough zero l x h g = within-one zero x (omega arith) ∙ sym (within-one l x (omega arith))
within-enough (suc k) zero x h g = within-one (suc k) x (omega arith) ∙ sym (within-one zero x (omega arith))
within-enough (suc k) (suc l) x h g =
    elim (dec_lt x 10) [
      | yes m ↦ within-one (suc k) x m ∙ sym (within-one (suc l) x m)
      | no n ↦
          let ten : 10 ≤ x = omega arith in
          let e : digits_within k (x / 10) ≡ digits_within l (x / 10) = within-enough k l (x / 10) (omega arith) (omega arith) in
          within_more k x ten ∙ ap (λ (d : List ℕ). d ++ (digit (x % 10) ∷ [])) e ∙ sym (within_more l x ten)
    ]

-- a number below 10 is one digit
pub decimal-one : (x : ℕ) → x < 10 → decimal x ≡ digit x ∷ []
unfolding decimal
decimal-one x h = within-one x x h

-- any other has the digits of its tenth, and its last digit
pub decimal-more : (x : ℕ) → 10 ≤ x → decimal x ≡ decimal (x / 10) ++ (digit (x % 10) ∷ [])
unfolding decimal
decimal-more zero h = absurd (omega arith)
decimal-more (suc x) h =
    within_more x (suc x) h
    ∙ ap (λ (d : List ℕ). d ++ (digit (suc x % 10) ∷ [])) (within-enough x (suc x / 10) (suc x / 10) (omega arith) (omega arith))

-- so it has one digit more than its tenth
pub length-decimal-more : (x : ℕ) → 10 ≤ x → length (decimal x) ≡ length (decimal (x / 10)) + 1
length-decimal-more x h = ap length (decimal-more x h) ∙ length-append (decimal (x / 10)) (digit (x % 10) ∷ [])

-- a number below 10 ^ (k + 1) has at most k + 1 digits
pub decimal-within : (k x : ℕ) → x < 10 ^ suc k → length (decimal x) ≤ suc k
decimal-within zero x h = omega (arith, ap length (decimal-one x h))
decimal-within (suc k) x h =
    elim (dec_lt x 10) [
      | yes m ↦ omega (arith, ap length (decimal-one x m))
      | no n ↦ omega (arith, length-decimal-more x (omega arith), decimal-within k (x / 10) (omega arith))
    ]

-- a number below 65,536 has at most 5 digits
pub decimal-five : (x : ℕ) → x < 65536 → length (decimal x) ≤ 5
decimal-five x h = decimal-within 4 x (omega arith)

-- where a number's field ends
pub number-ends : (x e : ℕ) {at end : ℕ} {a b : List ℕ} → x < 65536 → Put (decimal x ++ (e ∷ [])) at a b end → end ≤ at + 6
number-ends x e h p = omega (arith, p.ends, length-append (decimal x) (e ∷ []), decimal-five x h)

-- ---- hexadecimal digits

-- the digits of bytes one after another are those of each part
pub hex-append : (v w : List ℕ) → hex (v ++ w) ≡ hex v ++ hex w
unfolding hex
hex-append [] w = refl
hex-append (b ∷ v) w = rw (hex-append v w)

-- each byte has two hexadecimal digits
pub length-hex : (w : List ℕ) → length (hex w) ≡ 2 * length w
unfolding hex
length-hex [] = refl
length-hex (b ∷ w) = omega (arith, length-hex w)
