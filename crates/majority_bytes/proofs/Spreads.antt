-- Digits at every eighth place of a word, and numbers of six such digits, each as a byte.
--   spread-mask          == the digits of x >> s at places 0, 8, .. 56 are those that `spread_of` brings to bytes
--   spread-most          == they are at most as much as if all were 1
--   wide-add, wide-mul   == the bytes of sums and multiples are the sums and multiples of the bytes
--   wide-planes          == the digits of six planes, added up with their weights, are the numbers
-- Assumes nothing.
use mathlib.Core.Path.{◌≡◌, sym, ap, ap₂, ◌∙◌}
use mathlib.Core.List.{List}
use Prim.Native.Nat.{ℕ, zero, suc, ◌+◌, ◌*◌, ◌/◌, ◌%◌, ◌^◌, ◌≤◌}
use native.Mathlib.Nat.{mod-lt, mul_assoc, add-mul, add_comm, mul_comm}
use native.Mathlib.Numerals.{add-one}
use native.Mathlib.Omega.{arith}
use lib.Bits.{bit_and, and_block, and_mask, and_le_r, and_zero_r}
use lib.Dec.{lit<}
use lib.Pow.{pow_pos, pow-add, split, shr-shr}
use Rattle.counting.specs.Digits.{binary_digit}
use Rattle.counting.specs.Paper.Sum.{sum_below}
use Rattle.counting.specs.Places.{at}
use Rattle.counting.proofs.Sums.{sum-cong, sum-add, sum-mul, sum-mul-right, sum-append}
use Rattle.majority_planes.specs.Planes.{six_digits, plane_value}
use Rattle.majority_bytes.specs.Bytes.{spread_of, wide_of}

-- ---- the digits of one word

-- 1 at places 0, 8, .. of k bytes
abbrev eighths : ℕ → ℕ
eighths zero = 0
eighths (suc k) = eighths k * 256 + 1

-- a byte further on
further : (x s r : ℕ) → binary_digit x (8 * r + (s + 8)) * 256 ^ r * 256 ≡ binary_digit x (8 * (1 + r) + s) * 256 ^ (1 + r)
further x s r =
    let place : 8 * r + (s + 8) ≡ 8 * (1 + r) + s = omega arith in
    let power : 256 ^ r * 256 ≡ 256 ^ (1 + r) = mul_comm (256 ^ r) 256 ∙ sym (pow-add 256 1 r) in
    mul_assoc (binary_digit x (8 * r + (s + 8))) (256 ^ r) 256 ∙ ap₂ (λ (k y : ℕ). binary_digit x k * y) place power

-- the lowest byte and the others
byte-apart : (y m : ℕ) → bit_and y (m * 256 + 1) ≡ bit_and (y / 256) m * 256 + y % 2
byte-apart y m =
    ap (λ (u : ℕ). bit_and u (m * 256 + 1)) (sym (split y 8))
    ∙ and_block 8 (y / 256) m (y % 256) 1 (mod-lt y (pow_pos 8)) (lit< tt)
    ∙ ap (λ (u : ℕ). bit_and (y / 256) m * 256 + u) (and_mask (y % 256) 1 ∙ omega arith)

-- the term of the lowest
first : (x s : ℕ) → sum_below 1 (λ r. binary_digit x (8 * r + s) * 256 ^ r) ≡ x / 2 ^ s % 2
unfolding sum_below
first x s =
    let place : 8 * 0 + s ≡ s = omega arith in
    omega (arith, ap (binary_digit x) place)

-- k bytes
masked : (k x s : ℕ) → bit_and (x / 2 ^ s) (eighths k) ≡ sum_below k (λ r. binary_digit x (8 * r + s) * 256 ^ r)
unfolding sum_below
masked zero x s = and_zero_r (x / 2 ^ s)
masked (suc k) x s =
    byte-apart (x / 2 ^ s) (eighths k)
    ∙ ap (λ (u : ℕ). bit_and u (eighths k) * 256 + x / 2 ^ s % 2) (shr-shr x s 8)
    ∙ ap (λ (u : ℕ). u * 256 + x / 2 ^ s % 2) (masked k x (s + 8))
    ∙ omega (
      arith,
      sum-mul-right k 256 (λ r. binary_digit x (8 * r + (s + 8)) * 256 ^ r),
      others,
      sum-append 1 k term,
      lowest,
      count,
    )
  where
    term : ℕ → ℕ
    term r = binary_digit x (8 * r + s) * 256 ^ r

    others : sum_below k (λ r. binary_digit x (8 * r + (s + 8)) * 256 ^ r * 256) ≡ sum_below k (λ r. term (1 + r))
    others = sum-cong k (λ r h. further x s r)

    lowest : sum_below 1 term ≡ x / 2 ^ s % 2
    lowest = first x s

    count : sum_below (1 + k) term ≡ sum_below (suc k) term
    count = ap (λ (n : ℕ). sum_below n term) (add_comm 1 k ∙ add-one k)

-- the digits at places s, 8 + s, ..
pub spread-mask : (x s : ℕ) → bit_and (x / 2 ^ s) 0x0101010101010101 ≡ spread_of x s
unfolding spread_of wide_of
spread-mask x s = masked 8 x s

-- at most 1 each
pub spread-most : (x s : ℕ) {r : ℕ} → r ≡ spread_of x s → r ≤ 0x0101010101010101
spread-most x s e = omega (arith, spread-mask x s, and_le_r (x / 2 ^ s) 0x0101010101010101)

-- ---- numbers

-- of sums and multiples
pub wide-add : (f g : ℕ → ℕ) (s : ℕ) → wide_of (λ t. f t + g t) s ≡ wide_of f s + wide_of g s
unfolding wide_of
wide-add f g s =
    sum-cong 8 (λ r h. add-mul (f (8 * r + s)) (g (8 * r + s)) (256 ^ r))
    ∙ sum-add 8 (λ r. f (8 * r + s) * 256 ^ r) (λ r. g (8 * r + s) * 256 ^ r)

pub wide-mul : (a : ℕ) (f : ℕ → ℕ) (s : ℕ) → wide_of (λ t. a * f t) s ≡ a * wide_of f s
unfolding wide_of
wide-mul a f s =
    sum-cong 8 (λ r h. mul_assoc a (f (8 * r + s)) (256 ^ r)) ∙ sum-mul 8 a (λ r. f (8 * r + s) * 256 ^ r)

-- of six digits
wide-six : (a b c d e f : ℕ → ℕ) (s : ℕ)
    → wide_of (λ t. a t + 2 * b t + 4 * c t + 8 * d t + 16 * e t + 32 * f t) s
    ≡ wide_of a s + 2 * wide_of b s + 4 * wide_of c s + 8 * (wide_of d s + 2 * wide_of e s + 4 * wide_of f s)
wide-six a b c d e f s =
    omega (
      arith,
      wide-add (λ t. a t + 2 * b t + 4 * c t + 8 * d t + 16 * e t) (λ t. 32 * f t) s,
      wide-add (λ t. a t + 2 * b t + 4 * c t + 8 * d t) (λ t. 16 * e t) s,
      wide-add (λ t. a t + 2 * b t + 4 * c t) (λ t. 8 * d t) s,
      wide-add (λ t. a t + 2 * b t) (λ t. 4 * c t) s,
      wide-add a (λ t. 2 * b t) s,
      wide-mul 2 b s,
      wide-mul 4 c s,
      wide-mul 8 d s,
      wide-mul 16 e s,
      wide-mul 32 f s,
    )

-- the numbers that six planes have at word w
pub wide-planes : (P : List ℕ) (w s a b c d e f : ℕ) → a ≡ spread_of (at P w) s → b ≡ spread_of (at P (16 + w)) s → c ≡ spread_of (at P (32 + w)) s
    → d ≡ spread_of (at P (48 + w)) s → e ≡ spread_of (at P (64 + w)) s → f ≡ spread_of (at P (80 + w)) s
    → a + 2 * b + 4 * c + 8 * (d + 2 * e + 4 * f) ≡ wide_of (plane_value P w) s
unfolding spread_of plane_value six_digits
wide-planes P w s a b c d e f ha hb hc hd he hf =
    omega (
      arith,
      wide-six (binary_digit (at P w)) (binary_digit (at P (16 + w))) (binary_digit (at P (32 + w))) (binary_digit (at P (48 + w)))
          (binary_digit (at P (64 + w))) (binary_digit (at P (80 + w))) s,
    )
