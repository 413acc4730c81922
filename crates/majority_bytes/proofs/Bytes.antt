-- Bytes of words, and the loops that lay words out.
--   byte-wide     == byte r of the word of numbers that fit in bytes is the number at place 8 r + s
--   value-most    == a number of six digits is at most 63
--   put-long, put-before, put-bytes   == the eight bytes of a word put behind the first ones of a list
--   laid-all      == the bytes of all words are the numbers of the planes
-- Assumes nothing.
use mathlib.Core.Path.{◌≡◌, refl, sym, ap, ◌∙◌}
use mathlib.Core.List.{List, ◌++◌}
use Prim.Native.Nat.{ℕ, zero, suc, ◌+◌, ◌*◌, ◌-◌, ◌/◌, ◌%◌, ◌^◌, ◌≤◌, ◌<◌}
use native.Mathlib.Nat.{add-mul-div_right, div-one, div-eq_of_lt, mul_assoc, mul-le-mul_right, pow-suc, not-suc-le-zero}
use native.Mathlib.Decide.{ℕ_discrete}
use native.Mathlib.Omega.{arith}
use lib.Pow.{pow-add}
use lib.ListN.{length, take, drop, length-append, length-drop, get_or-append}
use lib.Seq.{get_or-append-add}
use Rattle.std.specs.Int.{byte_at, bytes_low_first}
use Rattle.std.proofs.lemmas.List.{get_or-take, length-take-le}
use Rattle.counting.specs.Paper.Sum.{sum_below}
use Rattle.counting.specs.Places.{at}
use Rattle.majority_planes.specs.Planes.{six_digits, plane_value}
use Rattle.majority_bytes.specs.Bytes.{wide_of, byte_of, BytesLaid}

-- ---- one byte

-- a word's byte
byte-at : (i x : ℕ) → byte_at i x ≡ byte_of x i
unfolding byte_of
byte-at zero x = ap (λ (y : ℕ). y % 256) (sym (div-one x))
byte-at (suc i) x = refl

-- in the list of its bytes
low-byte : (i k x r : ℕ) → r < k → at (bytes_low_first i k x) r ≡ byte_of x (i + r)
low-byte i zero x r h = absurd (not-suc-le-zero h)
low-byte i (suc k) x zero h = byte-at i x ∙ ap (byte_of x) (omega arith)
low-byte i (suc k) x (suc r) h = low-byte (suc i) k x r (omega arith) ∙ ap (byte_of x) (omega arith)

pos-bytes : (r : ℕ) → 0 < 256 ^ r
pos-bytes zero = omega arith
pos-bytes (suc r) = omega (arith, pow-suc 256 r, pos-bytes r)

-- k numbers that fit in bytes
module _ (v : ℕ → ℕ) (fit : (r : ℕ) → v r ≤ 255) where
  sum-few : (k : ℕ) → sum_below k (λ r. v r * 256 ^ r) < 256 ^ k
  unfolding sum_below
  sum-few zero = omega arith
  sum-few (suc k) =
      let term : v k * 256 ^ k ≤ 255 * 256 ^ k = mul-le-mul_right (256 ^ k) (fit k) in
      omega (arith, pow-suc 256 k, sum-few k, term)

  -- a byte of theirs
  sum-byte : (k r : ℕ) → r < k → sum_below k (λ i. v i * 256 ^ i) / 256 ^ r % 256 ≡ v r
  unfolding sum_below
  sum-byte zero r h = absurd (not-suc-le-zero h)
  sum-byte (suc k) r h =
      elim (ℕ_discrete r k) [
        | yes e ↦
            rw e (
            ap (λ (y : ℕ). y % 256) (add-mul-div_right (sum_below k (λ i. v i * 256 ^ i)) (v k) (pos-bytes k))
            ∙ omega (arith, div-eq_of_lt (sum-few k), fit k)
            )
        | no ne ↦
            let d = k - (r + 1) in
            let count : k ≡ d + 1 + r = omega arith in
            let power : 256 ^ k ≡ 256 ^ d * 256 * 256 ^ r =
            ap (λ (n : ℕ). 256 ^ n) count ∙ pow-add 256 (d + 1) r ∙ ap (λ (y : ℕ). y * 256 ^ r) (pow-add 256 d 1) in
            let whole : v k * 256 ^ k ≡ v k * 256 ^ d * 256 * 256 ^ r =
            ap (λ (y : ℕ). v k * y) power ∙ sym (mul_assoc (v k) (256 ^ d * 256) (256 ^ r))
            ∙ ap (λ (y : ℕ). y * 256 ^ r) (sym (mul_assoc (v k) (256 ^ d) 256)) in
            ap (λ (y : ℕ). (sum_below k (λ i. v i * 256 ^ i) + y) / 256 ^ r % 256) whole
            ∙ ap (λ (y : ℕ). y % 256) (add-mul-div_right (sum_below k (λ i. v i * 256 ^ i)) (v k * 256 ^ d * 256) (pos-bytes r))
            ∙ omega (arith, sum-byte k r (omega arith))
      ]

-- numbers that fit in bytes
pub byte-wide : (v : ℕ → ℕ) (s r : ℕ) → ((t : ℕ) → v t ≤ 255) → r < 8 → byte_of (wide_of v s) r ≡ v (8 * r + s)
unfolding byte_of wide_of
byte-wide v s r fit h = sum-byte (λ i. v (8 * i + s)) (λ i. fit (8 * i + s)) 8 r h

-- six digits
pub value-most : (P : List ℕ) (w t : ℕ) → plane_value P w t ≤ 63
unfolding plane_value six_digits
value-most P w t = omega arith

-- ---- bytes of words

-- a list with the eight bytes of a word put behind its first ones
module _ (x from k : ℕ) (old ys : List ℕ) (eight : k ≡ 8) (room : from + 8 ≤ 1024) (long : length old ≡ 1024) (e : ys ≡ bytes_low_first 0 8 x) where
  abbrev put : List ℕ
  put = take from old ++ (ys ++ drop k (drop from old))

  front : length (take from old) ≡ from
  front = length-take-le from old (omega (arith, long))

  bytes : length ys ≡ 8
  bytes = rw e (omega arith)

  -- it stays as long, and keeps those before them
  pub put-long : length put ≡ 1024
  put-long =
      omega (
        arith,
        length-append (take from old) (ys ++ drop k (drop from old)),
        length-append ys (drop k (drop from old)),
        length-drop k (drop from old),
        length-drop from old,
        front,
        bytes,
        long,
        eight,
        room,
      )

  pub put-before : (j : ℕ) → j < from → at put j ≡ at old j
  put-before j h = get_or-append (take from old) (ys ++ drop k (drop from old)) 0 j (omega (arith, front)) ∙ get_or-take from old j 0 h

  -- and has the word's behind them
  pub put-bytes : (r : ℕ) → r < 8 → at put (from + r) ≡ byte_of x r
  put-bytes r h =
      ap (λ (i : ℕ). at put (i + r)) (sym front)
      ∙ get_or-append-add (take from old) (ys ++ drop k (drop from old)) r 0
      ∙ get_or-append ys (drop k (drop from old)) 0 r (omega (arith, bytes))
      ∙ ap (λ (l : List ℕ). at l r) e
      ∙ low-byte 0 8 x r h
      ∙ ap (byte_of x) (omega arith)

-- all of them
pub laid-all : (P x bs : List ℕ) → length bs ≡ 1024 → ((k : ℕ) → k < 128 → at x k ≡ wide_of (plane_value P (k % 16)) (k / 16))
    → ((j : ℕ) → j < 1024 → at bs j ≡ byte_of (at x (j / 8)) (j % 8)) → BytesLaid P bs
laid-all P x bs long words bytes = record { long = long; each = each }
  where
    each : (j : ℕ) → j < 1024 → at bs j ≡ plane_value P (j / 8 % 16) (8 * (j % 8) + j / 128)
    each j h =
        let place : j / 8 / 16 ≡ j / 128 = omega arith in
        bytes j h
        ∙ ap (λ (y : ℕ). byte_of y (j % 8)) (words (j / 8) (omega arith))
        ∙ byte-wide (plane_value P (j / 8 % 16)) (j / 8 / 16) (j % 8) (λ t. omega (arith, value-most P (j / 8 % 16) t)) (omega arith)
        ∙ ap (λ (y : ℕ). plane_value P (j / 8 % 16) (8 * (j % 8) + y)) place
