-- Adders of whole words.
--   odd_of x y z            == where one or all of three words are set
--   most_of x y z           == where two or all of them are
--   eight_bits x0 .. x7 t   == at how many of eight words place t is set
--   Grown f g h             == h t is f t + g t, wherever that has six digits
--   PlanePut w f P Q        == the planes Q have the number f t at place t of word w, and otherwise those of P
--   PlanesTo v x l from k P == the planes P have the counts of k listed sets in the words before word v
-- Assumes nothing.
use Rattle.std.specs.Prelude.{◌≡◌, List, ℕ, ◌+◌, ◌<◌, ◌≤◌, length}
use Rattle.std.specs.Int.Bits.{bit_and, bit_or, bit_xor}
use Rattle.counting.specs.Digits.{binary_digit}
use Rattle.majority_planes.specs.Planes.{plane_value, sets_count}

-- the digit of a sum of three
unfoldable pub odd_of : ℕ → ℕ → ℕ → ℕ
odd_of x y z = bit_xor (bit_xor x y) z

-- the digit that is carried
unfoldable pub most_of : ℕ → ℕ → ℕ → ℕ
most_of x y z = bit_or (bit_and x y) (bit_and (bit_xor x y) z)

unfoldable pub eight_bits : ℕ → ℕ → ℕ → ℕ → ℕ → ℕ → ℕ → ℕ → ℕ → ℕ
eight_bits x0 x1 x2 x3 x4 x5 x6 x7 t =
    binary_digit x0 t + binary_digit x1 t + binary_digit x2 t + binary_digit x3 t + binary_digit x4 t + binary_digit x5 t + binary_digit x6 t
    + binary_digit x7 t

abbrev pub Grown : (ℕ → ℕ) → (ℕ → ℕ) → (ℕ → ℕ) → Type 0
Grown f g h = (t : ℕ) → f t + g t ≤ 63 → h t ≡ f t + g t

pub record PlanePut (w : ℕ) (f : ℕ → ℕ) (P Q : List ℕ) : Type 0 where
  pub long : length Q ≡ 96
  pub here : (t : ℕ) → plane_value Q w t ≡ f t
  pub there : (v t : ℕ) → v < 16 → (v ≡ w → ⊥) → plane_value Q v t ≡ plane_value P v t

pub record PlanesTo (v : ℕ) (x l : List ℕ) (from k : ℕ) (P : List ℕ) : Type 0 where
  pub long : length P ≡ 96
  pub each : (w t : ℕ) → w < v → t < 64 → plane_value P w t ≡ sets_count x l from k w t
