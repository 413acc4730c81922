-- Where the parts of the sheet of a matrix stand: its heading, its map and its shifts. Nothing is asked of the matrix.
--   made-long                            == how many bytes the sheet has
--   made-rows, made-columns, made-size   == what its first six bytes say
--   map_of                               == a place of its map is a bit of the packed map
--   shift_of                             == the k-th shift of block row r is where the k-th entry of the block row's first row lies in its block
--   bytes_of                             == it consists of bytes where its numbers have 16 bits and its map is one of bits
-- Assumes nothing.
use mathlib.Core.Path.{◌≡◌, refl, ap, ap₂, ◌∙◌}
use mathlib.Core.List.{List, [], ◌++◌}
use Prim.Native.Nat.{ℕ, zero, suc, ◌+◌, ◌*◌, ◌-◌, ◌/◌, ◌%◌, ◌^◌, ◌<◌}
use native.Mathlib.Nat.{add_assoc, mul_assoc}
use native.Mathlib.Decide.{dec_lt}
use native.Mathlib.Omega.{arith}
use lib.ListN.{length, get_or, length-append, get_or-append}
use lib.Seq.{get_or-append-add}
use Rattle.counting.specs.Paper.Joined.{joined}
use Rattle.counting.proofs.Joined.{length-rows, get_or-rows}
use Rattle.packed_word.specs.Paper.Packed.{bit_at, bytes_for, pack, Bytes}
use Rattle.packed_word.proofs.Packed.{length-pack, bytes-pack}
use Rattle.byte_numbers.specs.Paper.Numbers.{number16, bytes16}
use Rattle.matrix.specs.Paper.Code.{Matrix}
use Rattle.sheet.specs.Paper.Sheet.{block_rows, block_columns, block_size, map_bit, shift_at}
use Rattle.sheet.specs.Paper.MatrixSheet.{in_block, sheet_of}
use Rattle.sheet.specs.Parts.{first_entry}

-- the two bytes of a number make the number
number-whole : (x : ℕ) → x % 256 + 256 * (x / 256) ≡ x
number-whole x = omega arith

-- ---- lists of bytes

-- one after another
bytes-append : (a b : List ℕ) → Bytes a → Bytes b → Bytes (a ++ b)
unfolding Bytes
bytes-append a b h g q =
    elim (dec_lt q (length a)) [
      | yes l ↦ omega (arith, h q, get_or-append a b 0 q l)
      | no f ↦
          let e : length a + (q - length a) ≡ q = omega arith in
          omega (arith, g (q - length a), get_or-append-add a b (q - length a) 0, ap (λ (x : ℕ). get_or (a ++ b) x 0) e)
    ]

-- none at all
bytes-none : Bytes []
unfolding Bytes
bytes-none q = omega arith

-- a number of 16 bits
bytes-two : (x : ℕ) → x < 65536 → Bytes (bytes16 x)
unfolding Bytes
bytes-two x h zero = omega arith
bytes-two x h (suc zero) = omega arith
bytes-two x h (suc (suc q)) = omega arith

-- many one after another
bytes-joined : (k : ℕ) (f : ℕ → List ℕ) → ((i : ℕ) → i < k → Bytes (f i)) → Bytes (joined k f)
unfolding joined
bytes-joined zero f h = bytes-none
bytes-joined (suc k) f h = bytes-append (joined k f) (f k) (bytes-joined k f (λ i l. h i (omega arith))) (h k (omega arith))

-- ---- numbers of two bytes, J rows of w

-- the numbers of row r
abbrev numbers_row : ℕ → (ℕ → ℕ → ℕ) → ℕ → List ℕ
numbers_row w f r = joined w (λ k. bytes16 (f r k))

module _ (J w : ℕ) (f : ℕ → ℕ → ℕ) where
  -- how many bytes a row has, and all of them
  row-long : (r : ℕ) → length (numbers_row w f r) ≡ w * 2
  row-long r = length-rows w 2 (λ k. bytes16 (f r k)) (λ k l. refl)

  rows_long : length (joined J (numbers_row w f)) ≡ J * (w * 2)
  rows_long = length-rows J (w * 2) (numbers_row w f) (λ r l. row-long r)

  -- a byte of the k-th number of row r
  rows-byte : (r k b : ℕ) → r < J → k < w → b < 2 → get_or (joined J (numbers_row w f)) (r * (w * 2) + (k * 2 + b)) 0 ≡ get_or (bytes16 (f r k)) b 0
  rows-byte r k b l h m =
      get_or-rows J (w * 2) (numbers_row w f) 0 (λ r l. row-long r) r (k * 2 + b) l (omega arith)
      ∙ get_or-rows w 2 (λ k. bytes16 (f r k)) 0 (λ k l. refl) k b h m

  -- the k-th number of row r
  rows-number : (r k : ℕ) → r < J → k < w → number16 (joined J (numbers_row w f)) (2 * (r * w + k)) ≡ f r k
  unfolding number16
  rows-number r k l h =
      let e : 2 * (r * w + k) ≡ r * (w * 2) + (k * 2 + 0) = omega (arith, mul_assoc r w 2) in
      let e' : 2 * (r * w + k) + 1 ≡ r * (w * 2) + (k * 2 + 1) = omega (arith, mul_assoc r w 2) in
      let byte : ℕ → ℕ = λ p. get_or (joined J (numbers_row w f)) p 0 in
      ap₂ (λ (x y : ℕ). x + 256 * y) (ap byte e ∙ rows-byte r k 0 l h (omega arith)) (ap byte e' ∙ rows-byte r k 1 l h (omega arith))
      ∙ number-whole (f r k)

-- ---- the parts

module _ (H : Matrix) (Z : ℕ) where
  -- the map
  abbrev map_part : List ℕ
  map_part = pack (H.m / Z * (H.n / Z)) (in_block H Z)

  -- the shifts
  abbrev shift_part : List ℕ
  shift_part = joined (H.m / Z) (numbers_row H.rho (λ r k. first_entry H Z r k % Z))

  -- how many bytes these are
  shifts-long : length shift_part ≡ 2 * (H.m / Z * H.rho)
  shifts-long =
      rows_long (H.m / Z) H.rho (λ r k. first_entry H Z r k % Z) ∙ omega (arith, mul_assoc (H.m / Z) H.rho 2)

  -- how many bytes the sheet has
  pub made-long : length (sheet_of H Z) ≡ 6 + bytes_for (H.m / Z * (H.n / Z)) + 2 * (H.m / Z * H.rho)
  unfolding sheet_of first_entry
  made-long =
      omega (arith, length-append map_part shift_part, length-pack (H.m / Z * (H.n / Z)) (in_block H Z), shifts-long)

  -- what its first six bytes say
  pub made-rows : block_rows (sheet_of H Z) ≡ H.m / Z
  unfolding block_rows number16 sheet_of
  made-rows = number-whole (H.m / Z)

  pub made-columns : block_columns (sheet_of H Z) ≡ H.n / Z
  unfolding block_columns number16 sheet_of
  made-columns = number-whole (H.n / Z)

  pub made-size : block_size (sheet_of H Z) ≡ Z
  unfolding block_size number16 sheet_of
  made-size = number-whole Z

  -- the bytes behind them
  byte_of : (p : ℕ) → get_or (sheet_of H Z) (6 + p) 0 ≡ get_or (map_part ++ shift_part) p 0
  unfolding sheet_of first_entry
  byte_of p = get_or-append-add (bytes16 (H.m / Z) ++ (bytes16 (H.n / Z) ++ bytes16 Z)) (map_part ++ shift_part) p 0

  -- a place of its map is a bit of the packed map
  pub map_of : (p : ℕ) → p < 8 * bytes_for (H.m / Z * (H.n / Z)) → map_bit (sheet_of H Z) p ≡ bit_at (pack (H.m / Z * (H.n / Z)) (in_block H Z)) p
  unfolding map_bit bit_at
  map_of p l =
      let e : (48 + p) / 8 ≡ 6 + p / 8 = omega arith in
      let e' : (48 + p) % 8 ≡ p % 8 = omega arith in
      let here : p / 8 < length map_part = omega (arith, length-pack (H.m / Z * (H.n / Z)) (in_block H Z)) in
      ap₂ (λ (x y : ℕ). get_or (sheet_of H Z) x 0 / 2 ^ (7 - y) % 2) e e'
      ∙ ap (λ (x : ℕ). x / 2 ^ (7 - p % 8) % 2) (byte_of (p / 8) ∙ get_or-append map_part shift_part 0 (p / 8) here)

  -- a byte behind the map
  shift-byte : (t : ℕ) → get_or (sheet_of H Z) (6 + bytes_for (H.m / Z * (H.n / Z)) + t) 0 ≡ get_or shift_part t 0
  shift-byte t =
      let e : 6 + bytes_for (H.m / Z * (H.n / Z)) + t ≡ 6 + (length map_part + t) =
      omega (arith, length-pack (H.m / Z * (H.n / Z)) (in_block H Z)) in
      ap (λ (x : ℕ). get_or (sheet_of H Z) x 0) e ∙ byte_of (length map_part + t) ∙ get_or-append-add map_part shift_part t 0

  -- the k-th shift of block row r
  pub shift_of : (r k : ℕ) → r < H.m / Z → k < H.rho → shift_at (sheet_of H Z) (r * H.rho + k) ≡ first_entry H Z r k % Z
  unfolding shift_at number16
  shift_of r k l h =
      let start : ℕ = 6 + bytes_for (H.m / Z * (H.n / Z)) in
      let t : ℕ = 2 * (r * H.rho + k) in
      let places : block_rows (sheet_of H Z) * block_columns (sheet_of H Z) ≡ H.m / Z * (H.n / Z) = ap₂ ◌*◌ made-rows made-columns in
      ap (λ (x : ℕ). number16 (sheet_of H Z) (6 + bytes_for x + t)) places
      ∙ ap₂ (λ (x y : ℕ). x + 256 * y) (shift-byte t) (ap (λ (x : ℕ). get_or (sheet_of H Z) x 0) (add_assoc start t 1) ∙ shift-byte (t + 1))
      ∙ rows-number (H.m / Z) H.rho (λ r k. first_entry H Z r k % Z) r k l h

  -- it consists of bytes where its numbers have 16 bits and its map is one of bits
  pub bytes_of : H.m / Z < 65536 → H.n / Z < 65536 → Z < 65536 → ((p : ℕ) → p < H.m / Z * (H.n / Z) → in_block H Z p < 2)
      → ((r k : ℕ) → r < H.m / Z → k < H.rho → first_entry H Z r k % Z < 65536) → Bytes (sheet_of H Z)
  unfolding sheet_of first_entry
  bytes_of j k z bits near =
      bytes-append _ _ (bytes-two (H.m / Z) j)
      (bytes-append _ _ (bytes-two (H.n / Z) k)
      (bytes-append _ _ (bytes-two Z z)
      (bytes-append _ _ (bytes-pack (H.m / Z * (H.n / Z)) (in_block H Z) bits)
      (bytes-joined (H.m / Z) _ (λ r l. bytes-joined H.rho _ (λ k h. bytes-two _ (near r k l h)))))))
