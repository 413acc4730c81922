-- A sheet is its heading, its map and its shifts.
--   Alike a b     == two lists of bytes have the same heading, map and shifts
--   alike-equal   == sheets of bytes that have are equal
-- Assumes nothing.
use mathlib.Core.Path.{◌≡◌, sym, ap, ap₂, ◌∙◌}
use mathlib.Core.List.{List}
use Prim.Native.Nat.{ℕ, zero, suc, ◌+◌, ◌*◌, ◌-◌, ◌/◌, ◌%◌, ◌^◌, ◌<◌}
use native.Mathlib.Nat.{add-zero}
use native.Mathlib.Decide.{dec_lt}
use native.Mathlib.Omega.{arith}
use lib.ListN.{length, get_or}
use lib.Seq.{ext_get_or}
use Rattle.counting.proofs.Sums.{sum-cong}
use Rattle.packed_word.specs.Paper.Packed.{bit_at, bytes_for, Bytes}
use Rattle.packed_word.proofs.Packed.{bit-of}
use Rattle.packed_word.proofs.Digits.{byte-digit}
use Rattle.byte_numbers.specs.Paper.Numbers.{number16}
use Rattle.sheet.specs.Paper.Sheet.{block_rows, block_columns, block_size, map_bit, set_places, shift_at, sheet_length}
use Rattle.sheet.specs.Paper.PlainSheet.{IsSheet}

-- the same heading, map and shifts
pub record Alike (a b : List ℕ) : Type 0 where
  pub rows : block_rows a ≡ block_rows b
  pub columns : block_columns a ≡ block_columns b
  pub size : block_size a ≡ block_size b
  pub map : (p : ℕ) → p < block_rows b * block_columns b → map_bit a p ≡ map_bit b p
  pub many : set_places a ≡ set_places b
  pub shifts : (q : ℕ) → q < set_places b → shift_at a q ≡ shift_at b q

-- ---- bytes by numbers and bits

module _ (a b : List ℕ) (small : Bytes a) (small' : Bytes b) where
  -- the bytes of equal numbers are equal
  number-bytes : (p x : ℕ) → x < 2 → number16 a p ≡ number16 b p → get_or a (p + x) 0 ≡ get_or b (p + x) 0
  unfolding number16 Bytes
  number-bytes p zero l e = rw (add-zero p) (omega (arith, small p, small' p, e))
  number-bytes p (suc zero) l e = omega (arith, small p, small' p, e)
  number-bytes p (suc (suc x)) l e = absurd (omega arith)

  -- a byte by its bits
  bit-bytes : (q : ℕ) → ((i : ℕ) → i < 8 → bit_at a (8 * q + i) ≡ bit_at b (8 * q + i)) → get_or a q 0 ≡ get_or b q 0
  unfolding Bytes
  bit-bytes q h =
      sym (byte-digit (get_or a q 0) (small q))
      ∙ sum-cong 8 (λ i l. ap (λ (x : ℕ). x * 2 ^ (7 - i)) (sym (bit-of a q i l) ∙ h i l ∙ bit-of b q i l))
      ∙ byte-digit (get_or b q 0) (small' q)

  -- ---- the three parts of a sheet

  module _ (s : IsSheet a) (s' : IsSheet b) (e : Alike a b) where
    -- how many places the map has
    abbrev places : ℕ
    places = block_rows b * block_columns b

    -- in either of them
    same-places : block_rows a * block_columns a ≡ places
    same-places = ap₂ ◌*◌ e.rows e.columns

    -- the three numbers of the heading
    heading : (h : ℕ) → h < 3 → number16 a (2 * h) ≡ number16 b (2 * h)
    unfolding block_rows block_columns block_size
    heading zero l = e.rows
    heading (suc zero) l = e.columns
    heading (suc (suc zero)) l = e.size
    heading (suc (suc (suc h))) l = absurd (omega arith)

    -- a byte of the heading
    heading-byte : (q : ℕ) → q < 6 → get_or a q 0 ≡ get_or b q 0
    heading-byte q l =
        let at : 2 * (q / 2) + q % 2 ≡ q = omega arith in
        ap (λ (x : ℕ). get_or a x 0) (sym at)
        ∙ number-bytes (2 * (q / 2)) (q % 2) (omega arith) (heading (q / 2) (omega arith))
        ∙ ap (λ (x : ℕ). get_or b x 0) at

    -- a place of the map, spare ones too
    map-bit : (p : ℕ) → p < 8 * bytes_for places → map_bit a p ≡ map_bit b p
    map-bit p l =
        elim (dec_lt p places) [
          | yes h ↦ e.map p h
          | no g ↦ s.padded p (omega (arith, same-places)) (omega (arith, same-places)) ∙ sym (s'.padded p (omega arith) l)
        ]

    -- a byte of the map
    map-byte : (q : ℕ) → q < bytes_for places → get_or a (6 + q) 0 ≡ get_or b (6 + q) 0
    unfolding map_bit
    map-byte q l =
        bit-bytes (6 + q)
        (λ i h.
        let at : 8 * (6 + q) + i ≡ 48 + (8 * q + i) = omega arith in
        ap (bit_at a) at ∙ map-bit (8 * q + i) (omega arith) ∙ ap (bit_at b) (sym at))

    -- a byte of the shifts
    shift-byte : (t : ℕ) → t < 2 * set_places b → get_or a (6 + bytes_for places + t) 0 ≡ get_or b (6 + bytes_for places + t) 0
    unfolding shift_at
    shift-byte t l =
        let start : ℕ = 6 + bytes_for places in
        let at : start + 2 * (t / 2) + t % 2 ≡ start + t = omega arith in
        let same : number16 a (start + 2 * (t / 2)) ≡ number16 b (start + 2 * (t / 2)) =
        ap (λ (x : ℕ). number16 a (6 + bytes_for x + 2 * (t / 2))) (sym same-places) ∙ e.shifts (t / 2) (omega arith) in
        ap (λ (x : ℕ). get_or a x 0) (sym at)
        ∙ number-bytes (start + 2 * (t / 2)) (t % 2) (omega arith) same
        ∙ ap (λ (x : ℕ). get_or b x 0) at

    -- how many bytes they have
    long : (length a ≡ 6 + bytes_for places + 2 * set_places b) × (length b ≡ 6 + bytes_for places + 2 * set_places b)
    unfolding sheet_length
    long = (s.whole ∙ ap₂ (λ (x y : ℕ). 6 + bytes_for x + 2 * y) same-places e.many, s'.whole)

    -- each byte stands in one of the three parts
    each-byte : (q : ℕ) → q < 6 + bytes_for places + 2 * set_places b → get_or a q 0 ≡ get_or b q 0
    each-byte q l =
        elim (dec_lt q 6) [
          | yes h ↦ heading-byte q h
          | no g ↦
              elim (dec_lt q (6 + bytes_for places)) [
                | yes h ↦
                    let at : 6 + (q - 6) ≡ q = omega arith in
                    ap (λ (x : ℕ). get_or a x 0) (sym at) ∙ map-byte (q - 6) (omega arith) ∙ ap (λ (x : ℕ). get_or b x 0) at
                | no f ↦
                    let at : 6 + bytes_for places + (q - (6 + bytes_for places)) ≡ q = omega arith in
                    ap (λ (x : ℕ). get_or a x 0) (sym at) ∙ shift-byte (q - (6 + bytes_for places)) (omega arith) ∙ ap (λ (x : ℕ). get_or b x 0) at
              ]
        ]

    -- sheets of bytes that are alike are equal
    pub alike-equal : a ≡ b
    alike-equal = ext_get_or 0 a b (long.0 ∙ sym long.1) (λ q l. each-byte q (omega (arith, long.0)))
