-- Laws of the whole sheet: its parts are few and small, and written one after the other they are the sheet.
--   few-places    == the map of the largest sizes has 1,046,529 places
--   few-shifts    == and there are at most 32,736 shifts
--   map-put       == the map's part of the buffer, lent and come back as the map, is a run of stores
--   map-long      == that leaves the buffer as long as it was
--   sheet-whole   == heading, map and shifts one after the other are the sheet, and the rest of the buffer is as it was
-- Assumes nothing.
use mathlib.Core.Path.{◌≡◌, refl, sym, ap, ◌∙◌}
use mathlib.Core.List.{List, ◌++◌}
use Prim.Native.Nat.{ℕ, ◌+◌, ◌*◌, ◌-◌, ◌/◌, ◌≤◌}
use native.Mathlib.Nat.{div-le_self, mul-le-mul}
use native.Mathlib.Omega.{arith}
use lib.ListN.{length, take, drop}
use lib.Seq.{sets, length-sets}
use Rattle.counting.specs.Paper.Joined.{joined}
use Rattle.counting.specs.Paper.Lists.{over}
use Rattle.counting.proofs.Stores.{sets-append}
use Rattle.packed_word.specs.Paper.Packed.{bytes_for, pack}
use Rattle.packed_word.proofs.Packed.{length-pack}
use Rattle.matrix.specs.Paper.Code.{Matrix}
use Rattle.byte_numbers.proofs.Joining.{sets_over}
use Rattle.sheet.specs.Paper.MatrixSheet.{in_block, sheet_of}
use Rattle.sheet_store.specs.Storing.{head_bytes, row_shifts}
use Rattle.sheet_store.proofs.Joining.{sets-part}

-- the map of the largest sizes has 1,046,529 places
pub few-places : (m n Z : ℕ) → m ≤ 1023 → n ≤ 1023 → m / Z * (n / Z) ≤ 1046529
few-places m n Z h l =
    mul-le-mul {n₁ = m / Z} {m₁ = n / Z} {n₂ = 1023} {m₂ = 1023} (omega (arith, div-le_self m Z)) (omega (arith, div-le_self n Z))

-- and there are at most 32,736 shifts
pub few-shifts : (m rho Z : ℕ) → m ≤ 1023 → rho ≤ 32 → m / Z * rho ≤ 32736
few-shifts m rho Z h l = mul-le-mul {n₁ = m / Z} {m₁ = rho} {n₂ = 1023} {m₂ = 32} (omega (arith, div-le_self m Z)) l

module _ (H : Matrix) (Z : ℕ) where
  -- its first six bytes
  abbrev head : List ℕ
  head = head_bytes (H.m / Z) (H.n / Z) Z

  -- its map
  abbrev map : List ℕ
  map = pack (H.m / Z * (H.n / Z)) (in_block H Z)

  -- its shifts
  abbrev shifts : List ℕ
  shifts = joined (H.m / Z) (row_shifts H Z)

  -- the sheet by its three parts
  parts : sheet_of H Z ≡ head ++ (map ++ shifts)
  unfolding sheet_of row_shifts
  parts = refl

  -- the map's part of the buffer, which is lent and comes back as the map
  module _ (one new : List ℕ) (e : new ≡ map) (room : 6 + bytes_for (H.m / Z * (H.n / Z)) ≤ length one) where
    -- is a run of stores
    pub map-put : take 6 one ++ (new ++ drop (6 + bytes_for (H.m / Z * (H.n / Z)) - 6) (drop 6 one)) ≡ sets one 6 map
    map-put =
        let long : length map ≡ bytes_for (H.m / Z * (H.n / Z)) = length-pack (H.m / Z * (H.n / Z)) (in_block H Z) in
        rw e (sets-part one map 6 (6 + bytes_for (H.m / Z * (H.n / Z)) - 6) (omega (arith, long)) (omega (arith, long)))

    -- that leaves the buffer as long as it was
    pub map-long : length (take 6 one ++ (new ++ drop (6 + bytes_for (H.m / Z * (H.n / Z)) - 6) (drop 6 one))) ≡ length one
    map-long = ap length map-put ∙ length-sets one 6 map

  -- heading, map and shifts one after the other are the sheet, and the rest of the buffer is as it was
  pub sheet-whole : (old one two three : List ℕ) → length (sheet_of H Z) ≤ length old → one ≡ sets old 0 head → two ≡ sets one 6 map
      → three ≡ sets two (6 + bytes_for (H.m / Z * (H.n / Z))) shifts → three ≡ over (sheet_of H Z) old
  sheet-whole old one two three room e1 e2 e3 =
      e3
      ∙ rw (e2, e1, sym (length-pack (H.m / Z * (H.n / Z)) (in_block H Z)))
      (sym (sets-append (sets old 0 head) 6 map shifts)
      ∙ sym (sets-append old 0 head (map ++ shifts))
      ∙ ap (sets old 0) (sym parts)
      ∙ sets_over (sheet_of H Z) old room)
