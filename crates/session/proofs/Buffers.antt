-- What a call has written is what the next one reads: the bits and the levels, clear spare places.
--   bits_back     == the bits that are written are read back
--   spare-back    == the spare places that are written are clear
--   levels-back   == the levels that are written are read back
-- Assumes nothing.
use mathlib.Core.Path.{◌≡◌, ap, ◌∙◌}
use mathlib.Core.Bool.{false}
use mathlib.Core.List.{List}
use Prim.Native.Nat.{ℕ, ◌-◌, ◌/◌, ◌%◌, ◌^◌, ◌<◌}
use native.Mathlib.Omega.{arith}
use lib.IntN.{ℤ}
use lib.ListN.{length, get_or}
use Rattle.counting.specs.Paper.Lists.{listed, over}
use Rattle.counting.proofs.Writes.{length-listed, get_or-listed, get_or-over-new}
use Rattle.packed_word.specs.Paper.Packed.{bit_at, pack, spare_set}
use Rattle.packed_word.proofs.Packed.{length-pack, bit_at-pack, spare-pack, clear-spare}

-- a bit of a byte that is written
bit-over : (new old : List ℕ) (j : ℕ) → j / 8 < length new → bit_at (over new old) j ≡ bit_at new j
unfolding bit_at
bit-over new old j l = ap (λ (x : ℕ). x / 2 ^ (7 - j % 8) % 2) (get_or-over-new new old (j / 8) 0 l)

module _ (n : ℕ) (z : ℕ → ℕ) (bits : (j : ℕ) → j < n → z j < 2) (old : List ℕ) where
  -- the bits that are written are read back
  pub bits_back : (j : ℕ) → j < n → bit_at (over (pack n z) old) j ≡ z j
  bits_back j l = bit-over (pack n z) old j (omega (arith, length-pack n z)) ∙ bit_at-pack n z bits j l

  -- the spare places that are written are clear
  pub spare-back : spare_set n (over (pack n z) old) ≡ false
  spare-back =
      clear-spare n (over (pack n z) old) (λ j l m. bit-over (pack n z) old j (omega (arith, length-pack n z)) ∙ spare-pack n z bits j l)

-- the levels that are written are read back
pub levels-back : (n : ℕ) (R : ℕ → ℤ) (old : List ℤ) (j : ℕ) (d : ℤ) → j < n → get_or (over (listed n R) old) j d ≡ R j
levels-back n R old j d l =
    get_or-over-new (listed n R) old j d (omega (arith, length-listed n R)) ∙ get_or-listed n R j d l
