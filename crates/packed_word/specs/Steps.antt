-- What one call does to a packed or an unpacked word.
--   SetBit, FlipBit  == one bit of a packed word set, turned over
--   Unpacked         == an array that holds a word's bits one by one
-- Assumes nothing.
use Rattle.std.specs.Prelude.{ℕ, ◌-◌, ◌<◌, ◌≤◌, ◌≡◌, List, length}
use Rattle.counting.specs.Places.{at}
use Rattle.packed_word.specs.Paper.Packed.{bit_at}

-- bit j is set, and no other changes
pub record SetBit (w w' : List ℕ) (j : ℕ) : Type 0 where
  pub long : length w' ≡ length w
  pub here : bit_at w' j ≡ 1
  pub there : (k : ℕ) → (k ≡ j → ⊥) → bit_at w' k ≡ bit_at w k

-- bit j is turned over, and no other changes
pub record FlipBit (w w' : List ℕ) (j : ℕ) : Type 0 where
  pub long : length w' ≡ length w
  pub here : bit_at w' j ≡ 1 - bit_at w j
  pub there : (k : ℕ) → (k ≡ j → ⊥) → bit_at w' k ≡ bit_at w k

-- the first n cells of an array are the bits of a word, the others stay
pub record Unpacked (n : ℕ) (w old new : List ℕ) : Type 0 where
  pub long : length new ≡ 1023
  pub each : (j : ℕ) → j < n → at new j ≡ bit_at w j
  pub rest : (j : ℕ) → n ≤ j → at new j ≡ at old j
