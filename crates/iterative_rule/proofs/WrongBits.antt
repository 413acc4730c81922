-- The wrong bits that had a level.
--   wrong-least      == no more wrong bits had a level than were wrong
--   wrong-decided    == where no sample is undecided, all of them had one
-- Assumes nothing.
use mathlib.Core.Path.{◌≡◌}
use mathlib.Core.List.{List}
use Prim.Native.Nat.{ℕ, ◌≤◌, ◌<◌}
use lib.IntN.{pos}
use lib.Ieee.{Float}
use Rattle.packed_word.specs.Paper.Packed.{bit_at}
use Rattle.matrix.specs.Paper.Code.{Matrix}
use Rattle.quantiser_levels.specs.Paper.Samples.{Setting, hard_bit}
use Rattle.iterative_changed.specs.Paper.Changed.{decided_in}
use Rattle.iterative_changed.proofs.Changes.{changed-least, changed-decided}
use Rattle.iterative_core.specs.Paper.Iterative.{start_of}
use Rattle.iterative_rule.specs.Paper.Claims.{wrong_bits, wrong_decided}

module _ (H : Matrix) (S : Setting) (c : List ℕ) (xs : List Float) where
  -- no more than were wrong
  pub wrong-least : wrong_decided H S c xs ≤ wrong_bits H c xs
  wrong-least = changed-least H.n (decided_in (start_of S xs).R) (hard_bit xs) (bit_at c)

  -- all of them where no sample is undecided
  pub wrong-decided : ((j : ℕ) → j < H.n → (start_of S xs).R j ≡ pos 0 → ⊥) → wrong_decided H S c xs ≡ wrong_bits H c xs
  wrong-decided some = changed-decided H.n (start_of S xs).R (hard_bit xs) (bit_at c) some
