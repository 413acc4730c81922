-- A copy of the bits below n is the same word.
--   front_copied     == a part that holds the front of a list, before what stood behind it
--   copied           == the copy has the same bits below n
--   copied-word      == so it is a word
-- Assumes nothing.
use mathlib.Core.Path.{◌≡◌, ap, ◌∙◌}
use mathlib.Core.List.{List, ◌++◌}
use Prim.Native.Nat.{ℕ, ◌<◌, ◌≤◌}
use native.Mathlib.Omega.{arith}
use lib.ListN.{length, take, drop}
use Rattle.counting.specs.Paper.Lists.{listed, over}
use Rattle.counting.specs.Places.{at}
use Rattle.counting.proofs.Loops.{over_copy}
use Rattle.counting.proofs.Writes.{length-listed, get_or-listed, get_or-over-new}
use Rattle.matrix.specs.Paper.Code.{Matrix, Word}

-- a part that holds the front of a list, before what stood behind it
pub front_copied : (n : ℕ) (z old new : List ℕ) → n ≤ length z → new ≡ take n z → new ++ drop n old ≡ over (listed n (at z)) old
front_copied n z old new h e = rw e (over_copy n 0 z old h)

module _ (H : Matrix) (z old new : List ℕ) (e : new ≡ over (listed H.n (at z)) old) where
  -- the copy has the same bits
  pub copied : (j : ℕ) → j < H.n → at new j ≡ at z j
  copied j l =
      ap (λ (y : List ℕ). at y j) e ∙ get_or-over-new (listed H.n (at z)) old j 0 (omega (arith, length-listed H.n (at z)))
      ∙ get_or-listed H.n (at z) j 0 l

  -- so it is a word
  pub copied-word : Word H (at z) → Word H (at new)
  unfolding Word
  copied-word w j l = omega (arith, copied j l, w j l)
