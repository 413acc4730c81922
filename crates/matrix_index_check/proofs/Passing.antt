-- Laws of the columns' weights as the starting places of a matrix's own index have them.
--   own-rise       == the starting places do not fall
--   own-weighed    == the gaps between them are the weights
-- Assumes nothing.
use mathlib.Core.Path.{refl, ◌∙◌}
use mathlib.Core.List.{List}
use Prim.Native.Nat.{ℕ, ◌+◌, ◌≤◌, ◌<◌}
use native.Mathlib.Omega.{arith}
use lib.ListN.{replicate}
use Rattle.counting.specs.Places.{at}
use Rattle.counting.proofs.Writes.{over-at}
use Rattle.matrix.specs.Paper.Code.{Matrix}
use Rattle.matrix.specs.Tallies.{Weighed}
use Rattle.matrix_degrees.specs.Degrees.{gap}
use Rattle.matrix_index_replay.specs.Replay.{Own}
use Rattle.matrix_index_check.specs.Agree.{gaps_in}

module _ (H : Matrix) (x : List ℕ) (o : Own H x) where
  -- the starting places do not fall
  pub own-rise : (j : ℕ) → j < H.n → at x j ≤ at x (j + 1)
  own-rise j l = omega (arith, o.parts j l)

  -- the gaps between them are the weights
  pub own-weighed : Weighed H (gaps_in H.n x)
  unfolding gap
  own-weighed j l = over-at H.n (gap x) (replicate 1023 0) (gaps_in H.n x) refl 0 j l ∙ omega (arith, o.parts j l)
