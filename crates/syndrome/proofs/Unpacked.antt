-- Laws of a received word that is unpacked bit by bit: it is a word, and has the checks of the packed one.
--   unpacked-word      == an unpacked word is a word
--   unpacked-failing   == it has as many failing checks as the packed one
-- Assumes nothing.
use mathlib.Core.Path.{◌≡◌}
use mathlib.Core.List.{List}
use Prim.Native.Nat.{ℕ}
use native.Mathlib.Omega.{arith}
use Rattle.packed_word.specs.Paper.Packed.{bit_at}
use Rattle.counting.specs.Places.{at}
use Rattle.packed_word.specs.Steps.{Unpacked}
use Rattle.matrix.specs.Paper.Code.{Matrix, Word, failing}
use Rattle.matrix.specs.Paper.PlainCheck.{Rows}
use Rattle.matrix.proofs.Rows.{failing-cong}

module _ (H : Matrix) (w old new : List ℕ) (u : Unpacked H.n w old new) where
  -- an unpacked word is a word
  pub unpacked-word : Word H (at new)
  unfolding Word bit_at
  unpacked-word j h = omega (arith, u.each j h)

  -- it has as many failing checks as the packed one
  pub unpacked-failing : Rows H → failing H (at new) ≡ failing H (bit_at w)
  unpacked-failing r = failing-cong H r (at new) (bit_at w) u.each
