-- `matrix_meeting::note` meets its contract. Assumes nothing.
use Prim.Native.Nat.{◌%◌}
use native.Mathlib.Omega.{arith}
use Rattle.matrix_meeting.specs.Marks.{bit_for}
use Rattle.matrix_meeting.proofs.Words.{marked-is, shifted}
use Rattle.matrix_meeting.proofs.note.Goals as goal

pub returns : goal.returns
returns c =
    let a = c.args in
    let x = bit_for a.c a.i in
    marked-is x a.seen.now _ _ (omega arith) (shifted _ _ (x % 64) (omega arith) (omega arith) (omega arith))
