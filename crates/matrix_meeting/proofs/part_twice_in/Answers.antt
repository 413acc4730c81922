-- `matrix_meeting::part_twice_in` meets its contract. Assumes nothing.
use Prim.Native.Nat.{ℕ}
use native.Mathlib.Omega.{arith}
use lib.ListN.{length-replicate}
use Rattle.matrix_meeting.proofs.Words.{unmarked-zeros}
use Rattle.matrix_meeting.proofs.part_twice_in.Goals as goal

pub rows_twice-requires : goal.rows_twice-requires
rows_twice-requires g c =
    let b = c in
    (b.requires.0, b.requires.1, omega (arith, b.requires.2, length-replicate {A = ℕ} g.row.SIZE 0), unmarked-zeros g.row.SIZE)
