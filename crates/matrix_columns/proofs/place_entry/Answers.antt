-- `matrix_columns::place_entry` meets its contract: two cells grow, the word of the column by the row's bit, its weight by one. Assumes nothing.
use Prim.Native.Nat.{◌%◌}
use mathlib.Core.Path.{refl}
use native.Mathlib.Omega.{arith}
use Rattle.counting.proofs.Bits.{one_bit}
use Rattle.matrix_columns.proofs.Filling.{entry-put}
use Rattle.matrix_columns.proofs.place_entry.Goals as goal

pub returns : goal.returns
returns c =
    let a = c.args in
    entry-put a.n a.i a.j a.columns.now _ _ (one_bit 1 (a.i % 64) (a.i % 64) refl refl (omega arith)) refl
