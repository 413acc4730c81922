-- `matrix_rows::place_entry` meets its contract: the word of the row that the column stands in grows by the column's bit. Assumes nothing.
use mathlib.Core.Path.{refl}
use native.Mathlib.Omega.{arith}
use Rattle.counting.proofs.Bits.{one_bit}
use Rattle.matrix_rows.specs.Rows.{place_of}
use Rattle.matrix_rows.proofs.Shares.{place-low}
use Rattle.matrix_rows.proofs.Filling.{entry-put}
use Rattle.matrix_rows.proofs.place_entry.Goals as goal

pub returns : goal.returns
returns c =
    let a = c.args in
    entry-put a.i a.j a.rows.now _ (one_bit 1 (place_of a.j) (place_of a.j) refl refl (place-low a.j (omega arith)))
