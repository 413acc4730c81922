-- `program_input::sizes` meets its contract. Assumes nothing.
use Rattle.program_input.specs.Paper.Input.{matrix_in}
use Rattle.program_input.proofs.sizes.Goals as goal

pub returns : goal.returns
unfolding matrix_in
returns c =
    rw (c.number16.ensures, c.number16-2.ensures, c.number16-3.ensures, c.number16-4.ensures)
