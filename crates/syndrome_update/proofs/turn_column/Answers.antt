-- `syndrome_update::turn_column`: the rows of the column stand between its starting place and the next.
use Rattle.syndrome_update.proofs.Turns.{column-turned}
use Rattle.syndrome_update.proofs.turn_column.Goals as goal

pub returns : goal.returns
returns c =
    let a = c.args in
    column-turned a.parity.now c.requires.2 a.index.now a.n a.j c.turn_checks.new.parity c.turn_checks.ensures
