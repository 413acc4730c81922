-- `syndrome_sets::turn`: two words are turned over where they hold all checks, else sixteen.
use Rattle.syndrome_sets.proofs.Turns.{two-turned, all-turned}
use Rattle.syndrome_sets.proofs.turn.Goals as goal

pub returns-then-m-le128 : goal.returns-then-m-le128
returns-then-m-le128 c =
    let a = c.args in
    two-turned a.columns.now a.places.now a.count a.m a.parity.now c.turn_listed.new.parity c.if-m-le128.true c.turn_listed.ensures

pub returns-else-m-le128 : goal.returns-else-m-le128
returns-else-m-le128 c =
    let a = c.args in
    all-turned a.columns.now a.places.now a.count a.m a.parity.now c.turn_listed-else-m-le128.new.parity c.if-m-le128.false
    c.turn_listed-else-m-le128.ensures
