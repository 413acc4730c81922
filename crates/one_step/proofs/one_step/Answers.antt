-- `one_step::one_step` meets its contract: the flipping rule is a theorem on what is answered. Assumes nothing.
use Rattle.answers.specs.Paper.Enums.{said_of}
use Rattle.matrix.specs.Paper.Code.{Matrix}
use Rattle.matrix.specs.Paper.Shapes.{matrix_of}
use Rattle.one_step.proofs.Calls.{answered-rule}
use Rattle.one_step.proofs.one_step.Goals as goal

pub returns : goal.returns
returns c =
    let a = c.args in
    let r = c.answered in
    let H : Matrix = matrix_of a.shape a.list.now in
    record { answer = r.ensures; flipping_rule = answered-rule H a.received.now a.word.now r.new.word (said_of r.result) r.ensures }
