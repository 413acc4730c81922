-- `program_samples::take_samples` meets its contract: by confirmed guesses, or by the exact rule on arrays that stayed. Assumes nothing.
use Rattle.program_samples.proofs.Blocks.{taken-guessed, takeable-after, taken-after}
use Rattle.program_samples.proofs.take_samples.Goals as goal

pub returns-then-take : goal.returns-then-take
returns-then-take c =
    let t = c in
    (taken-guessed _ _ _ _ _ _ _ t.requires.0 t.take.ensures c.if-take.true, tt)

pub exact-requires : goal.exact-requires
exact-requires c =
    let i = c in
    let t = i in
    takeable-after _ _ _ _ _ _ _ t.requires.0 t.take.ensures i.if-take.false

pub returns : goal.returns
returns c =
    let i = c in
    let t = i in
    (taken-after _ _ _ _ _ _ _ t.requires.0 t.take.ensures i.if-take.false c.exact.ensures.0, c.exact.ensures.1)
