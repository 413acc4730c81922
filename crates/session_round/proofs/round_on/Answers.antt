-- `session_round::round_on` meets its contract: the arrays hold the state that is lent, and then the state after a round. Assumes nothing.
-- ---- the places that the facts are known at
use Rattle.counting.specs.Places.{at}
use Rattle.matrix.specs.Paper.Code.{Matrix, Word}
use Rattle.matrix.specs.Paper.Shapes.{matrix_of}
use Rattle.syndrome.proofs.Unpacked.{unpacked-word}
use Rattle.session_round.proofs.Rounds.{next_word, next-restorable, round-left}
use Rattle.session_round.proofs.round_on.Goals as goal

pub tally-requires : goal.tally-requires
tally-requires c =
    let lent_matrix : Matrix = matrix_of c.args.shape c.args.list.now in
    let u = c in
    (c.requires.matrix, unpacked-word (lent_matrix) _ _ _ u.unpack.ensures)

pub pack_into-requires : goal.pack_into-requires
unfolding Word
pack_into-requires c =
    let lent_matrix : Matrix = matrix_of c.args.shape c.args.list.now in
    let next-bits : Word (lent_matrix) (at c.move_levels.new.bits) = let s = c in
    next_word (lent_matrix) s.args.middle s.args.word.now s.args.levels.now s.requires _ _ _ _ _ _
    c.unpack.ensures c.bias.ensures c.tally.ensures _ _ c.move_levels.ensures in
    let u = c in
    (c.requires.matrix.sizes.n_most, c.requires.bytes, next-bits)

pub unbias-requires : goal.unbias-requires
unbias-requires c =
    let lent_matrix : Matrix = matrix_of c.args.shape c.args.list.now in
    let u = c in
    let s = c in
    next-restorable (lent_matrix) s.args.middle s.args.word.now s.args.levels.now s.requires _ _ _ _ _ _
    c.unpack.ensures c.bias.ensures c.tally.ensures _ _ u.move_levels.ensures

pub failing_count-requires : goal.failing_count-requires
failing_count-requires c =
    let lent_matrix : Matrix = matrix_of c.args.shape c.args.list.now in
    let next-bits : Word (lent_matrix) (at c.move_levels.new.bits) = let s = c in
    next_word (lent_matrix) s.args.middle s.args.word.now s.args.levels.now s.requires _ _ _ _ _ _
    c.unpack.ensures c.bias.ensures c.tally.ensures _ _ c.move_levels.ensures in
    let u = c in
    (c.requires.matrix, next-bits)

pub returns : goal.returns
returns c =
    let lent_matrix : Matrix = matrix_of c.args.shape c.args.list.now in
    let p = c in
    let u = p in
    let s = c in
    round-left (lent_matrix) s.args.middle s.args.word.now s.args.levels.now s.requires _ _ _ _ _ _
    c.unpack.ensures c.bias.ensures c.tally.ensures _ _ u.move_levels.ensures _ _ _
    p.pack_into.ensures c.unbias.ensures c.failing_count.ensures
