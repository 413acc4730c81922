-- `session_opening::open_accepted` meets its contract: the levels and the hard bits, and the counts on them. Assumes nothing.
use Rattle.counting.specs.Places.{at}
use Rattle.matrix.specs.Paper.Code.{Matrix, Word}
use Rattle.matrix.specs.Paper.Shapes.{matrix_of}
use Rattle.quantiser_settings.specs.Paper.Settings.{setting_of}
use Rattle.session_asking.specs.Paper.Asked.{Held, lent}
use Rattle.session.specs.RoundParts.{blank}
use Rattle.session.proofs.Answers.{open-fillable, cells-word, open-leaves}
use Rattle.session_opening.proofs.open_accepted.Goals as goal

pub fill-requires : goal.fill-requires
fill-requires c =
    let lent_matrix : Matrix = matrix_of c.args.shape c.args.list.now in
    let held : Held = lent blank c.args.word.now c.args.levels.now in
    let s = c in
    open-fillable (lent_matrix) (setting_of s.args.setting) s.args.samples.now (held) s.requires

pub pack_into-requires : goal.pack_into-requires
unfolding Word
pack_into-requires c =
    let lent_matrix : Matrix = matrix_of c.args.shape c.args.list.now in
    let held : Held = lent blank c.args.word.now c.args.levels.now in
    let cells : Word (lent_matrix) (at c.fill.new.bits) = let s = c in
    cells-word (lent_matrix) (setting_of s.args.setting) s.args.samples.now (held) s.requires _ _ _ c.fill.ensures in
    let f = c in
    (c.requires.matrix.sizes.n_most, c.requires.bytes, cells)

pub failing_count-failing-requires : goal.failing_count-failing-requires
failing_count-failing-requires c =
    let lent_matrix : Matrix = matrix_of c.args.shape c.args.list.now in
    let held : Held = lent blank c.args.word.now c.args.levels.now in
    let cells : Word (lent_matrix) (at c.fill.new.bits) = let s = c in
    cells-word (lent_matrix) (setting_of s.args.setting) s.args.samples.now (held) s.requires _ _ _ c.fill.ensures in
    let f = c in
    (c.requires.matrix, cells)

pub returns : goal.returns
returns c =
    let lent_matrix : Matrix = matrix_of c.args.shape c.args.list.now in
    let held : Held = lent blank c.args.word.now c.args.levels.now in
    let p = c in
    let f = p in
    let s = c in
    open-leaves (lent_matrix) (setting_of s.args.setting) s.args.samples.now (held) s.requires _ _ _ f.fill.ensures _ _ _ _
    p.pack_into.ensures c.failing_count-failing.ensures c.after_round.ensures.0 c.after_round.ensures.1
