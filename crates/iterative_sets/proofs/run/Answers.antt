-- `iterative_sets::run` meets its contract: the columns and the rows are parts of the sets, and the weights behind the columns are the columns' weights.
-- Assumes nothing.
use mathlib.Core.Path.{refl, sym, ap, subst, ◌∙◌}
use Prim.Native.Nat.{ℕ, ◌-◌, ◌*◌, ◌≤◌}
use native.Mathlib.Omega.{arith}
use lib.ListN.{length, take, drop, replicate, length-drop}
use lib.Seq.{length-take-le, take_all}
use Rattle.matrix.specs.Paper.Code.{Matrix}
use Rattle.matrix.specs.Paper.Shapes.{matrix_of}
use Rattle.syndrome_words.specs.Sets.{ColumnSets}
use Rattle.matrix_columns.proofs.Columns.{columns-sets, weights-small, weights-weighed}
use Rattle.matrix_rows.specs.Rows.{RowSets}
use Rattle.matrix_rows.proofs.Rows.{rows-sets}
use Rattle.syndrome_words.proofs.Sets.{zero-parities, zero-votes}
use Rattle.matrix_sets.proofs.Sets.{sets-long, sets-room, sets-columns, sets_rows}
use Rattle.iterative_sets.proofs.run.Goals as goal

pub slice_bounds-weigh-end : goal.slice_bounds-weigh-end
slice_bounds-weigh-end c =
    let from : ℕ = 17 * c.args.shape.n in
    let lent : Matrix = matrix_of c.args.shape c.args.list.now in
    let front : from ≤ length c.args.sets.now = omega (arith, (sets-room (lent) {k = length c.args.sets.now} (omega (arith, ap length c.requires.1, sets-long (lent)))).0) in
    let s = c in sym (length-take-le (from) s.args.sets.now (front))

pub weigh-requires : goal.weigh-requires
weigh-requires c =
    let lent : Matrix = matrix_of c.args.shape c.args.list.now in
    let from : ℕ = 17 * c.args.shape.n in
    let columns : ColumnSets (lent) (take (from) c.args.sets.now) = columns-sets (lent) c.requires.0.matrix _ (sets-columns (lent) c.args.sets.now c.requires.1) in
    let s = c in
    (s.requires.0.matrix.sizes.n_most, (columns).room, weights-small (lent) s.requires.0.matrix _ (columns), refl)

pub slice_bounds-way-end : goal.slice_bounds-way-end
slice_bounds-way-end c =
    let from : ℕ = 17 * c.args.shape.n in
    let lent : Matrix = matrix_of c.args.shape c.args.list.now in
    let front : from ≤ length c.args.sets.now = omega (arith, (sets-room (lent) {k = length c.args.sets.now} (omega (arith, ap length c.requires.1, sets-long (lent)))).0) in
    let s = c in sym (length-take-le (from) s.args.sets.now (front))

pub slice_bounds-way-count : goal.slice_bounds-way-count
slice_bounds-way-count c =
    let from : ℕ = 17 * c.args.shape.n in
    let lent : Matrix = matrix_of c.args.shape c.args.list.now in
    let front : from ≤ length c.args.sets.now = omega (arith, (sets-room (lent) {k = length c.args.sets.now} (omega (arith, ap length c.requires.1, sets-long (lent)))).0) in
    omega (arith, front)

pub slice_bounds-way-start : goal.slice_bounds-way-start
slice_bounds-way-start c =
    let from : ℕ = 17 * c.args.shape.n in
    let lent : Matrix = matrix_of c.args.shape c.args.list.now in
    let front : from ≤ length c.args.sets.now = omega (arith, (sets-room (lent) {k = length c.args.sets.now} (omega (arith, ap length c.requires.1, sets-long (lent)))).0) in
    omega (arith, front)

pub rounds_on-requires : goal.rounds_on-requires
rounds_on-requires c =
    let lent : Matrix = matrix_of c.args.shape c.args.list.now in
    let from : ℕ = 17 * c.args.shape.n in
    let columns : ColumnSets (lent) (take (from) c.args.sets.now) = columns-sets (lent) c.requires.0.matrix _ (sets-columns (lent) c.args.sets.now c.requires.1) in
    let rows : RowSets (lent) (take (length c.args.sets.now - from) (drop (from) c.args.sets.now)) = let x = c.args.sets.now in
    let rest : length (drop (from) x) ≤ length x - from = omega (arith, length-drop (from) x) in
    subst (RowSets (lent)) (sym (take_all (length x - from) (drop (from) x) rest ∙ sets_rows (lent) x c.requires.1)) (rows-sets (lent) c.requires.0.matrix) in
    let s = c in
    let w = c.weigh in
    record {
      run_lent = (s.requires.0, weights-weighed (lent) s.requires.0.matrix _ (columns) _ (replicate 1023 0) refl w.ensures);
      kept = (columns, rows, zero-parities (lent), zero-votes (lent), refl);
    }
