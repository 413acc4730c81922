-- `iterative_rounds::run` meets its contract: the gaps of the index's starting places are the columns' weights. Assumes nothing.
use mathlib.Core.Path.{refl, ap}
use mathlib.Core.List.{List}
use Prim.Native.Nat.{ℕ}
use native.Mathlib.Omega.{arith}
use lib.ListN.{length}
use Rattle.matrix.specs.Paper.Code.{Matrix}
use Rattle.matrix.specs.Paper.Shapes.{matrix_of}
use Rattle.matrix.specs.Tallies.{Weighed}
use Rattle.matrix_index.specs.Paper.Index.{index_size}
use Rattle.matrix_index.proofs.Parts.{index-long}
use Rattle.matrix_index.proofs.Gaps.{starts-rise, gaps-weighed}
use Rattle.syndrome_update.proofs.KeptParities.{zero-parities}
use Rattle.iterative_rounds.proofs.States.{weighed-narrow, narrow-weighed}
use Rattle.iterative_rounds.proofs.run.Goals as goal

pub weigh_starts-requires : goal.weigh_starts-requires
unfolding index_size
weigh_starts-requires c =
    let lent_matrix : Matrix = matrix_of c.args.shape c.args.list.now in
    let s = c in
    let a = s.requires.0.matrix in
    (a.sizes.n_most, omega (arith, ap length s.requires.1, index-long (lent_matrix) a.rows), starts-rise (lent_matrix) a _ s.requires.1)

pub narrow-requires : goal.narrow-requires
narrow-requires c =
    let lent_matrix : Matrix = matrix_of c.args.shape c.args.list.now in
    let wide : List ℕ = c.weigh_starts.new.weights in
    let own-weights : Weighed (lent_matrix) (wide) = let s = c in
    gaps-weighed (lent_matrix) s.requires.0.matrix _ s.requires.1 _ _ c.weigh_starts.ensures in
    let w = c in
    (weighed-narrow (lent_matrix) c.requires.0.matrix (wide) (own-weights), refl)

pub rounds_on-requires : goal.rounds_on-requires
rounds_on-requires c =
    let lent_matrix : Matrix = matrix_of c.args.shape c.args.list.now in
    let wide : List ℕ = c.weigh_starts.new.weights in
    let own-weights : Weighed (lent_matrix) (wide) = let s = c in
    gaps-weighed (lent_matrix) s.requires.0.matrix _ s.requires.1 _ _ c.weigh_starts.ensures in
    let k = c in
    let w = k in
    let s = c in
    record { run_lent = (s.requires.0, narrow-weighed (lent_matrix) (wide) _ _ (own-weights) k.narrow.ensures); kept = (s.requires.1, zero-parities (lent_matrix)) }
