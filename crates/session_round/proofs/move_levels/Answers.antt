-- `session_round::move_levels` meets its contract: the array of the weights has each column's own. Assumes nothing.
use mathlib.Core.Path.{refl}
use mathlib.Core.List.{List}
use Prim.Native.Nat.{ℕ}
use Rattle.matrix.specs.Paper.Code.{Matrix}
use Rattle.matrix.specs.Paper.Shapes.{matrix_of}
use Rattle.matrix.specs.Tallies.{Weighed}
use Rattle.matrix_degrees.proofs.Degrees.{weighed}
use Rattle.iterative_rounds.proofs.States.{weighed-narrow, narrow-weighed, weighed-moved}
use Rattle.session_round.proofs.move_levels.Goals as goal

pub narrow-requires : goal.narrow-requires
narrow-requires c =
    let lent_matrix : Matrix = matrix_of c.args.shape c.args.list.now in
    let wide : List ℕ = c.weigh.new.weights in
    let wide-weights : Weighed (lent_matrix) (wide) = weighed (lent_matrix) _ _ c.weigh.ensures in
    let w = c in
    (weighed-narrow (lent_matrix) c.requires.0 (wide) (wide-weights), refl)

pub returns : goal.returns
returns c =
    let lent_matrix : Matrix = matrix_of c.args.shape c.args.list.now in
    let weights : List ℕ = c.narrow.new.kept in
    let wide : List ℕ = c.weigh.new.weights in
    let wide-weights : Weighed (lent_matrix) (wide) = weighed (lent_matrix) _ _ c.weigh.ensures in
    let own-weights : Weighed (lent_matrix) (weights) = let w = c in
    narrow-weighed (lent_matrix) (wide) _ _ (wide-weights) c.narrow.ensures in
    let k = c in
    weighed-moved (lent_matrix) _ (weights) _ _ _ _ _ (own-weights) c.update.ensures
