-- `matrix_index_check::weights_pass`: refusal 4 is asked of the gaps between the starting places.
use mathlib.Core.Path.{ap, ◌∙◌}
use mathlib.Core.List.{List}
use Prim.Native.Nat.{ℕ}
use Rattle.matrix_weights.specs.Weights.{weights_fit}
use Rattle.matrix_index_check.proofs.weights_pass.Goals as goal

pub returns : goal.returns
returns c =
    let s = c.args.shape in
    c.weights_fit.ensures ∙ ap (λ (w : List ℕ). weights_fit s.gamma w s.n) c.weigh_starts.ensures
