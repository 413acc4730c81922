-- `weigh` of `one_step_indexed::ByIndex`: the gaps of the index are the weights.
use mathlib.Core.Path.{ap, ◌∙◌}
use mathlib.Core.List.{List}
use Prim.Native.Nat.{ℕ}
use Rattle.counting.specs.Paper.Lists.{over}
use Rattle.counting.proofs.Writes.{listed-cong}
use Rattle.matrix.specs.Paper.Code.{Matrix, weight}
use Rattle.matrix.specs.Paper.Shapes.{matrix_of}
use Rattle.matrix_degrees.specs.Degrees.{gap}
use Rattle.matrix_index.proofs.Gaps.{index-gap}
use Rattle.syndrome_update.proofs.KeptParities.{columns}
use Rattle.one_step_indexed.proofs.ByIndexWeigh.weigh.Goals as goal

pub weigh_starts-requires : goal.weigh_starts-requires
weigh_starts-requires c =
    let a = c.args in
    let x = columns (matrix_of a.shape a._list.now) c.requires.0 a.self.now.index.now c.requires.1 in
    (x.few, x.long, x.rises)

pub returns : goal.returns
returns c =
    let a = c.args in
    let H : Matrix = matrix_of a.shape a._list.now in
    let x : List ℕ = a.self.now.index.now in
    c.weigh_starts.ensures
    ∙ ap (λ (l : List ℕ). over l a.weights.now) (listed-cong H.n (gap x) (weight H) (index-gap H c.requires.0 x c.requires.1))
