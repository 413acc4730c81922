-- `matrix_degrees::count_all`. The loop's invariant: the entries passed are counted.
use Rattle.matrix_degrees.specs.Degrees.{Counted}
use Rattle.matrix_degrees.proofs.count_all.Given as goal

abbrev pub invariant-loop-column : goal.invariant-loop-column
invariant-loop-column l = Counted l.list l.column-index l.initial.cells l.cells
