-- `sheet_to_list::put_sizes`: what is copied are the sizes of the shape.
use mathlib.Core.Path.{ap}
use mathlib.Core.List.{List, ◌++◌}
use Prim.Native.Nat.{ℕ}
use lib.ListN.{drop}
use Rattle.counting.specs.Paper.Lists.{over}
use Rattle.sheet.specs.Paper.Calls.{sizes_of}
use Rattle.sheet_to_list.proofs.put_sizes.Goals as goal

pub returns : goal.returns
unfolding over sizes_of
returns c = ap (λ (l : List ℕ). l ++ drop 4 c.args.sizes.now) c.copy_from_slice.ensures.after
