-- `iterative_levels::unbias_one` meets its contract: the difference of a number and the middle fits a level. Assumes nothing.
use Rattle.iterative_levels.proofs.Signs.{difference-fits, level-back}
use Rattle.iterative_levels.proofs.unbias_one.Goals as goal

pub overflow_sub-result : goal.overflow_sub-result
overflow_sub-result c = difference-fits c.args.x c.args.middle c.requires.0 c.requires.1

pub returns : goal.returns
returns c = level-back c.args.x c.args.middle c.requires.0 c.requires.1
