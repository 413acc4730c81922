-- `sheet_blocks::block_row` meets its contract: where its rows follow, the block row stands. Assumes nothing.
use Rattle.sheet_blocks.proofs.Blocks.{stands-says}
use Rattle.sheet_blocks.proofs.block_row.Goals as goal

pub returns : goal.returns
returns c =
    let s = c in
    stands-says c.rows_follow.result s.requires.0 s.requires.1 c.rows_follow.ensures
