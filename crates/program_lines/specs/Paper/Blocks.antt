-- The lines of blocks. (Document 01, "Worked by hand": the paragraph on the program.)
--   blocks_in H bs            == how many whole blocks the bytes are
--   block_at H bs k           == the bytes of the k-th block
--   block_lines H S i k bs    == the lines of the first k blocks, numbered from i
--   chunk_text H S i bs       == the lines of all whole blocks, and "short" where the bytes end inside a block
-- Assumes nothing.
use Rattle.std.specs.Prelude.{ℕ, zero, suc, ◌+◌, ◌*◌, ◌/◌, ◌%◌, cond, List, [], ◌++◌, eqb, length, take, drop}
use Rattle.matrix.specs.Paper.Code.{Matrix}
use Rattle.quantiser_levels.specs.Paper.Samples.{Setting}
use Rattle.program_text.specs.Paper.Output.{short_text}
use Rattle.program_block.specs.Paper.Block.{block_line}

-- "blocks of n samples", four bytes each
abbrev pub blocks_in : Matrix → List ℕ → ℕ
blocks_in H bs = length bs / (4 * H.n)

unfoldable pub block_at : Matrix → List ℕ → ℕ → List ℕ
block_at H bs k = take (4 * H.n) (drop (k * (4 * H.n)) bs)

-- "refused blocks count"
unfoldable pub block_lines : Matrix → Setting → ℕ → ℕ → List ℕ → List ℕ
block_lines H S i zero bs = []
block_lines H S i (suc k) bs = block_lines H S i k bs ++ block_line H S (i + k) (block_at H bs k)

-- "Input that ends .. inside a block, prints "short" last"
unfoldable pub chunk_text : Matrix → Setting → ℕ → List ℕ → List ℕ
chunk_text H S i bs = block_lines H S i (blocks_in H bs) bs ++ cond (eqb (length bs % (4 * H.n)) 0) [] short_text
