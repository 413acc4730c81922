-- What the lines of blocks ask.
--   Countable H S i bs ..    == matrix and setting are accepted, the blocks' numbers from i on fit, and there is room for their lines
-- Assumes nothing.
use Rattle.std.specs.Prelude.{List, ℕ, ◌+◌, ◌*◌, ◌≤◌, length}
use Rattle.matrix.specs.Paper.Code.{Matrix}
use Rattle.quantiser_levels.specs.Paper.Samples.{Setting}
use Rattle.program_input.specs.Paper.Opening.{Decodable}
use Rattle.program_lines.specs.Paper.Blocks.{blocks_in}

-- a line has at most 289 bytes, and "short" six
pub record Countable (H : Matrix) (S : Setting) (i : ℕ) (bs : List ℕ) (at : ℕ) (out : List ℕ) : Type 0 where
  pub decodable : Decodable H S
  pub numbers : i + blocks_in H bs ≤ 65535
  pub room : at + 289 * blocks_in H bs + 6 ≤ length out
