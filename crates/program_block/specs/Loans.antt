-- What the functions on one block ask and leave.
--   Whole H S bs w           == matrix and setting are accepted, the bytes are one block, and there is room for the word
--   BlockAnswered H S bs s w w'   == what decoding the block says and writes
--   Printable H S bs at out  == they are accepted, the bytes are one block, and there is room for its line
-- Assumes nothing.
use Rattle.std.specs.Prelude.{◌≡◌, List, ℕ, ◌+◌, ◌*◌, ◌≤◌, length}
use Rattle.answers.specs.Paper.Answers.{Said, written}
use Rattle.packed_word.specs.Paper.Packed.{bytes_for}
use Rattle.matrix.specs.Paper.Code.{Matrix}
use Rattle.quantiser_levels.specs.Paper.Samples.{Setting}
use Rattle.iterative_core.specs.Paper.Iterative.{iterative_word}
use Rattle.byte_numbers.specs.Paper.Numbers.{samples_in}
use Rattle.program_input.specs.Paper.Opening.{Decodable}
use Rattle.program_block.specs.Paper.Block.{block_verdict, block_said}

pub record Whole (H : Matrix) (S : Setting) (bs w : List ℕ) : Type 0 where
  pub decodable : Decodable H S
  pub bytes : length bs ≡ 4 * H.n
  pub room : bytes_for H.n ≤ length w

-- the word w becomes w'; a refused block leaves it
pub record BlockAnswered (H : Matrix) (S : Setting) (bs : List ℕ) (said : Said) (w w' : List ℕ) : Type 0 where
  pub answer : said ≡ block_said H S (samples_in bs)
  pub word : w' ≡ written (block_verdict (samples_in bs)) (iterative_word H S (samples_in bs)) w

-- a line has at most 289 bytes: 33, and 256 digits of the word
pub record Printable (H : Matrix) (S : Setting) (bs : List ℕ) (at : ℕ) (out : List ℕ) : Type 0 where
  pub decodable : Decodable H S
  pub bytes : length bs ≡ 4 * H.n
  pub room : at + 289 ≤ length out
