-- The flipping rule for iterative voting in the program's lines. This rule is this project's own.
--   LineRight H S c i bs    == the line of block i tells the codeword sent, decoded, with the number of wrong bits that had a level
--   LineRule H S i bs       == so for every whole block of finite samples near a codeword
--   AmpleLine H S i bs      == the same for a round limit of L / 2 + 1 or more, however many bits are wrong
-- proofs/LineRule.antt proves the last two. Assumes nothing.
use Rattle.std.specs.Prelude.{◌≡◌, List, ℕ, ◌+◌, ◌*◌, ◌/◌, ◌≤◌, ◌<◌, length}
use Rattle.answers.specs.Paper.Answers.{accepted, report}
use Rattle.matrix.specs.Paper.Code.{Matrix}
use Rattle.quantiser_levels.specs.Paper.Samples.{Setting, largest}
use Rattle.iterative_core.specs.Paper.Iterative.{end_from}
use Rattle.iterative_rule.specs.Paper.Claims.{wrong_bits, wrong_decided, rounds_for, SamplesWithinHalf}
use Rattle.byte_numbers.specs.Paper.Numbers.{samples_in}
use Rattle.program_text.specs.Paper.Output.{block_text}
use Rattle.program_input.specs.Paper.Opening.{Decodable}
use Rattle.program_block.specs.Paper.Block.{block_verdict, block_line}

-- decoded, failing 0, changed the number of wrong bits that had a level, the word the codeword sent; rounds within the bound, and 0 exactly
-- where no bit is wrong
pub record LineRight (H : Matrix) (S : Setting) (c : List ℕ) (i : ℕ) (bs : List ℕ) : Type 0 where
  pub begun : 0 < wrong_bits H c (samples_in bs) → 0 < (end_from H S (samples_in bs)).k
  pub soon : (end_from H S (samples_in bs)).k ≤ rounds_for (largest S.bits) H.gamma (wrong_bits H c (samples_in bs))
  pub line : block_line H S i bs ≡ block_text i (report 0 (end_from H S (samples_in bs)).k 0 (wrong_decided H S c (samples_in bs))) c

-- for every codeword so near, where the limit leaves the rounds for it
abbrev pub LineRule : Matrix → Setting → ℕ → List ℕ → Type 0
LineRule H S i bs =
    (c : List ℕ) → Decodable H S → length bs ≡ 4 * H.n → block_verdict (samples_in bs) ≡ accepted → SamplesWithinHalf H S c (samples_in bs)
    → rounds_for (largest S.bits) H.gamma (wrong_bits H c (samples_in bs)) ≤ S.limit → LineRight H S c i bs

-- a limit of L / 2 + 1 always leaves them
abbrev pub AmpleLine : Matrix → Setting → ℕ → List ℕ → Type 0
AmpleLine H S i bs =
    (c : List ℕ) → Decodable H S → length bs ≡ 4 * H.n → block_verdict (samples_in bs) ≡ accepted → SamplesWithinHalf H S c (samples_in bs)
    → largest S.bits / 2 + 1 ≤ S.limit → LineRight H S c i bs
