-- The blocks as the run reads them: some at once, turn by turn.
--   turns_text H S some t i bs   == what t turns print from number i on, `some i` blocks being read in the turn at number i
--   Turning some                 == each turn reads a block at least, and none past the 65,535th
-- proofs/Turns.antt shows that the turns print `blocks_text`, whichever pieces are read, and so those of `program_turns`. Assumes nothing.
use Rattle.std.specs.Prelude.{ℕ, zero, suc, ◌+◌, ◌*◌, ◌≤◌, ◌<◌, cond, List, [], ◌++◌, ltb, leb, length, take, drop}
use Rattle.matrix.specs.Paper.Code.{Matrix}
use Rattle.quantiser_levels.specs.Paper.Samples.{Setting}
use Rattle.program_lines.specs.Paper.Blocks.{chunk_text}

-- the run ends where a turn finds less than it wants, and at the 65,535th block
unfoldable pub turns_text : Matrix → Setting → (ℕ → ℕ) → ℕ → ℕ → List ℕ → List ℕ
turns_text H S some zero i bs = []
turns_text H S some (suc t) i bs =
    cond (leb 65535 i) []
    (chunk_text H S i (take (some i * (4 * H.n)) bs)
    ++ cond (ltb (length bs) (some i * (4 * H.n))) [] (turns_text H S some t (i + some i) (drop (some i * (4 * H.n)) bs)))

pub record Turning (some : ℕ → ℕ) : Type 0 where
  pub least : (i : ℕ) → i < 65535 → 1 ≤ some i
  pub most : (i : ℕ) → i < 65535 → i + some i ≤ 65535
