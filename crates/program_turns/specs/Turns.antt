-- The blocks that are read at once.
--   at_once n i         == how many blocks of n samples are read from number i on
--   bytes_at_once n i   == how many bytes they are
--   AtOnce n i k        == k is that number, and the blocks fit both buffers
-- Assumes nothing.
use Rattle.std.specs.Prelude.{◌≡◌, ℕ, min, ◌+◌, ◌*◌, ◌-◌, ◌/◌, ◌≤◌, ◌<◌}

-- what fits the input buffer, at most 200, whose lines fit the output buffer; "at most 65,535 are read"
unfoldable pub at_once : ℕ → ℕ → ℕ
at_once n i = min (min (16368 / n) 200) (65535 - i)

-- "blocks of n samples as single-format floats"
abbrev pub bytes_at_once : ℕ → ℕ → ℕ
bytes_at_once n i = at_once n i * (4 * n)

pub record AtOnce (n i k : ℕ) : Type 0 where
  pub some : i < 65535 → 1 ≤ k
  pub few : k ≤ 200
  pub fits : k * (4 * n) ≤ 65472
  pub numbers : i + k ≤ 65535
  pub count : k ≡ at_once n i
