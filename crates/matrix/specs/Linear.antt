-- Words added.
--   plus z c   == the sum of two words, place by place, modulo 2
-- Assumes nothing.
use Rattle.std.specs.Prelude.{ℕ, ◌+◌, ◌%◌}

-- two words added place by place, modulo 2
unfoldable pub plus : (ℕ → ℕ) → (ℕ → ℕ) → ℕ → ℕ
plus z c j = (z j + c j) % 2
