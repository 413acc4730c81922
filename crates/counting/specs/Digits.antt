-- Numbers in binary.
--   binary_digit a k   == place k of a in binary
-- Assumes nothing.
use Rattle.std.specs.Prelude.{ℕ, ◌/◌, ◌%◌, ◌^◌}

-- place k of a in binary, the lowest being place 0
abbrev pub binary_digit : ℕ → ℕ → ℕ
binary_digit a k = a / 2 ^ k % 2
