-- What leaves the firmware's face: one returned number, and bytes. (Document 02, cards 3 and 7.)
--   result_of s       == the returned number of an answer: its outcome, or refusal number × 65,536 + place
--   report_bytes s    == the eight bytes of a report: rounds, failing, changed and a zero
--   level_number l    == a level as a number of 16 bits in two's complement
--   level_bytes ls    == levels as bytes, two each, low byte first
--   level_in x        == the level that such a number is
-- Assumes nothing.
use Rattle.std.specs.Prelude.{ℕ, ◌+◌, ◌-◌, ◌*◌, cond, List, [], ◌++◌, ltb, ℤ, pos, negsuc, length, get_or}
use Rattle.counting.specs.Paper.Joined.{joined}
use Rattle.byte_numbers.specs.Paper.Numbers.{bytes16}
use Rattle.answers.specs.Paper.Answers.{Said, refusal, report, count, stored, acceptance}

-- "0 for decoded, 1 for failed, else refusal number × 65,536 + place": a decoding call says nothing else
abbrev pub result_of : Said → ℕ
result_of (refusal k x) = k * 65536 + x
result_of (report o r f c) = o
result_of (count k) = 0
result_of (stored k) = 0
result_of acceptance = 0

-- "An eight-byte report takes rounds, failing, changed and a zero"
abbrev pub report_bytes : Said → List ℕ
report_bytes (report o r f c) = bytes16 r ++ (bytes16 f ++ (bytes16 c ++ bytes16 0))
report_bytes (refusal k x) = []
report_bytes (count k) = []
report_bytes (stored k) = []
report_bytes acceptance = []

-- "in two's complement", of 16 bits: -1 is 65,535
abbrev pub level_number : ℤ → ℕ
level_number (pos k) = k
level_number (negsuc k) = 65535 - k

-- "The C face writes two bytes a level, low byte first"
unfoldable pub level_bytes : List ℤ → List ℕ
level_bytes ls = joined (length ls) (λ j. bytes16 (level_number (get_or ls j (pos 0))))

-- two's complement read back: a number of 32,768 or more is that number less 65,536
abbrev pub level_in : ℕ → ℤ
level_in x = cond (ltb x 32768) (pos x) (negsuc (65535 - x))
