-- An answer as one number of 64 bits.
--   code_of s          == code + 2 ^ 32 × (rounds + 2 ^ 8 × (failing + 2 ^ 12 × changed)), code being the outcome,
--                        or refusal number × 65,536 + place; 2 ^ 32 × the bytes of a stored sheet
--   Small s           == rounds, failing and changed, or the stored bytes, have room in it
--   FitFields r f c   == so do these three numbers
-- Assumes nothing.
use Rattle.std.specs.Prelude.{ℕ, ◌+◌, ◌*◌, ◌<◌}
use Rattle.answers.specs.Paper.Answers.{Said, refusal, report, count, stored, acceptance}

abbrev pub code_of : Said → ℕ
code_of (refusal k x) = k * 65536 + x
code_of (report o r f c) = o + 4294967296 * (r + 256 * (f + 4096 * c))
code_of (count k) = 4294967296 * (256 * k)
code_of (stored k) = 4294967296 * k
code_of acceptance = 0

pub record FitFields (r f c : ℕ) : Type 0 where
  pub rounds : r < 256
  pub failing : f < 4096
  pub changed : c < 4096

abbrev pub Small : Said → Type 0
Small (refusal k x) = Unit {0}
Small (report o r f c) = FitFields r f c
Small (count k) = k < 4096
Small (stored k) = k < 4294967296
Small acceptance = Unit {0}
