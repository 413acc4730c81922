-- The bounds of the flipping rule for iterative voting are met, and its condition is needed: four calls, worked by hand;
-- and the block of the README, whose wrong sample is ten times as strong as the others.
--   code_c         == the three columns and rows of P10
--   three          == three samples
--   strong         == a block of code A with a wrong sample at the level -L
--   bounds         == each call with what it is to yield
--   all-bounds     == the definitions yield each row
--   bound-rounds   == the rounds of the rule for codes A and C, b = 3 and one wrong bit; and for the README's block
--   FineLimits gamma w           == for how many wrong bits the largest limit, 255, leaves the rounds at b = 9 to 12
--   readme_setting, readme_block   == b = 8, level step 0.1; the samples 10 and six of -1
--   readme_call limit             == the whole call on it, code A, the buffers just long enough
--   ReadmeBlock limit            == with this limit the zero word is recovered from it
-- proofs/Limits.antt proves `FineLimits` of every number of wrong bits up to half of gamma. proofs/Instances.antt proves the last for a limit of
-- 43, by the rule: as many rounds are too many to be worked out.
-- Bytes and floats are written by their bits. Assumes nothing.
use Rattle.std.specs.Prelude.{ℕ, ◌+◌, ◌*◌, ◌≤◌, ◌≡◌, refl, List, [], ◌∷◌, pos, negsuc, Float}
use Rattle.std.specs.Float.{binary32}
use Rattle.std.specs.Float.Ieee.{of_bits, of_fields, odd, lt, le}
use Rattle.counting.specs.Paper.Sum.{sum_below, same, unequal}
use Rattle.counting.specs.Paper.Search.{any_below, first}
use Rattle.counting.specs.Paper.Lists.{listed, over}
use Rattle.counting.specs.Paper.Integers.{sumℤ}
use Rattle.answers.specs.Paper.Answers.{report}
use Rattle.packed_word.specs.Paper.Packed.{bit_at, packed_byte, pack, spare_set, distance}
use Rattle.matrix.specs.Paper.Code.{Matrix, matrix, entry, has, weight, common, fails, failing}
use Rattle.matrix.specs.Paper.Check.{sizes_fit, bad_entry, bad_weight, no_least, overlapping, list_of, check_of}
use Rattle.quantiser_levels.specs.Paper.Samples.{Setting, step_fits, setting_fits, largest, nearest_whole, magnitude, level_of, hard_of, hard_bit, not_finite}
use Rattle.iterative_rounds.specs.Paper.Rounds.{others, extrinsic, level_after, round_of, end_of}
use Rattle.iterative_changed.specs.Paper.Changed.{decided, changed}
use Rattle.iterative_core.specs.Paper.Iterative.{start_of, end_from, report_at, samples_verdict, iterative_verdict, iterative_of}
use Rattle.iterative_core.specs.Paper.Iterative.{iterative_word, iterative_levels}
use Rattle.iterative_rule.specs.Paper.Claims.{rounds_for, Recovered}
use Rattle.worked_examples.specs.Paper.Calls.{Call, decoding, made}
use Rattle.worked_examples.specs.Paper.Table.{code_a, setting, seven, seven_levels, Row, row, decode, each_made, each_wanted}

-- n = 3, m = 3, rho = 2, gamma = 2
unfoldable pub code_c : Matrix
code_c = matrix 3 3 2 2 (0 ∷ 1 ∷ 1 ∷ 2 ∷ 0 ∷ 2 ∷ [])

unfoldable pub three : ℕ → ℕ → ℕ → List Float
three x y z = of_bits binary32 x ∷ of_bits binary32 y ∷ of_bits binary32 z ∷ []

-- -0.5 twice, -1.5, -0.5, and 1.5 three times: the codeword 2E with bit 2 wrong, at the level -3
unfoldable pub strong : List Float
strong =
    of_bits binary32 0xbf00_0000
    ∷ of_bits binary32 0xbf00_0000
    ∷ of_bits binary32 0xbfc0_0000
    ∷ of_bits binary32 0xbf00_0000
    ∷ of_bits binary32 0x3fc0_0000
    ∷ of_bits binary32 0x3fc0_0000
    ∷ of_bits binary32 0x3fc0_0000
    ∷ []

unfoldable pub bounds : List Row
bounds =
    -- A, limit 2: 2E, decoded, in as many rounds as the rule says
    row (decode 2 strong) (report 0 2 0 1) (0x2e ∷ [])
    (negsuc 2 ∷ negsuc 2 ∷ pos 3 ∷ negsuc 2 ∷ pos 3 ∷ pos 3 ∷ pos 3 ∷ [])
    -- A, limit 1: one round less does not do
    ∷ row (decode 1 strong) (report 1 1 3 0) (0x0e ∷ [])
    (negsuc 1 ∷ negsuc 1 ∷ pos 0 ∷ negsuc 1 ∷ pos 3 ∷ pos 3 ∷ pos 3 ∷ [])
    -- C, the codeword E0 with bit 0 wrong: -1.5, 0.5, 0.5, limit 2: E0
    ∷ row (decoding code_c (setting 2) (three 0xbfc0_0000 0x3f00_0000 0x3f00_0000) (0xff ∷ []) (pos 9 ∷ pos 9 ∷ pos 9 ∷ [])) (report 0 2 0 1) (0xe0 ∷ [])
    (pos 1 ∷ pos 1 ∷ pos 1 ∷ [])
    -- the same with 0.1 at bit 1, whose level is 0: 00, a codeword but not the one sent; of the two bits that end different one had a level
    ∷ row (decoding code_c (setting 5) (three 0xbfc0_0000 0x3dcc_cccd 0x3f00_0000) (0xff ∷ []) (pos 9 ∷ pos 9 ∷ pos 9 ∷ [])) (report 0 2 0 1) (0 ∷ [])
    (negsuc 0 ∷ pos 0 ∷ negsuc 0 ∷ [])
    ∷ []

-- the written definitions yield each row
pub all-bounds : each_made bounds ≡ each_wanted bounds
unfolding bounds strong code_c three each_made each_wanted made code_a setting iterative_of iterative_verdict samples_verdict iterative_word iterative_levels
    report_at end_from changed decided start_of end_of round_of level_after extrinsic others setting_fits step_fits not_finite hard_bit hard_of level_of
    magnitude nearest_whole sumℤ of_bits of_fields odd lt le check_of list_of sizes_fit bad_entry bad_weight no_least overlapping failing fails common weight has entry
    distance spare_set pack packed_byte bit_at listed over any_below first sum_below same unequal
all-bounds = refl

-- L / delta + 1: with L = 3 delta is 3 for A and 2 for C; with L = 127 it is 3 for A
pub bound-rounds : (rounds_for 3 3 1 ≡ 2) × (rounds_for 3 2 1 ≡ 2) × (rounds_for 127 3 1 ≡ 43)
bound-rounds = (refl, refl, refl)

-- document 02, card 7, with document 01's limits: 255 rounds suffice for w wrong bits at b = 9 always, at b = 10, 11 and 12 exactly where gamma is
-- at least 2 w + 1, 2 w + 3 and 2 w + 7
pub record FineLimits (gamma w : ℕ) : Type 0 where
  pub nine : rounds_for (largest 9) gamma w ≤ 255
  pub ten : 2 * w + 1 ≤ gamma → rounds_for (largest 10) gamma w ≤ 255
  pub ten_only : rounds_for (largest 10) gamma w ≤ 255 → 2 * w + 1 ≤ gamma
  pub eleven : 2 * w + 3 ≤ gamma → rounds_for (largest 11) gamma w ≤ 255
  pub eleven_only : rounds_for (largest 11) gamma w ≤ 255 → 2 * w + 3 ≤ gamma
  pub twelve : 2 * w + 7 ≤ gamma → rounds_for (largest 12) gamma w ≤ 255
  pub twelve_only : rounds_for (largest 12) gamma w ≤ 255 → 2 * w + 7 ≤ gamma

unfoldable pub readme_setting : ℕ → Setting
readme_setting limit = record { bits = 8; limit = limit; kind = 0; step = of_bits binary32 0x3dcc_cccd }

unfoldable pub readme_block : List Float
readme_block = seven 0x4120_0000 0xbf80_0000

-- the buffers hold exactly the needed cells
abbrev pub readme_call : ℕ → Call
readme_call limit = decoding code_a (readme_setting limit) readme_block (0xff ∷ []) (seven_levels (pos 9) (pos 9))

abbrev pub ReadmeBlock : ℕ → Type 0
ReadmeBlock limit =
    Recovered code_a (readme_setting limit) (0 ∷ []) readme_block (0xff ∷ []) (made (readme_call limit)).word (made (readme_call limit)).said
