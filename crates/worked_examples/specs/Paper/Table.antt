-- P1 to P10 in one table, and one proof over the whole table. (Document 01, "Worked by hand".)
--   code_a, code_b   == the two codes of the examples
--   setting, seven, seven_levels   == the setting of P6 with another limit; seven samples, seven levels, the first apart
--   decode           == a call of iterative voting on code A
--   Row              == a call with what it is to yield
--   each_made, each_wanted   == what the rows yield and are to yield
--   table            == each call with what it is to yield
--   all-rows         == the definitions yield each row
-- Bytes and floats are written by their bits. Assumes nothing.
use Rattle.std.specs.Prelude.{ℕ, ◌≡◌, refl, List, [], ◌∷◌, ℤ, pos, negsuc, Float}
use Rattle.std.specs.Float.{binary32}
use Rattle.std.specs.Float.Ieee.{of_bits, of_fields, odd, lt, le}
use Rattle.counting.specs.Paper.Sum.{sum_below, same, unequal}
use Rattle.counting.specs.Paper.Search.{any_below, first}
use Rattle.counting.specs.Paper.Lists.{listed, over}
use Rattle.counting.specs.Paper.Integers.{sumℤ}
use Rattle.answers.specs.Paper.Answers.{Said, refusal, report, count, acceptance}
use Rattle.packed_word.specs.Paper.Packed.{bit_at, packed_byte, pack, spare_set, distance}
use Rattle.matrix.specs.Paper.Code.{Matrix, matrix, entry, has, weight, common, fails, failing}
use Rattle.matrix.specs.Paper.Check.{sizes_fit, bad_entry, bad_weight, no_least, overlapping, list_of, check_of}
use Rattle.syndrome.specs.Paper.Failing.{word_verdict, failing_verdict, failing_of}
use Rattle.majority_logic.specs.Paper.Votes.{votes, flipped}
use Rattle.majority_logic.specs.Paper.OneStep.{step_word, step_rounds, one_step_report, one_step_verdict, one_step_of, one_step_word}
use Rattle.quantiser_levels.specs.Paper.Samples.{Setting, step_fits, setting_fits, nearest_whole, magnitude, level_of, hard_of, hard_bit, not_finite}
use Rattle.iterative_rounds.specs.Paper.Rounds.{others, extrinsic, level_after, round_of, end_of}
use Rattle.iterative_changed.specs.Paper.Changed.{decided, changed}
use Rattle.iterative_core.specs.Paper.Iterative.{start_of, end_from, report_at, samples_verdict, iterative_verdict, iterative_of}
use Rattle.iterative_core.specs.Paper.Iterative.{iterative_word, iterative_levels}
use Rattle.worked_examples.specs.Paper.Calls.{Call, checking, counting, voting, decoding, Yields, yields, made}

-- n = 7, m = 7, rho = 3, gamma = 3
unfoldable pub code_a : Matrix
code_a = matrix 7 7 3 3 (0 ∷ 1 ∷ 3 ∷ 1 ∷ 2 ∷ 4 ∷ 2 ∷ 3 ∷ 5 ∷ 3 ∷ 4 ∷ 6 ∷ 0 ∷ 4 ∷ 5 ∷ 1 ∷ 5 ∷ 6 ∷ 0 ∷ 2 ∷ 6 ∷ [])

-- n = 9, m = 6, rho = 3, gamma = 2
unfoldable pub code_b : Matrix
code_b = matrix 9 6 3 2 (0 ∷ 1 ∷ 2 ∷ 3 ∷ 4 ∷ 5 ∷ 6 ∷ 7 ∷ 8 ∷ 0 ∷ 3 ∷ 6 ∷ 1 ∷ 4 ∷ 7 ∷ 2 ∷ 5 ∷ 8 ∷ [])

-- P6's setting with any limit: level step 0.5, b = 3
unfoldable pub setting : ℕ → Setting
setting limit = record { bits = 3; limit = limit; kind = 0; step = of_bits binary32 0x3f00_0000 }

-- a sample and six more of another value
unfoldable pub seven : ℕ → ℕ → List Float
seven first rest =
    of_bits binary32 first
    ∷ of_bits binary32 rest
    ∷ of_bits binary32 rest
    ∷ of_bits binary32 rest
    ∷ of_bits binary32 rest
    ∷ of_bits binary32 rest
    ∷ of_bits binary32 rest
    ∷ []

-- a level and six more of another value
abbrev pub seven_levels : ℤ → ℤ → List ℤ
seven_levels first rest = first ∷ rest ∷ rest ∷ rest ∷ rest ∷ rest ∷ rest ∷ []

-- a call and what it is to yield
pub record Row : Type 0 where
  pub call : Call
  pub wanted : Yields

abbrev pub row : Call → Said → List ℕ → List ℤ → Row
row c s w l = record { call = c; wanted = yields s w l }

-- iterative voting on code A, with buffers of exactly the needed cells
abbrev pub decode : ℕ → List Float → Call
decode limit xs = decoding code_a (setting limit) xs (0xff ∷ []) (seven_levels (pos 9) (pos 9))

unfoldable pub table : List Row
table =
    -- P1: A, one-step, 2E: decoded, rounds 0, changed 0
    row (voting code_a (0x2e ∷ []) (0 ∷ [])) (report 0 0 0 0) (0x2e ∷ []) []
    -- P2: A, AE: three checks fail
    ∷ row (counting code_a (0xae ∷ [])) (count 3) [] []
    -- P2: A, one-step, AE: 2E, decoded, rounds 1, changed 1
    ∷ row (voting code_a (0xae ∷ []) (0 ∷ [])) (report 0 1 0 1) (0x2e ∷ []) []
    -- P3: A, one-step, C0: 2E, decoded, changed 6
    ∷ row (voting code_a (0xc0 ∷ []) (0 ∷ [])) (report 0 1 0 6) (0x2e ∷ []) []
    -- P4: B, one-step, 08 00: 00 00, decoded, changed 1
    ∷ row (voting code_b (0x08 ∷ 0 ∷ []) (0xff ∷ 0xff ∷ [])) (report 0 1 0 1) (0 ∷ 0 ∷ []) []
    -- P5: B, one-step, 88 00: 50 00, failed, failing 4, changed 4
    ∷ row (voting code_b (0x88 ∷ 0 ∷ []) (0 ∷ 0 ∷ [])) (report 1 1 4 4) (0x50 ∷ 0 ∷ []) []
    -- P6: A, first sample 0.5, six of -1, limit 5: 00, decoded, rounds 1, changed 1, levels -2 and six times -3
    ∷ row (decode 5 (seven 0x3f00_0000 0xbf80_0000)) (report 0 1 0 1) (0 ∷ []) (seven_levels (negsuc 1) (negsuc 2))
    -- P7: P6 with limit 0: 80, failed, rounds 0, failing 3, changed 0; the levels stay 1 and six times -2
    ∷ row (decode 0 (seven 0x3f00_0000 0xbf80_0000)) (report 1 0 3 0) (0x80 ∷ []) (seven_levels (pos 1) (negsuc 1))
    -- P8: seven samples 0.1: 00, decoded, rounds 1, changed 0 (document 02, card 6: no sample has a level), levels all -3
    ∷ row (decode 5 (seven 0x3dcc_cccd 0x3dcc_cccd)) (report 0 1 0 0) (0 ∷ []) (seven_levels (negsuc 2) (negsuc 2))
    -- P9: rows 0 1 and 0 1: refusal 5, place 0
    ∷ row (checking (matrix 2 2 2 2 (0 ∷ 1 ∷ 0 ∷ 1 ∷ []))) (refusal 5 0) [] []
    -- P10: rows 0 1, 1 2, 0 2: accepted
    ∷ row (checking (matrix 3 3 2 2 (0 ∷ 1 ∷ 1 ∷ 2 ∷ 0 ∷ 2 ∷ []))) acceptance [] []
    ∷ []

unfoldable pub each_made : List Row → List Yields
each_made [] = []
each_made (r ∷ rs) = made r.call ∷ each_made rs

unfoldable pub each_wanted : List Row → List Yields
each_wanted [] = []
each_wanted (r ∷ rs) = r.wanted ∷ each_wanted rs

-- the written definitions yield each row
pub all-rows : each_made table ≡ each_wanted table
unfolding table each_made each_wanted made code_a code_b setting seven iterative_of iterative_verdict samples_verdict iterative_word iterative_levels report_at
    end_from changed decided start_of end_of round_of level_after extrinsic others setting_fits step_fits not_finite hard_bit hard_of level_of magnitude
    nearest_whole sumℤ of_bits of_fields odd lt le check_of list_of sizes_fit bad_entry bad_weight no_least overlapping failing_of failing_verdict word_verdict one_step_of
    one_step_verdict one_step_word one_step_report step_word step_rounds flipped votes failing fails common weight has entry distance spare_set pack packed_byte
    bit_at listed over any_below first sum_below same unequal
all-rows = refl
