-- The program's runs by document 01, in one table with one proof: what is printed for each input, computed from the definitions.
--   low16 xs, low32 xs       == numbers as bytes, low byte first
--   input_a kind blocks      == code A, b = 3, round limit 5, a step 0.5 of this kind, and what follows it
--   block_p6, block_p8, block_infinite   == the samples of P6 and P8, and a block with an infinity
--   Run                      == an input with what is to be printed
--   each_made, each_wanted   == what is printed and is to be printed for each run
--   table                    == each input with what is to be printed after the heading
--   every-run                == the definitions print it
-- Floats are bit patterns: 0.5 is 3f000000, -1 is bf800000, 0.1 is 3dcccccd, an infinity 7f800000. Assumes nothing.
use Rattle.std.specs.Prelude.{ℕ, ◌/◌, ◌%◌, ◌≡◌, refl, List, [], ◌∷◌, ◌++◌, take}
use Prim.Native.String as string
use Rattle.std.specs.Float.Ieee.{of_bits, of_fields, odd, lt, le, eq}
use Rattle.counting.specs.Paper.Sum.{sum_below, same, unequal}
use Rattle.counting.specs.Paper.Search.{any_below, first}
use Rattle.counting.specs.Paper.Lists.{listed, over}
use Rattle.counting.specs.Paper.Integers.{sumℤ}
use Rattle.packed_word.specs.Paper.Packed.{bit_at, packed_byte, pack, distance}
use Rattle.matrix.specs.Paper.Code.{entry, has, weight, common, fails, failing}
use Rattle.matrix.specs.Paper.Check.{sizes_fit, bad_entry, bad_weight, no_least, overlapping, list_of, check_of}
use Rattle.quantiser_levels.specs.Paper.Samples.{step_fits, setting_fits, nearest_whole, magnitude, level_of, hard_of, hard_bit, not_finite}
use Rattle.iterative_rounds.specs.Paper.Rounds.{others, extrinsic, level_after, round_of, end_of}
use Rattle.iterative_changed.specs.Paper.Changed.{decided, changed}
use Rattle.iterative_core.specs.Paper.Iterative.{start_of, end_from, report_at, iterative_word}
use Rattle.program_numerals.specs.Paper.Numerals.{ascii, digit, digits_within, decimal, hex}
use Rattle.program_text.specs.Paper.Output.{line, heading, short_text, refused_text, said_text, block_text}
use Rattle.byte_numbers.specs.Paper.Numbers.{number16, number32, float, entry_in, entries_in, sample_in, samples_in}
use Rattle.program_input.specs.Paper.Input.{matrix_in, setting_in}
use Rattle.program_input.specs.Paper.Opening.{setting_verdict, opening_verdict}
use Rattle.program_block.specs.Paper.Block.{block_verdict, block_said, block_line}
use Rattle.program_lines.specs.Paper.Blocks.{block_at, block_lines, chunk_text}
use Rattle.program.specs.Paper.Program.{blocks_text, rest_text, sized_text, printed}

unfoldable pub low16 : List ℕ → List ℕ
low16 [] = []
low16 (x ∷ xs) = x % 256 ∷ x / 256 ∷ low16 xs

unfoldable pub low32 : List ℕ → List ℕ
low32 [] = []
low32 (x ∷ xs) = low16 (x % 65536 ∷ x / 65536 ∷ []) ++ low32 xs

-- "n = 7, m = 7, ρ = 3, γ = 3, rows 0 1 3, 1 2 4, 2 3 5, 3 4 6, 0 4 5, 1 5 6, 0 2 6"
unfoldable pub input_a : ℕ → List ℕ → List ℕ
input_a kind blocks =
    low16 (7 ∷ 7 ∷ 3 ∷ 3 ∷ 0 ∷ 1 ∷ 3 ∷ 1 ∷ 2 ∷ 4 ∷ 2 ∷ 3 ∷ 5 ∷ 3 ∷ 4 ∷ 6 ∷ 0 ∷ 4 ∷ 5 ∷ 1 ∷ 5 ∷ 6 ∷ 0 ∷ 2 ∷ 6 ∷ [])
    ++ (3 ∷ 5 ∷ kind ∷ []) ++ low32 (0x3f00_0000 ∷ []) ++ blocks

-- P6's block: "first sample 0.5, six of −1"; the same with an infinite sample 4; P8's block: "seven samples 0.1"
unfoldable pub block_p6 : List ℕ
block_p6 = low32 (0x3f00_0000 ∷ 0xbf80_0000 ∷ 0xbf80_0000 ∷ 0xbf80_0000 ∷ 0xbf80_0000 ∷ 0xbf80_0000 ∷ 0xbf80_0000 ∷ [])

unfoldable pub block_infinite : List ℕ
block_infinite = low32 (0x3f00_0000 ∷ 0xbf80_0000 ∷ 0xbf80_0000 ∷ 0xbf80_0000 ∷ 0x7f80_0000 ∷ 0xbf80_0000 ∷ 0xbf80_0000 ∷ [])

unfoldable pub block_p8 : List ℕ
block_p8 = low32 (0x3dcc_cccd ∷ 0x3dcc_cccd ∷ 0x3dcc_cccd ∷ 0x3dcc_cccd ∷ 0x3dcc_cccd ∷ 0x3dcc_cccd ∷ 0x3dcc_cccd ∷ [])

pub record Run : Type 0 where
  pub input : List ℕ
  pub text : string.String

abbrev run : List ℕ → string.String → Run
run i t = record { input = i; text = t }

unfoldable pub table : List Run
table =
    -- "For P6's input it prints exactly"
    run (input_a 0 block_p6) "0 decoded 1 0 1 00\n"
    -- the input ends inside its second block
    ∷ run (input_a 0 (block_p6 ++ take 5 block_p6)) "0 decoded 1 0 1 00\nshort\n"
    -- a block refused by 8 between two others
    ∷ run (input_a 0 (block_p6 ++ block_infinite ++ block_p8)) "0 decoded 1 0 1 00\n1 refused 8 4\n2 decoded 1 0 0 00\n"
    -- no block; a third kind of step
    ∷ run (input_a 0 []) ""
    ∷ run (input_a 2 block_p6) "refused 6 0\n"
    -- P9's matrix; n = 1,024, and nothing after the sizes
    ∷ run (low16 (2 ∷ 2 ∷ 2 ∷ 2 ∷ 0 ∷ 1 ∷ 0 ∷ 1 ∷ []) ++ (3 ∷ 5 ∷ 0 ∷ []) ++ low32 (0x3f00_0000 ∷ [])) "refused 5 0\n"
    ∷ run (low16 (1024 ∷ 1024 ∷ 2 ∷ 2 ∷ [])) "refused 1 0\n"
    -- the input ends in the sizes, and before the step is whole
    ∷ run [] "short\n"
    ∷ run (take 56 (input_a 0 [])) "short\n"
    ∷ []

unfoldable pub each_made : List Run → List (List ℕ)
each_made [] = []
each_made (r ∷ rs) = printed r.input ∷ each_made rs

unfoldable pub each_wanted : List Run → List (List ℕ)
each_wanted [] = []
each_wanted (r ∷ rs) = (heading ++ ascii r.text) ∷ each_wanted rs

-- the written definitions print it
pub every-run : each_made table ≡ each_wanted table
unfolding table each_made each_wanted input_a block_p6 block_infinite block_p8 low16 low32 printed sized_text rest_text blocks_text chunk_text block_lines
    block_at block_line block_said block_verdict setting_verdict opening_verdict number16 number32 float matrix_in entry_in entries_in setting_in sample_in
    samples_in digit digits_within decimal hex line heading short_text refused_text said_text block_text check_of list_of sizes_fit bad_entry bad_weight no_least
    overlapping failing fails common weight has entry distance pack packed_byte bit_at listed over any_below first sum_below same unequal sumℤ step_fits
    setting_fits nearest_whole magnitude level_of hard_of hard_bit not_finite others extrinsic level_after round_of end_of start_of changed decided
    end_from report_at iterative_word of_bits of_fields odd lt le eq
every-run = refl
