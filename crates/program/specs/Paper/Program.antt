-- What the program prints for its input. (Document 01, "Worked by hand": the paragraph on the program.)
--   blocks_text H S bs        == the lines of the bytes after the step, at most 65,535 blocks, and "short" where they end inside one
--   begun o H bs              == what is printed as the run begins: a refusal, or the blocks
--   listed_in bs c            == the matrix whose list is the c bytes after the sizes
--   rest_text bs c            == what is printed for the list, of c bytes, and what follows it
--   sized_text bs H           == what is printed once the sizes, those of H, are read
--   printed bs                == all that is printed for the input bs
-- Assumes nothing.
use Rattle.std.specs.Prelude.{ℕ, ◌+◌, ◌*◌, cond, List, [], ◌++◌, ltb, leb, length, take, drop}
use Rattle.matrix.specs.Paper.Code.{Matrix}
use Rattle.matrix.specs.Paper.Check.{sizes_fit}
use Rattle.quantiser_levels.specs.Paper.Samples.{Setting}
use Rattle.program_text.specs.Paper.Output.{heading, short_text, refused_text}
use Rattle.byte_numbers.specs.Paper.Numbers.{entries_in}
use Rattle.program_input.specs.Paper.Input.{matrix_in, setting_in}
use Rattle.program_input.specs.Paper.Opening.{Opening, refused_by, open_with, opening, opening_verdict}
use Rattle.program_lines.specs.Paper.Blocks.{blocks_in, block_lines, chunk_text}

-- "at most 65,535 are read, then the run ends"
unfoldable pub blocks_text : Matrix → Setting → List ℕ → List ℕ
blocks_text H S bs = cond (leb 65535 (blocks_in H bs)) (block_lines H S 0 65535 bs) (chunk_text H S 0 bs)

-- "A refusal by 1 to 6 prints "refused", number and place, and ends the run"
abbrev pub begun : Opening → Matrix → List ℕ → List ℕ
begun (refused_by k x) H bs = refused_text k x
begun (open_with S) H bs = blocks_text H S bs

-- the matrix with the list that follows the sizes, which is c bytes long
abbrev pub listed_in : List ℕ → ℕ → Matrix
listed_in bs c = matrix_in bs (entries_in (take c (drop 8 bs)))

-- the list, the seven bytes of the setting, and the blocks; "Input that ends before the step is whole .. prints "short" last"
unfoldable pub rest_text : List ℕ → ℕ → List ℕ
rest_text bs c =
    cond (ltb (length bs) (15 + c)) short_text
    (begun (opening (opening_verdict (listed_in bs c) (setting_in (drop (8 + c) bs))) (setting_in (drop (8 + c) bs))) (listed_in bs c) (drop (15 + c) bs))

-- "1 is asked before the list is read"
unfoldable pub sized_text : List ℕ → Matrix → List ℕ
sized_text bs H = cond (sizes_fit H) (rest_text bs (2 * (H.m * H.rho))) (refused_text 1 0)

-- "The heading line is always printed first"
unfoldable pub printed : List ℕ → List ℕ
printed bs = heading ++ cond (ltb (length bs) 8) short_text (sized_text bs (matrix_in bs []))
