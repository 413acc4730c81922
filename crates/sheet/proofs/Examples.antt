-- The sheet worked by hand: the definitions compute to each row. Assumes nothing.
use mathlib.Core.Path.{refl}
use Rattle.counting.specs.Paper.Sum.{sum_below, least, same}
use Rattle.counting.specs.Paper.Search.{any_below, first}
use Rattle.counting.specs.Paper.Lists.{listed}
use Rattle.counting.specs.Paper.Joined.{joined, same_list}
use Rattle.packed_word.specs.Paper.Packed.{bit_at, packed_byte, pack}
use Rattle.byte_numbers.specs.Paper.Numbers.{number16}
use Rattle.matrix.specs.Paper.Code.{entry, has, weight, common}
use Rattle.matrix.specs.Paper.Check.{sizes_fit, bad_entry, bad_weight, no_least, overlapping, list_of, check_of}
use Rattle.sheet.specs.Paper.Sheet.{block_rows, block_columns, block_size, map_bit, set_at, set_in, set_down, set_places, shift_at, sheet_length}
use Rattle.sheet.specs.Paper.Sheet.{wrong_length, zero_size, spare_map, shift_too_far, unlike_rows, no_sheet}
use Rattle.sheet.specs.Paper.SheetMatrix.{shift_of, one_in, row_in, matrix_of_sheet}
use Rattle.sheet.specs.Paper.MatrixSheet.{in_block, sheet_of, same_matrix, describes}
use Rattle.sheet.specs.Paper.Calls.{to_list_verdict, to_sheet_verdict}
use Rattle.sheet.specs.Paper.Examples.{grid, code, cut, none, spare, far, unlike, overlap, Worked}

pub worked : Worked
unfolding sum_below least same any_below first listed joined same_list bit_at packed_byte pack number16 entry has weight common sizes_fit bad_entry bad_weight no_least overlapping list_of check_of block_rows block_columns block_size map_bit set_at set_in set_down set_places shift_at sheet_length wrong_length zero_size spare_map shift_too_far unlike_rows no_sheet shift_of one_in row_in matrix_of_sheet in_block sheet_of same_matrix describes to_list_verdict to_sheet_verdict grid code cut none spare far unlike overlap
worked =
    record {
      matrix_is = refl;
      sheet_is = refl;
      to_list = refl;
      no_room = refl;
      to_sheet = refl;
      short = refl;
      faults = refl;
      eleven_first = refl;
      no_size = refl;
      other_size = refl;
      even_size = refl;
      five_first = refl;
    }
