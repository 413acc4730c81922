-- The run in stages: what it awaits, what it prints for the bytes that come, and what it awaits then.
-- (Document 01, "Worked by hand": the paragraph on the program.)
--   Awaited                == the sizes, the list, the setting, blocks from a number on, or nothing more
--   wanted a               == how many bytes that is
--   with_list H l          == the matrix of H's sizes with the list l
--   Reply                  == a text, and what is awaited then
--   first_reply            == the reply to no bytes at all: the heading
--   ends t, goes_on a      == the reply that ends the run with a text; the one that says nothing and awaits a
--   sizes_reply .. blocks_reply   == the reply to the bytes that came, which are fewer than wanted only where the input ended
--   reply_to a bs          == that of what is awaited
-- Assumes nothing.
use Rattle.std.specs.Prelude.{ℕ, ◌+◌, ◌*◌, cond, List, [], ltb, length}
use Rattle.byte_numbers.specs.Paper.Numbers.{entries_in}
use Rattle.matrix.specs.Paper.Code.{Matrix, matrix}
use Rattle.matrix.specs.Paper.Check.{sizes_fit}
use Rattle.quantiser_levels.specs.Paper.Samples.{Setting}
use Rattle.program_text.specs.Paper.Output.{heading, short_text, refused_text}
use Rattle.program_input.specs.Paper.Input.{matrix_in, setting_in}
use Rattle.program_input.specs.Paper.Opening.{Opening, refused_by, open_with, opening, opening_verdict}
use Rattle.program_lines.specs.Paper.Blocks.{chunk_text}
use Rattle.program_turns.specs.Turns.{at_once, bytes_at_once}

-- the order of the input; a matrix has no list before it is read
pub data Awaited : Type 0 where
  the_sizes : Awaited
  the_list : Matrix → Awaited
  the_setting : Matrix → Awaited
  blocks_from : Matrix → Setting → ℕ → Awaited
  nothing : Awaited

-- "n, m, ρ, γ and the list as 16-bit numbers"; "one byte each for b, round limit and step kind", and the step; "then blocks of n samples"
abbrev pub wanted : Awaited → ℕ
wanted the_sizes = 8
wanted (the_list H) = 2 * (H.m * H.rho)
wanted (the_setting H) = 7
wanted (blocks_from H S i) = bytes_at_once H.n i
wanted nothing = 0

abbrev pub with_list : Matrix → List ℕ → Matrix
with_list H l = matrix H.n H.m H.rho H.gamma l

pub record Reply : Type 0 where
  pub text : List ℕ
  pub awaited : Awaited

-- "The heading line is always printed first"
abbrev pub first_reply : Reply
first_reply = record { text = heading; awaited = the_sizes }

abbrev pub ends : List ℕ → Reply
ends t = record { text = t; awaited = nothing }

abbrev pub goes_on : Awaited → Reply
goes_on a = record { text = []; awaited = a }

-- "1 is asked before the list is read"; "Input that ends before the step is whole .. prints "short" last"
unfoldable pub sizes_reply : List ℕ → Reply
sizes_reply bs =
    cond (ltb (length bs) 8) (ends short_text)
    (cond (sizes_fit (matrix_in bs [])) (goes_on (the_list (matrix_in bs []))) (ends (refused_text 1 0)))

unfoldable pub list_reply : Matrix → List ℕ → Reply
list_reply H bs = cond (ltb (length bs) (2 * (H.m * H.rho))) (ends short_text) (goes_on (the_setting (with_list H (entries_in bs))))

-- "A refusal by 1 to 6 prints "refused", number and place, and ends the run"
abbrev pub opened_reply : Opening → Matrix → Reply
opened_reply (refused_by k x) H = ends (refused_text k x)
opened_reply (open_with S) H = goes_on (blocks_from H S 0)

-- "the rest after the step"
unfoldable pub setting_reply : Matrix → List ℕ → Reply
setting_reply H bs =
    cond (ltb (length bs) 7) (ends short_text) (opened_reply (opening (opening_verdict H (setting_in bs)) (setting_in bs)) H)

-- "then one line a block"; the run ends where fewer bytes come than are wanted
unfoldable pub blocks_reply : Matrix → Setting → ℕ → List ℕ → Reply
blocks_reply H S i bs =
    record {
      text = chunk_text H S i bs;
      awaited = cond (ltb (length bs) (bytes_at_once H.n i)) nothing (blocks_from H S (i + at_once H.n i));
    }

abbrev pub reply_to : Awaited → List ℕ → Reply
reply_to the_sizes bs = sizes_reply bs
reply_to (the_list H) bs = list_reply H bs
reply_to (the_setting H) bs = setting_reply H bs
reply_to (blocks_from H S i) bs = blocks_reply H S i bs
reply_to nothing bs = ends []
