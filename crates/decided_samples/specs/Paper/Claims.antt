-- What stays of blocks without an undecided sample. (Document 02, card 6.)
--   AllDecided n R     == no level below n is 0
--   AsBefore H S xs    == every call on the samples xs says what it does where all places count
--   DecidedAsBefore H S xs   == so of samples all of whose levels are decided
--   DecidedStep H w o h      == so of a step that is lent such levels as those of the opening
-- proofs/AllDecided.antt shows the last two. Assumes nothing.
use Rattle.std.specs.Prelude.{ℕ, ◌<◌, ◌≡◌, List, ℤ, pos, Float, length}
use Rattle.answers.specs.Paper.Answers.{after}
use Rattle.byte_numbers.specs.Paper.Numbers.{samples_in}
use Rattle.matrix.specs.Paper.Code.{Matrix}
use Rattle.quantiser_levels.specs.Paper.Samples.{Setting, hard_bit}
use Rattle.iterative_changed.specs.Paper.Changed.{level_at}
use Rattle.iterative_core.specs.Paper.Iterative.{start_of, end_from, iterative_verdict, iterative_of, iterative_word}
use Rattle.iterative_indexed.specs.Paper.Call.{iterative_indexed_verdict, iterative_indexed_of}
use Rattle.session_asking.specs.Paper.Asked.{Held}
use Rattle.session.specs.Paper.Steps.{open_of, step_of}
use Rattle.program_text.specs.Paper.Output.{block_text}
use Rattle.program_block.specs.Paper.Block.{block_verdict, block_line}
use Rattle.firmware_decoding.specs.Paper.Said.{face_report}
use Rattle.decided_samples.specs.Paper.Calls.{report_all, open_all, step_all}

-- no sample is undecided
abbrev pub AllDecided : ℕ → (ℕ → ℤ) → Type 0
AllDecided n R = (j : ℕ) → j < n → R j ≡ pos 0 → ⊥

-- the whole call, with an index too, an opening, the program's line of a block and the C face's report
pub record AsBefore (H : Matrix) (S : Setting) (xs : List Float) : Type 0 where
  pub iterative : (bytes levels : ℕ) → iterative_of H S xs bytes levels ≡ after (iterative_verdict H S xs bytes levels) (report_all H (hard_bit xs) (end_from H S xs))
  pub indexed : (x : List ℕ) (bytes levels : ℕ)
      → iterative_indexed_of H x S xs bytes levels ≡ after (iterative_indexed_verdict H x S xs bytes levels) (report_all H (hard_bit xs) (end_from H S xs))
  pub opens : (h : Held) → open_of H S xs h ≡ open_all H S xs h
  pub line : (i : ℕ) (bs : List ℕ) → samples_in bs ≡ xs
      → block_line H S i bs ≡ block_text i (after (block_verdict xs) (report_all H (hard_bit xs) (end_from H S xs))) (iterative_word H S xs)
  pub face : (bs : List ℕ) → samples_in bs ≡ xs → face_report H S bs ≡ report_all H (hard_bit xs) (end_from H S xs)

-- for every block of decided samples
abbrev pub DecidedAsBefore : Matrix → Setting → List Float → Type 0
DecidedAsBefore H S xs = AllDecided H.n (start_of S xs).R → AsBefore H S xs

-- for every step that is lent decided levels, n of them
abbrev pub DecidedStep : Matrix → List ℕ → List ℤ → Held → Type 0
DecidedStep H w o h = length o ≡ H.n → AllDecided H.n (level_at o) → step_of H w o h ≡ step_all H w h
