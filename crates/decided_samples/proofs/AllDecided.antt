-- Every call that starts from samples says of a block without an undecided sample what it does where all places count: each by the one law
-- `changed-decided`.
--   report-decided      == the answer at the end of a list
--   whole-decided       == the same of samples
--   iterative-decided   == iterative voting
--   indexed-decided     == iterative voting by matrix and index
--   open-decided        == opening a session, whatever the samples: nothing is changed yet
--   block-decided, line-decided   == a block of the program, and its line
--   face-decided        == the report of the C face
--   decided-as-before   == all of it: `AsBefore`
--   lent-decided        == what a step asks, the length of the opening's levels being right
--   decided-step        == a step that is lent decided levels
-- Assumes nothing.
use mathlib.Core.Path.{◌≡◌, ap, ◌∙◌}
use mathlib.Core.List.{List}
use Prim.Native.Nat.{ℕ}
use borrow.Author.Tests.{eq-eqb}
use lib.IntN.{ℤ}
use lib.Ieee.{Float}
use lib.ListN.{length}
use Rattle.answers.specs.Paper.Answers.{Said, after}
use Rattle.packed_word.specs.Paper.Packed.{bit_at}
use Rattle.packed_word.proofs.Distances.{distance_self}
use Rattle.byte_numbers.specs.Paper.Numbers.{samples_in}
use Rattle.matrix.specs.Paper.Code.{Matrix}
use Rattle.quantiser_levels.specs.Paper.Samples.{Setting, hard_bit}
use Rattle.iterative_rounds.specs.Paper.Rounds.{State, End}
use Rattle.iterative_changed.specs.Paper.Changed.{decided_in, level_at}
use Rattle.iterative_changed.proofs.Changes.{changed-decided, changed-self}
use Rattle.iterative_core.specs.Paper.Iterative.{start_of, end_from, report_at, iterative_verdict, iterative_of, iterative_word}
use Rattle.iterative_indexed.specs.Paper.Call.{iterative_indexed_verdict, iterative_indexed_of}
use Rattle.session_asking.specs.Paper.Asked.{Held, not_opened, step_verdict}
use Rattle.session.specs.Paper.Steps.{stepped_state, open_of, step_of}
use Rattle.program_text.specs.Paper.Output.{block_text}
use Rattle.program_block.specs.Paper.Block.{block_verdict, block_said, block_line}
use Rattle.firmware_decoding.specs.Paper.Said.{face_report}
use Rattle.decided_samples.specs.Paper.Calls.{report_all, open_all, step_asked_all}
use Rattle.decided_samples.specs.Paper.Claims.{AllDecided, DecidedAsBefore, DecidedStep}

-- ---- calls on samples

-- the answer at the end of a list that starts at s
report-decided : (H : Matrix) (s : State) (e : End) → AllDecided H.n s.R → report_at H s e ≡ report_all H s.z e
unfolding report_at
report-decided H s e d = rw (changed-decided H.n s.R e.last.z s.z d)

-- opening a session, whatever the samples: nothing is changed yet
open-decided : (H : Matrix) (S : Setting) (xs : List Float) (h : Held) → open_of H S xs h ≡ open_all H S xs h
unfolding open_of start_of
open-decided H S xs h = rw (changed-self H.n (decided_in (start_of S xs).R) (hard_bit xs), distance_self H.n (hard_bit xs))

module _ (H : Matrix) (S : Setting) (xs : List Float) (d : AllDecided H.n (start_of S xs).R) where
  -- the same of samples
  whole-decided : report_at H (start_of S xs) (end_from H S xs) ≡ report_all H (hard_bit xs) (end_from H S xs)
  unfolding start_of
  whole-decided = report-decided H (start_of S xs) (end_from H S xs) d

  -- iterative voting
  iterative-decided : (bytes levels : ℕ)
      → iterative_of H S xs bytes levels ≡ after (iterative_verdict H S xs bytes levels) (report_all H (hard_bit xs) (end_from H S xs))
  unfolding iterative_of
  iterative-decided bytes levels = ap (after (iterative_verdict H S xs bytes levels)) whole-decided

  -- iterative voting by matrix and index
  indexed-decided : (x : List ℕ) (bytes levels : ℕ)
      → iterative_indexed_of H x S xs bytes levels ≡ after (iterative_indexed_verdict H x S xs bytes levels) (report_all H (hard_bit xs) (end_from H S xs))
  unfolding iterative_indexed_of
  indexed-decided x bytes levels = ap (after (iterative_indexed_verdict H x S xs bytes levels)) whole-decided

  -- a block of the program
  block-decided : block_said H S xs ≡ after (block_verdict xs) (report_all H (hard_bit xs) (end_from H S xs))
  unfolding block_said
  block-decided = ap (after (block_verdict xs)) whole-decided

  -- and its line
  line-decided : (i : ℕ) (bs : List ℕ) → samples_in bs ≡ xs
      → block_line H S i bs ≡ block_text i (after (block_verdict xs) (report_all H (hard_bit xs) (end_from H S xs))) (iterative_word H S xs)
  unfolding block_line
  line-decided i bs e =
      ap (λ (x : List Float). block_text i (block_said H S x) (iterative_word H S x)) e
      ∙ ap (λ (s : Said). block_text i s (iterative_word H S xs)) block-decided

  -- the report of the C face
  face-decided : (bs : List ℕ) → samples_in bs ≡ xs → face_report H S bs ≡ report_all H (hard_bit xs) (end_from H S xs)
  unfolding face_report
  face-decided bs e = ap (λ (x : List Float). report_at H (start_of S x) (end_from H S x)) e ∙ whole-decided

-- all of it
pub decided-as-before : (H : Matrix) (S : Setting) (xs : List Float) → DecidedAsBefore H S xs
decided-as-before H S xs d =
    record {
      iterative = iterative-decided H S xs d;
      indexed = indexed-decided H S xs d;
      opens = open-decided H S xs;
      line = line-decided H S xs d;
      face = face-decided H S xs d;
    }

-- ---- a step

-- what it asks: n levels are not refused
lent-decided : (H : Matrix) (w : List ℕ) (o : List ℤ) (h : Held) → length o ≡ H.n → step_verdict H w o h ≡ step_asked_all H w h
unfolding step_verdict not_opened
lent-decided H w o h e = rw (eq-eqb (length o) H.n e)

-- a step that is lent decided levels
pub decided-step : (H : Matrix) (w : List ℕ) (o : List ℤ) (h : Held) → DecidedStep H w o h
unfolding step_of
decided-step H w o h e d =
    rw (lent-decided H w o h e, changed-decided H.n (level_at o) (stepped_state H h).z (bit_at w) d)
