-- Every call says and leaves of a matrix of equal columns what it did before columns could be unlike: each by the one law `check-equal`.
--   failing-equal             == the count of failing checks
--   one-step-equal            == one-step voting: answer and word
--   iterative-equal           == iterative voting: answer, word and levels
--   open-equal                == opening a session: answer, record, word and levels
--   step-equal                == a step of it
--   index-equal               == building the index
--   one-step-indexed-equal    == one-step voting by matrix and index
--   iterative-indexed-equal   == iterative voting by matrix and index
--   program-equal             == how a run of the program begins
--   flips-equal               == the flips go by gamma
--   as_before                 == all of it: `AsBefore`
-- Assumes nothing.
use mathlib.Core.Path.{◌≡◌, ap, ◌∙◌}
use mathlib.Core.List.{List}
use Prim.Native.Nat.{ℕ, ◌*◌, ◌<◌}
use lib.Dec.{ltb}
use lib.IntN.{ℤ}
use lib.Ieee.{Float}
use lib.ListN.{length}
use Rattle.answers.specs.Paper.Answers.{Verdict, accepted, Said, refuse_when, and_then, after, written}
use Rattle.packed_word.specs.Paper.Packed.{bit_at}
use Rattle.matrix.specs.Paper.Code.{Matrix}
use Rattle.matrix.specs.Paper.EqualWeights.{check_equal}
use Rattle.matrix.proofs.PlainCheck.{accepted-is}
use Rattle.matrix.proofs.EqualWeights.{equal-weights, sizes-alike, equal-product, equal-accepted, check-equal}
use Rattle.matrix_index.specs.Paper.Index.{index_of, index_size, own_verdict, index_verdict}
use Rattle.matrix_index_check.specs.Paper.Call.{indexed_verdict, IndexAnswered}
use Rattle.syndrome.specs.Paper.Failing.{word_verdict, failing_verdict, failing_of}
use Rattle.majority_logic.specs.Paper.Votes.{votes, flip_when, flipped}
use Rattle.majority_logic.specs.Paper.OneStep.{one_step_report, one_step_verdict, one_step_of, one_step_word}
use Rattle.majority_logic.proofs.Correction.{flipped-equal}
use Rattle.one_step_core.specs.Paper.Call.{OneStepAnswered}
use Rattle.one_step_indexed.specs.Paper.Call.{one_step_indexed_verdict, one_step_indexed_of, OneStepIndexedAnswered}
use Rattle.quantiser_levels.specs.Paper.Samples.{Setting}
use Rattle.iterative_core.specs.Paper.Iterative.{start_of, end_from, report_at, iterative_verdict, iterative_of, iterative_word, iterative_levels}
use Rattle.iterative_core.specs.Paper.Call.{IterativeAnswered}
use Rattle.iterative_indexed.specs.Paper.Call.{iterative_indexed_verdict, iterative_indexed_of, IterativeIndexedAnswered}
use Rattle.session_asking.specs.Paper.Asked.{Held, open_verdict, step_verdict}
use Rattle.session.specs.Paper.Steps.{open_of, step_of}
use Rattle.program_input.specs.Paper.Opening.{opening, opening_verdict}
use Rattle.equal_weights.specs.Paper.Calls.{failing_by, OneStepBy, IterativeBy, iterative_asked_by, open_by, step_by, IndexBy, OneStepIndexedBy}
use Rattle.equal_weights.specs.Paper.Calls.{IterativeIndexedBy, indexed_asked_by, program_by}
use Rattle.equal_weights.specs.Paper.Claims.{AsBefore}

module _ (H : Matrix) (e : check_equal H ≡ accepted) where
  -- the count of failing checks
  pub failing-equal : (w : List ℕ) → failing_of H w ≡ failing_by (check_equal H) H w
  unfolding failing_of failing_verdict
  failing-equal w = ap (λ (v : Verdict). failing_by v H w) (check-equal H e)

  -- one-step voting
  pub one-step-equal : (w old new : List ℕ) (s : Said) → OneStepAnswered H w old new s → OneStepBy (check_equal H) H w old new s
  unfolding one_step_of one_step_verdict
  one-step-equal w old new s a =
      record {
        says = a.says ∙ ap (λ (v : Verdict). after (and_then v (word_verdict H.n w (length old) H.n)) (one_step_report H (bit_at w))) (check-equal H e);
        word = a.word ∙ ap (λ (v : Verdict). written (and_then v (word_verdict H.n w (length old) H.n)) (one_step_word H w) old) (check-equal H e);
      }

  -- iterative voting
  pub iterative-equal : (S : Setting) (xs : List Float) (said : Said) (w w' : List ℕ) (ls ls' : List ℤ) → IterativeAnswered H S xs said w w' ls ls'
      → IterativeBy (check_equal H) H S xs said w w' ls ls'
  unfolding iterative_of iterative_verdict
  iterative-equal S xs said w w' ls ls' a =
      let same : Verdict → Verdict = λ v. iterative_asked_by v H S xs (length w) (length ls) in
      record {
        answer = a.answer ∙ ap (λ (v : Verdict). after (same v) (report_at H (start_of S xs) (end_from H S xs))) (check-equal H e);
        word = a.word ∙ ap (λ (v : Verdict). written (same v) (iterative_word H S xs) w) (check-equal H e);
        levels = a.levels ∙ ap (λ (v : Verdict). written (same v) (iterative_levels H S xs) ls) (check-equal H e);
      }

  -- opening a session
  pub open-equal : (S : Setting) (xs : List Float) (h : Held) → open_of H S xs h ≡ open_by (check_equal H) H S xs h
  unfolding open_of open_verdict iterative_verdict
  open-equal S xs h = ap (λ (v : Verdict). open_by v H S xs h) (check-equal H e)

  -- a step of it
  pub step-equal : (w : List ℕ) (o : List ℤ) (h : Held) → step_of H w o h ≡ step_by (check_equal H) H w o h
  unfolding step_of step_verdict
  step-equal w o h = ap (λ (v : Verdict). step_by v H w o h) (check-equal H e)

  -- building the index
  pub index-equal : (old new : List ℕ) (v : Verdict) → IndexAnswered H old new v → IndexBy (check_equal H) H old new v
  unfolding index_verdict
  index-equal old new v a =
      let rest = refuse_when 10 (ltb (length old) (index_size H)) accepted in
      record {
        says = a.says ∙ ap (λ (u : Verdict). and_then u rest) (check-equal H e);
        index = a.index ∙ ap (λ (u : Verdict). written (and_then u rest) (index_of H) old) (check-equal H e);
      }

  -- one-step voting by matrix and index
  pub one-step-indexed-equal : (x w old new : List ℕ) (s : Said) → OneStepIndexedAnswered H x w old new s
      → OneStepIndexedBy (check_equal H) H x w old new s
  unfolding one_step_indexed_of one_step_indexed_verdict indexed_verdict
  one-step-indexed-equal x w old new s a =
      let rest = and_then (own_verdict H x) (word_verdict H.n w (length old) H.n) in
      record {
        says = a.says ∙ ap (λ (v : Verdict). after (and_then v rest) (one_step_report H (bit_at w))) (check-equal H e);
        word = a.word ∙ ap (λ (v : Verdict). written (and_then v rest) (one_step_word H w) old) (check-equal H e);
      }

  -- iterative voting by matrix and index
  pub iterative-indexed-equal : (x : List ℕ) (S : Setting) (xs : List Float) (said : Said) (w w' : List ℕ) (ls ls' : List ℤ)
      → IterativeIndexedAnswered H x S xs said w w' ls ls' → IterativeIndexedBy (check_equal H) H x S xs said w w' ls ls'
  unfolding iterative_indexed_of iterative_indexed_verdict indexed_verdict
  iterative-indexed-equal x S xs said w w' ls ls' a =
      let same : Verdict → Verdict = λ v. indexed_asked_by v H x S xs (length w) (length ls) in
      record {
        answer = a.answer ∙ ap (λ (v : Verdict). after (same v) (report_at H (start_of S xs) (end_from H S xs))) (check-equal H e);
        word = a.word ∙ ap (λ (v : Verdict). written (same v) (iterative_word H S xs) w) (check-equal H e);
        levels = a.levels ∙ ap (λ (v : Verdict). written (same v) (iterative_levels H S xs) ls) (check-equal H e);
      }

  -- how a run of the program begins
  pub program-equal : (S : Setting) → opening (opening_verdict H S) S ≡ program_by (check_equal H) S
  unfolding opening_verdict
  program-equal S = ap (λ (v : Verdict). program_by v S) (check-equal H e)

  -- the flips go by gamma
  pub flips-equal : (z : ℕ → ℕ) (j : ℕ) → j < H.n → flipped H z j ≡ flip_when (ltb H.gamma (2 * votes H z j)) (z j)
  flips-equal = flipped-equal H (accepted-is H (equal-accepted H e)) (equal-product H e)

  -- all of it
  pub as_before : AsBefore H
  as_before =
      record {
        check = check-equal H e;
        sizes = sizes-alike H e;
        weights = equal-weights H e;
        failing = failing-equal;
        one_step = one-step-equal;
        iterative = iterative-equal;
        opens = open-equal;
        step = step-equal;
        index = index-equal;
        one_step_indexed = one-step-indexed-equal;
        iterative_indexed = iterative-indexed-equal;
        program = program-equal;
        flips = flips-equal;
      }
