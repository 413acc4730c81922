-- What stays of matrices of equal columns. (Document 02, card 2: "Matrices accepted so far give the answers they gave".)
--   AsBefore H   == every call says and leaves of H what it does where the matrix check is that of equal columns
-- proofs/EqualCalls.antt shows it of every matrix which that check accepts. Assumes nothing.
use Rattle.std.specs.Prelude.{ℕ, ◌*◌, ◌<◌, ◌≡◌, List, ltb, ℤ, Float}
use Rattle.answers.specs.Paper.Answers.{Verdict, Said}
use Rattle.matrix.specs.Paper.Code.{Matrix, weight}
use Rattle.matrix.specs.Paper.Check.{sizes_fit, check_of}
use Rattle.matrix.specs.Paper.EqualWeights.{sizes_equal, check_equal}
use Rattle.matrix_index_check.specs.Paper.Call.{IndexAnswered}
use Rattle.syndrome.specs.Paper.Failing.{failing_of}
use Rattle.majority_logic.specs.Paper.Votes.{votes, flip_when, flipped}
use Rattle.one_step_core.specs.Paper.Call.{OneStepAnswered}
use Rattle.one_step_indexed.specs.Paper.Call.{OneStepIndexedAnswered}
use Rattle.quantiser_levels.specs.Paper.Samples.{Setting}
use Rattle.iterative_core.specs.Paper.Call.{IterativeAnswered}
use Rattle.iterative_indexed.specs.Paper.Call.{IterativeIndexedAnswered}
use Rattle.session_asking.specs.Paper.Asked.{Held}
use Rattle.session.specs.Paper.Steps.{open_of, step_of}
use Rattle.program_input.specs.Paper.Opening.{opening, opening_verdict}
use Rattle.equal_weights.specs.Paper.Calls.{failing_by, OneStepBy, IterativeBy, open_by, step_by, IndexBy, OneStepIndexedBy, IterativeIndexedBy, program_by}

-- the check, the sizes' test, which the program asks before the rest, the weights, each call, the program's beginning, and the flips, which go by gamma
pub record AsBefore (H : Matrix) : Type 0 where
  pub check : check_of H ≡ check_equal H
  pub sizes : sizes_fit H ≡ sizes_equal H
  pub weights : (j : ℕ) → j < H.n → weight H j ≡ H.gamma
  pub failing : (w : List ℕ) → failing_of H w ≡ failing_by (check_equal H) H w
  pub one_step : (w old new : List ℕ) (s : Said) → OneStepAnswered H w old new s → OneStepBy (check_equal H) H w old new s
  pub iterative : (S : Setting) (xs : List Float) (said : Said) (w w' : List ℕ) (ls ls' : List ℤ) → IterativeAnswered H S xs said w w' ls ls'
      → IterativeBy (check_equal H) H S xs said w w' ls ls'
  pub opens : (S : Setting) (xs : List Float) (h : Held) → open_of H S xs h ≡ open_by (check_equal H) H S xs h
  pub step : (w : List ℕ) (o : List ℤ) (h : Held) → step_of H w o h ≡ step_by (check_equal H) H w o h
  pub index : (old new : List ℕ) (v : Verdict) → IndexAnswered H old new v → IndexBy (check_equal H) H old new v
  pub one_step_indexed : (x w old new : List ℕ) (s : Said) → OneStepIndexedAnswered H x w old new s → OneStepIndexedBy (check_equal H) H x w old new s
  pub iterative_indexed : (x : List ℕ) (S : Setting) (xs : List Float) (said : Said) (w w' : List ℕ) (ls ls' : List ℤ)
      → IterativeIndexedAnswered H x S xs said w w' ls ls' → IterativeIndexedBy (check_equal H) H x S xs said w w' ls ls'
  pub program : (S : Setting) → opening (opening_verdict H S) S ≡ program_by (check_equal H) S
  pub flips : (z : ℕ → ℕ) (j : ℕ) → j < H.n → flipped H z j ≡ flip_when (ltb H.gamma (2 * votes H z j)) (z j)
