-- The answer by what is asked, and the flipping rule for what is answered.
--   refused-word     == what is asked of the received word refuses it: the buffer is kept
--   word-lent        == it accepts: what the core is lent
--   answered-voted   == and the core's answer is the call's
--   refused-matrix   == the matrix is refused: the check's number and place
--   answered-rule    == what is answered obeys the flipping rule
-- Assumes nothing.
use mathlib.Core.Path.{◌≡◌, refl, ◌∙◌}
use mathlib.Core.List.{List}
use Prim.Native.Nat.{ℕ}
use lib.ListN.{length}
use Rattle.answers.specs.Paper.Answers.{accepted, refused, Said, refusal}
use Rattle.matrix.specs.Paper.Code.{Matrix}
use Rattle.matrix.specs.Paper.Check.{check_of}
use Rattle.matrix.specs.Paper.PlainCheck.{Accepted}
use Rattle.matrix.proofs.PlainCheck.{is-accepted}
use Rattle.syndrome.specs.Paper.Failing.{word_verdict}
use Rattle.syndrome.proofs.Received.{word_fits}
use Rattle.majority_logic.specs.Paper.OneStep.{one_step_verdict, one_step_of}
use Rattle.majority_logic.specs.Paper.Claims.{FlippingRule}
use Rattle.majority_logic.proofs.FlippingRule.{flipping-rule}
use Rattle.one_step_core.specs.Stepped.{VoteLent, Voted}
use Rattle.one_step_core.specs.Paper.Call.{OneStepAnswered}

module _ (H : Matrix) (a : Accepted H) (w old : List ℕ) where
  -- what is asked once the matrix is accepted
  asked : one_step_verdict H w (length old) ≡ word_verdict H.n w (length old) H.n
  unfolding one_step_verdict
  asked = rw (is-accepted H a)

  -- a refusal keeps the buffer
  pub refused-word : (k x : ℕ) (said : Said) → word_verdict H.n w (length old) H.n ≡ refused k x → said ≡ refusal k x → OneStepAnswered H w old old said
  unfolding one_step_of
  refused-word k x said v e = let q = asked ∙ v in record { says = e ∙ rw q refl; word = rw q refl }

  module _ (v : word_verdict H.n w (length old) H.n ≡ accepted) where
    -- it accepts: what the core is lent
    pub word-lent : VoteLent H w old
    word-lent =
        let fit = word_fits H.n w (length old) H.n v in
        record { matrix = a; long = fit.0; spare = fit.3; room = fit.1 }

    -- and the core's answer is the call's
    pub answered-voted : (out : List ℕ) (said : Said) → Voted H w old out said → OneStepAnswered H w old out said
    unfolding one_step_of
    answered-voted out said d = let q = asked ∙ v in record { says = d.says ∙ rw q refl; word = d.word ∙ rw q refl }

-- a matrix that is refused is refused with the check's number and place
pub refused-matrix : (H : Matrix) (w old : List ℕ) (k x : ℕ) (said : Said) → check_of H ≡ refused k x → said ≡ refusal k x → OneStepAnswered H w old old said
unfolding one_step_of one_step_verdict
refused-matrix H w old k x said v e = record { says = e ∙ rw v refl; word = rw v refl }

-- what is answered obeys the flipping rule
pub answered-rule : (H : Matrix) (w old out : List ℕ) (said : Said) → OneStepAnswered H w old out said → FlippingRule H w old out said
answered-rule H w old out said a c e h room =
    let r = flipping-rule H w old c e h room in record { says = a.says ∙ r.says; word = a.word ∙ r.word }
