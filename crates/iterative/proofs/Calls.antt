-- The whole call's answer, by what is asked before it.
--   refused-matrix     == the matrix is refused: the check's number and place
--   refused-samples    == what is asked of setting and samples refuses them
--   answered-decoded   == nothing is refused: what the core leaves
--   answered-rule      == what is answered obeys the flipping rule for iterative voting, and a limit of L / 2 + 1 is ample
-- Assumes nothing.
use mathlib.Core.Path.{◌≡◌, refl, ◌∙◌}
use mathlib.Core.List.{List}
use Prim.Native.Nat.{ℕ}
use lib.IntN.{ℤ}
use lib.Ieee.{Float}
use lib.ListN.{length}
use Rattle.answers.specs.Paper.Answers.{accepted, refused, Said, refusal}
use Rattle.matrix.specs.Paper.Code.{Matrix}
use Rattle.matrix.specs.Paper.Check.{check_of}
use Rattle.matrix.specs.Paper.PlainCheck.{Accepted}
use Rattle.matrix.proofs.PlainCheck.{is-accepted}
use Rattle.quantiser_levels.specs.Paper.Samples.{Setting}
use Rattle.iterative_core.specs.Paper.Iterative.{samples_verdict, iterative_verdict, iterative_of}
use Rattle.iterative_core.specs.Calls.{Decoded}
use Rattle.iterative_core.specs.Paper.Call.{IterativeAnswered}
use Rattle.iterative_rule.specs.Paper.Claims.{IterativeRule, AmpleLimit}
use Rattle.iterative_rule.proofs.FlippingRule.{iterative-rule, ample-limit}

module _ (H : Matrix) (S : Setting) (xs : List Float) (w : List ℕ) (ls : List ℤ) where
  -- a refusal keeps both buffers
  kept : (k x : ℕ) (said : Said) → iterative_verdict H S xs (length w) (length ls) ≡ refused k x → said ≡ refusal k x → IterativeAnswered H S xs said w w ls ls
  unfolding iterative_of
  kept k x said v e = record { answer = e ∙ rw v refl; word = rw v refl; levels = rw v refl }

  -- the matrix is refused: the check's number and place
  pub refused-matrix : (k x : ℕ) (said : Said) → check_of H ≡ refused k x → said ≡ refusal k x → IterativeAnswered H S xs said w w ls ls
  unfolding iterative_verdict
  refused-matrix k x said c e = kept k x said (rw c refl) e

  module _ (a : Accepted H) where
    -- what is asked once the matrix is accepted
    asked : iterative_verdict H S xs (length w) (length ls) ≡ samples_verdict H.n S xs (length w) (length ls)
    unfolding iterative_verdict
    asked = rw (is-accepted H a)

    -- what is asked of setting and samples refuses them
    pub refused-samples : (k x : ℕ) (said : Said) → samples_verdict H.n S xs (length w) (length ls) ≡ refused k x → said ≡ refusal k x
        → IterativeAnswered H S xs said w w ls ls
    refused-samples k x said v e = kept k x said (asked ∙ v) e

    -- nothing is refused: what the core leaves
    pub answered-decoded : (said : Said) (w' : List ℕ) (ls' : List ℤ) → samples_verdict H.n S xs (length w) (length ls) ≡ accepted
        → Decoded H S xs said w w' ls ls' → IterativeAnswered H S xs said w w' ls ls'
    unfolding iterative_of
    answered-decoded said w' ls' q d =
        let v = asked ∙ q in
        record { answer = d.answer ∙ rw v refl; word = d.word ∙ rw v refl; levels = d.levels ∙ rw v refl }

-- what is answered obeys the flipping rule for iterative voting, and a limit of L / 2 + 1 is ample
pub answered-rule : {H : Matrix} {S : Setting} {xs : List Float} {said : Said} {w w' : List ℕ} {ls ls' : List ℤ} → IterativeAnswered H S xs said w w' ls ls'
    → IterativeAnswered H S xs said w w' ls ls' × (IterativeRule H S xs w w' ls said × AmpleLimit H S xs w w' ls said)
answered-rule {H} {S} {xs} {said} {w} {w'} {ls} a = (a, (rule, ample-limit H S xs w w' ls said rule))
  where
    rule : IterativeRule H S xs w w' ls said
    rule c e h time =
        let r = iterative-rule H S xs w ls c e h time in
        record { begun = r.begun; soon = r.soon; says = a.answer ∙ r.says; word = a.word ∙ r.word }
