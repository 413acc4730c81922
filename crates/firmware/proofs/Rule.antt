-- The flipping rule for the firmware's face.
--   face-rule    == every codeword is recovered that the samples are within the half of, where the limit leaves the rounds for it
--   face-ample   == a limit of L / 2 + 1 always leaves them
--   face-promised == all that the contract promises
-- Assumes nothing.
use mathlib.Core.Path.{◌≡◌, sym, ap, ◌∙◌}
use mathlib.Core.List.{List}
use Prim.Native.Nat.{ℕ, ◌/◌}
use lib.IntN.{ℤ, pos}
use lib.ListN.{length, replicate, length-replicate}
use Rattle.counting.specs.Paper.Lists.{over}
use Rattle.answers.specs.Paper.Answers.{Verdict, accepted, Said, after, written}
use Rattle.byte_numbers.specs.Paper.Numbers.{samples_in}
use Rattle.matrix.specs.Paper.Code.{Matrix}
use Rattle.quantiser_levels.specs.Paper.Samples.{Setting}
use Rattle.iterative_core.specs.Paper.Iterative.{iterative_verdict, iterative_of, iterative_word}
use Rattle.iterative_rule.specs.Paper.Claims.{Recovered}
use Rattle.iterative_rule.proofs.FlippingRule.{iterative-rule, ample-limit}
use Rattle.firmware_codes.specs.Paper.Codes.{result_of, report_bytes}
use Rattle.firmware_asking.specs.Paper.Asked.{face_matrix, face_verdict}
use Rattle.firmware_decoding.specs.Paper.Said.{face_report, face_of}
use Rattle.firmware.specs.Paper.Face.{FacedAs}
use Rattle.firmware.specs.Paper.Claims.{FaceIterative, FaceRecovered, FaceRule, FaceAmple}
use Rattle.firmware.proofs.Iterative.{asks-same, says_same, face-is-iterative, only-whole}

module _ (n m rho gamma : ℕ) (bs : List ℕ) (S : Setting) (xs : List ℕ) (r : ℕ) (w w' ls ls' p p' : List ℕ)
    (f : FacedAs (face_matrix n m rho gamma bs) bs S xs r w w' ls ls' p p') where
  -- the matrix whose list the bytes are, and as many levels as there is room for
  abbrev H : Matrix
  H = face_matrix n m rho gamma bs

  abbrev room : List ℤ
  room = replicate (length ls / 2) (pos 0)

  module _ (e : face_verdict (face_matrix n m rho gamma bs) bs S xs (length w) (length ls) (length p) ≡ accepted) where
    long : length room ≡ length ls / 2
    long = length-replicate {A = ℤ} (length ls / 2) (pos 0)

    -- iterative voting accepts the numbers
    accepts : iterative_verdict H S (samples_in xs) (length w) (length room) ≡ accepted
    accepts =
        ap (iterative_verdict H S (samples_in xs) (length w)) long
        ∙ sym (asks-same n m rho gamma bs S xs (length w) (length ls) (length p) (only-whole n m rho gamma bs S xs (length w) (length ls) (length p) e)) ∙ e

    -- and says what the face says, which is its report
    says : face_of H bs S xs (length w) (length ls) (length p) ≡ iterative_of H S (samples_in xs) (length w) (length room)
    says =
        says_same n m rho gamma bs S xs (length w) (length ls) (length p) (only-whole n m rho gamma bs S xs (length w) (length ls) (length p) e)
        ∙ ap (iterative_of H S (samples_in xs) (length w)) (sym long)

    own : face_report H S xs ≡ face_of H bs S xs (length w) (length ls) (length p)
    unfolding face_of
    own = sym (ap (λ (u : Verdict). after u (face_report H S xs)) e)

    -- what iterative voting recovers the face does
    recovered : (c : List ℕ)
        → Recovered H S c (samples_in xs) w (written (iterative_verdict H S (samples_in xs) (length w) (length room)) (iterative_word H S (samples_in xs)) w)
        (iterative_of H S (samples_in xs) (length w) (length room))
        → FaceRecovered H S c (samples_in xs) r w w' p p'
    recovered c d =
        record {
          begun = d.begun;
          soon = d.soon;
          result = f.result ∙ ap result_of (says ∙ d.says);
          word = f.word ∙ ap (λ (u : Verdict). written u (iterative_word H S (samples_in xs)) w) (e ∙ sym accepts) ∙ d.word;
          report = f.report ∙ ap (λ (u : Verdict). written u (report_bytes (face_report H S xs)) p) e
              ∙ ap (λ (s : Said). over (report_bytes s) p) (own ∙ says ∙ d.says);
        }

  -- every codeword is recovered that the samples are within the half of, where the limit leaves the rounds for it
  pub face-rule : FaceRule (face_matrix n m rho gamma bs) bs S xs r w w' ls p p'
  face-rule c e h time = recovered e c (iterative-rule H S (samples_in xs) w room c (accepts e) h time)

  -- a limit of L / 2 + 1 always leaves them
  pub face-ample : FaceAmple (face_matrix n m rho gamma bs) bs S xs r w w' ls p p'
  face-ample c e h limit =
      recovered e c (ample-limit H S (samples_in xs) w _ room _ (iterative-rule H S (samples_in xs) w room) c (accepts e) h limit)

  -- all that the contract promises
  pub face-promised : FacedAs (face_matrix n m rho gamma bs) bs S xs r w w' ls ls' p p'
      × (FaceIterative (face_matrix n m rho gamma bs) bs S xs r w w' ls ls' p p'
      × (FaceRule (face_matrix n m rho gamma bs) bs S xs r w w' ls p p' × FaceAmple (face_matrix n m rho gamma bs) bs S xs r w w' ls p p'))
  face-promised = (f, (face-is-iterative n m rho gamma bs S xs r w w' ls ls' p p' f, (face-rule, face-ample)))
