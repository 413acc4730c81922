-- What stays of settings and records with b up to 8. (Document 02, card 7: "All answers with b up to 8 are unchanged".)
--   as_before        == every call with such a setting says and leaves what it did while widths ended at 8: `AsBefore`
--   returns          == every level that it writes can be taken back: `Returns`
--   step-as-before   == a step with such a record says and leaves what it did: `StepAsBefore`
--   step-returns     == and its levels can be taken back: `StepReturns`
--   brought-over     == old levels brought over into a buffer just as long are those levels
--   goes_on          == a session opened before goes on: `GoesOn`
-- Assumes nothing.
use mathlib.Core.Path.{◌≡◌, ap, ap₂, ◌∙◌}
use mathlib.Core.List.{List}
use Prim.Native.Nat.{ℕ, ◌≤◌}
use native.Mathlib.Omega.{arith}
use lib.IntN.{ℤ}
use lib.ListN.{length}
use Rattle.counting.specs.Paper.Lists.{over}
use Rattle.answers.specs.Paper.Answers.{Verdict, written}
use Rattle.matrix.specs.Paper.Code.{Matrix}
use Rattle.quantiser_levels.specs.Paper.Samples.{Setting}
use Rattle.quantiser_widths.specs.Paper.Widths.{Widened}
use Rattle.quantiser_widths.proofs.Verdicts.{widen-accepted}
use Rattle.session_record.specs.Paper.Record.{Record}
use Rattle.session_asking.specs.Paper.Asked.{Held, lent}
use Rattle.session.specs.Paper.Steps.{step_of}
use Rattle.eight_bits.specs.Paper.Claims.{AsBefore, StepAsBefore, GoesOn, Returns, StepReturns}
use Rattle.eight_bits.proofs.SettingWidths.{setting-eight}
use Rattle.eight_bits.proofs.WholeBuffers.{over-whole}
use Rattle.eight_bits.proofs.Calls.{quantiser-eight, iterative-eight, indexed-eight, open-eight, program-eight, step-eight}
use Rattle.eight_bits.proofs.FaceBefore.{face-eight}
use Rattle.eight_bits.proofs.TakenBack.{quantiser-back, iterative-back, indexed-back, open-back, face-back, step_back}

-- ---- calls with a setting

module _ (S : Setting) (eight : S.bits ≤ 8) where
  -- every call says and leaves what it did
  pub as_before : AsBefore S
  as_before =
      record {
        setting = setting-eight S eight;
        quantiser = quantiser-eight S eight;
        iterative = iterative-eight S eight;
        indexed = indexed-eight S eight;
        opens = open-eight S eight;
        program = program-eight S eight;
        face = λ H bs xs r w w' ls ls' p p' f. face-eight H bs S xs f eight;
      }

  -- every level that it writes can be taken back
  pub returns : Returns S
  returns =
      record {
        quantiser = quantiser-back S eight;
        iterative = iterative-back S eight;
        indexed = indexed-back S eight;
        opens = open-back S eight;
        face = face-back S eight;
      }

-- ---- a step

module _ (H : Matrix) (w : List ℕ) (o : List ℤ) (h : Held) (eight : h.rec.bits ≤ 8) where
  -- it says and leaves what it did
  pub step-as-before : StepAsBefore H w o h
  step-as-before = step-eight H w o h eight

  -- and its levels can be taken back
  pub step-returns : StepReturns H w o h
  step-returns = step_back H w o h eight

-- old levels brought over into a buffer just as long are those levels
brought-over : (old ls ls' : List ℤ) (v : Verdict) → length ls ≡ length old → Widened old v ls ls' → ls' ≡ old
brought-over old ls ls' v e b =
    b.levels ∙ ap (λ (u : Verdict). written u old ls) (widen-accepted old (length ls) (omega arith)) ∙ over-whole old ls e

-- a session opened before goes on
pub goes_on : (H : Matrix) (w : List ℕ) (r : Record) (word : List ℕ) → r.bits ≤ 8 → GoesOn H w r word
goes_on H w r word eight o o₀ o' old ls ls' u v long-o long bo b =
    ap₂ (λ (x y : List ℤ). step_of H w x (lent r word y)) (brought-over o o₀ o' u long-o bo) (brought-over old ls ls' v long b)
    ∙ step-as-before H w o (lent r word old) eight
