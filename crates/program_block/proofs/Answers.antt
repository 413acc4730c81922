-- Laws of the bytes of one block, and of what its answer says.
--   block-refuses      == refusal 8 at the place that was found
--   block-passes       == where no place was found nothing is refused
--   answered-refused   == a refused block is answered with its refusal and leaves the word
--   answered           == the core's answer on the samples of an accepted block is the block's
--   block-is-call      == a block is decoded by the whole call of iterative voting
-- Assumes nothing.
use mathlib.Core.Path.{◌≡◌, ap, ◌∙◌}
use mathlib.Core.List.{List}
use Prim.Native.Nat.{ℕ, ◌*◌, ◌/◌, ◌≤◌, ◌<◌}
use lib.IntN.{ℤ}
use lib.Ieee.{Float}
use lib.ListN.{length}
use Rattle.counting.specs.Paper.Lists.{over}
use Rattle.counting.specs.Paper.Search.{first}
use Rattle.answers.specs.Paper.Answers.{accepted, refused, Said, refusal}
use Rattle.answers.proofs.Verdicts.{fit-lengths}
use Rattle.packed_word.specs.Paper.Packed.{bytes_for}
use Rattle.matrix.specs.Paper.Code.{Matrix}
use Rattle.matrix.proofs.PlainCheck.{is-accepted}
use Rattle.quantiser_levels.specs.Paper.Samples.{Setting}
use Rattle.iterative_core.specs.Paper.Iterative.{start_of, end_from, report_at, samples_verdict, iterative_verdict, iterative_of, iterative_word}
use Rattle.iterative_core.specs.Calls.{Decoded}
use Rattle.byte_numbers.specs.Paper.Numbers.{samples_in, not_finite_in}
use Rattle.program_input.specs.Paper.Opening.{Decodable}
use Rattle.quantiser_bytes.proofs.Blocks.{sample-refuses, samples-pass}
use Rattle.program_block.specs.Loans.{BlockAnswered}
use Rattle.program_block.specs.Paper.Block.{block_verdict, block_said}

module _ (n : ℕ) (bs : List ℕ) (whole : length bs ≡ 4 * n) where
  -- refusal 8 by the place that was found
  pub block-refuses : (r : ℕ) → r ≡ first (not_finite_in bs) (length bs / 4) → r < n → block_verdict (samples_in bs) ≡ refused 8 r
  unfolding block_verdict
  block-refuses = sample-refuses n bs whole

  -- where no place was found nothing is refused
  pub block-passes : (r : ℕ) → r ≡ first (not_finite_in bs) (length bs / 4) → n ≤ r → block_verdict (samples_in bs) ≡ accepted
  unfolding block_verdict
  block-passes = samples-pass n bs whole

-- ---- the answer of a block

module _ (H : Matrix) (S : Setting) (bs : List ℕ) where
  -- a refused block
  pub answered-refused : (r : ℕ) (w : List ℕ) → block_verdict (samples_in bs) ≡ refused 8 r → BlockAnswered H S bs (refusal 8 r) w w
  unfolding block_said
  answered-refused r w e = record { answer = rw e; word = rw e }

  -- the core's answer on the samples xs of an accepted one
  pub answered : {xs : List Float} {said : Said} {w w' : List ℕ} {ls ls' : List ℤ} → block_verdict (samples_in bs) ≡ accepted → xs ≡ samples_in bs
      → Decoded H S xs said w w' ls ls' → BlockAnswered H S bs said w w'
  unfolding block_said
  answered {w} e q d =
      record {
        answer = rw e (d.answer ∙ ap (λ (x : List Float). report_at H (start_of S x) (end_from H S x)) q);
        word = rw e (d.word ∙ ap (λ (x : List Float). over (iterative_word H S x) w) q);
      }

-- a block is decoded by the whole call of iterative voting: once matrix and setting are accepted, only refusal 8 is left to ask
pub block-is-call : (H : Matrix) (S : Setting) (xs : List Float) (bytes levels : ℕ) → Decodable H S → length xs ≡ H.n → bytes_for H.n ≤ bytes → H.n ≤ levels
    → iterative_of H S xs bytes levels ≡ block_said H S xs
unfolding iterative_of iterative_verdict samples_verdict block_said block_verdict
block-is-call H S xs bytes levels d e w l =
    rw (is-accepted H d.matrix, d.setting, fit-lengths (length xs) H.n bytes (bytes_for H.n) levels H.n e w l)
