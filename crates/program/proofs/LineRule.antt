-- The flipping rule for iterative voting in the program's lines: a block is decoded by the whole call, which obeys it.
--   line-rule    == the line of a block near a codeword tells that codeword, where the round limit leaves the rounds for it
--   ample-line   == a limit of L / 2 + 1 leaves them
-- Assumes nothing.
use mathlib.Core.Path.{◌≡◌, sym, ap₂, ◌∙◌}
use mathlib.Core.List.{List}
use Prim.Native.Nat.{ℕ, ◌≤◌}
use native.Mathlib.Omega.{arith}
use lib.IntN.{ℤ, pos}
use lib.Ieee.{Float}
use lib.ListN.{length, take}
use Rattle.counting.specs.Paper.Lists.{listed, over}
use Rattle.counting.proofs.Writes.{length-listed, take-over}
use Rattle.answers.specs.Paper.Answers.{accepted, Said, report}
use Rattle.answers.proofs.Verdicts.{fit-lengths}
use Rattle.packed_word.specs.Paper.Packed.{bytes_for}
use Rattle.packed_word.proofs.Packed.{length-pack}
use Rattle.matrix.specs.Paper.Code.{Matrix}
use Rattle.matrix.proofs.PlainCheck.{is-accepted}
use Rattle.quantiser_levels.specs.Paper.Samples.{Setting, largest}
use Rattle.iterative_core.specs.Paper.Iterative.{end_from, samples_verdict, iterative_verdict, iterative_word}
use Rattle.iterative_rule.specs.Paper.Claims.{wrong_bits, wrong_decided, rounds_for, SamplesWithinHalf}
use Rattle.iterative_rule.proofs.FlippingRule.{iterative-rule}
use Rattle.iterative_rule.proofs.Ends.{rounds-most}
use Rattle.byte_numbers.specs.Paper.Numbers.{samples_in}
use Rattle.program_text.specs.Paper.Output.{block_text}
use Rattle.program_input.specs.Paper.Opening.{Decodable}
use Rattle.program_block.specs.Paper.Block.{block_verdict, block_said, block_line}
use Rattle.quantiser_bytes.proofs.Blocks.{samples-n}
use Rattle.program_block.proofs.Answers.{block-is-call}
use Rattle.program.specs.Paper.LineRule.{LineRule, AmpleLine}

-- buffers of just the length that a call needs
cleared : ℕ → List ℕ
cleared n = listed (bytes_for n) (λ _. 0)

cleared-long : (n : ℕ) → length (cleared n) ≡ bytes_for n
unfolding cleared
cleared-long n = length-listed (bytes_for n) (λ _. 0)

flat : ℕ → List ℤ
flat n = listed n (λ _. pos 0)

flat-long : (n : ℕ) → length (flat n) ≡ n
unfolding flat
flat-long n = length-listed n (λ _. pos 0)

-- ---- a block as a call with such buffers

module _ (H : Matrix) (S : Setting) (xs : List Float) (d : Decodable H S) (whole : length xs ≡ H.n) (finite : block_verdict xs ≡ accepted) where
  -- it is accepted
  asked : iterative_verdict H S xs (length (cleared H.n)) (length (flat H.n)) ≡ accepted
  unfolding iterative_verdict samples_verdict block_verdict
  asked =
      rw (
        is-accepted H d.matrix,
        d.setting,
        fit-lengths (length xs) H.n (length (cleared H.n)) (bytes_for H.n) (length (flat H.n)) H.n whole
            (omega (arith, cleared-long H.n)) (omega (arith, flat-long H.n)),
      ) finite

  module _ (c : List ℕ) (near : SamplesWithinHalf H S c xs) (time : rounds_for (largest S.bits) H.gamma (wrong_bits H c xs) ≤ S.limit) where
    -- and what it says is what the block says
    block-says : block_said H S xs ≡ report 0 (end_from H S xs).k 0 (wrong_decided H S c xs)
    block-says =
        let r = iterative-rule H S xs (cleared H.n) (flat H.n) c asked near time in
        sym (block-is-call H S xs (length (cleared H.n)) (length (flat H.n)) d whole (omega (arith, cleared-long H.n))
        (omega (arith, flat-long H.n)))
        ∙ r.says

    -- its word is the codeword sent: both are all that is written
    block-word : iterative_word H S xs ≡ c
    unfolding iterative_word
    block-word =
        let w : List ℕ = iterative_word H S xs in
        let r = iterative-rule H S xs (cleared H.n) (flat H.n) c asked near time in
        let both : over w (cleared H.n) ≡ over c (cleared H.n) = rw asked at r.word in
        let long : length w ≡ length c = length-pack H.n (end_from H S xs).last.z ∙ sym near.sent.word.long in
        sym (take-over w (cleared H.n)) ∙ ap₂ (λ (k : ℕ) (l : List ℕ). take k l) long both ∙ take-over c (cleared H.n)

-- ---- the claims

-- the line of a block near a codeword tells that codeword
pub line-rule : (H : Matrix) (S : Setting) (i : ℕ) (bs : List ℕ) → LineRule H S i bs
unfolding block_line
line-rule H S i bs c d bytes finite near time =
    let xs = samples_in bs in
    let whole : length xs ≡ H.n = samples-n H.n bs bytes in
    let r = iterative-rule H S xs (cleared H.n) (flat H.n) c (asked H S xs d whole finite) near time in
    record {
      begun = r.begun;
      soon = r.soon;
      line = ap₂ (λ (s : Said) (w : List ℕ). block_text i s w) (block-says H S xs d whole finite c near time) (block-word H S xs d whole finite c near time);
    }

-- a limit of L / 2 + 1 leaves the rounds for it
pub ample-line : (H : Matrix) (S : Setting) (i : ℕ) (bs : List ℕ) → AmpleLine H S i bs
ample-line H S i bs c d bytes finite near limit =
    line-rule H S i bs c d bytes finite near (omega (arith, rounds-most (largest S.bits) H.gamma (wrong_bits H c (samples_in bs))))
