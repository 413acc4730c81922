-- Laws of the line of one block, by its answer and its word.
--   line-put   == the line of a block is put by its answer and its word, and has at most 289 bytes
-- Assumes nothing.
use mathlib.Core.Path.{◌≡◌, refl, sym, ap, ap₂, ◌∙◌}
use mathlib.Core.List.{List}
use Prim.Native.Nat.{ℕ, ◌+◌, ◌*◌, ◌≤◌}
use native.Mathlib.Omega.{arith}
use lib.ListN.{length, take, length-take}
use Rattle.counting.specs.Paper.Lists.{over}
use Rattle.counting.proofs.Writes.{take-over}
use Rattle.answers.specs.Paper.Answers.{Verdict, accepted, refused, Said, after, written}
use Rattle.packed_word.specs.Paper.Packed.{bytes_for}
use Rattle.packed_word.proofs.Packed.{length-pack}
use Rattle.matrix.specs.Paper.Code.{Matrix}
use Rattle.quantiser_levels.specs.Paper.Samples.{Setting}
use Rattle.iterative_core.specs.Paper.Iterative.{start_of, end_from, report_at, iterative_word}
use Rattle.program_text.specs.Paper.Output.{said_text, block_text}
use Rattle.program_numerals.specs.Texts.{PutWithin}
use Rattle.program_numerals.proofs.Puts.{put_as}
use Rattle.byte_numbers.specs.Paper.Numbers.{samples_in}
use Rattle.program_block.specs.Loans.{BlockAnswered}
use Rattle.program_block.specs.Paper.Block.{block_verdict, block_said, block_line}

module _ (H : Matrix) (S : Setting) (i : ℕ) (bs : List ℕ) where
  -- a verdict's line does not read the buffer past the word
  by-verdict : (w : List ℕ) (v : Verdict)
      → block_text i (after v (report_at H (start_of S (samples_in bs)) (end_from H S (samples_in bs))))
      (take (bytes_for H.n) (written v (iterative_word H S (samples_in bs)) w))
      ≡ block_text i (after v (report_at H (start_of S (samples_in bs)) (end_from H S (samples_in bs)))) (iterative_word H S (samples_in bs))
  unfolding block_text said_text iterative_word
  by-verdict w accepted =
      let word = iterative_word H S (samples_in bs) in
      ap (block_text i (report_at H (start_of S (samples_in bs)) (end_from H S (samples_in bs))))
      (ap (λ (k : ℕ). take k (over word w)) (sym (length-pack H.n (end_from H S (samples_in bs)).last.z)) ∙ take-over word w)
  by-verdict w (refused k x) = refl

  -- the line of a block by its answer, and by the front of the word that was lent
  line_of : {said : Said} {w w' : List ℕ} → BlockAnswered H S bs said w w' → block_text i said (take (bytes_for H.n) w') ≡ block_line H S i bs
  unfolding block_line block_said
  line_of {w} a =
      ap₂ (λ (s : Said) (x : List ℕ). block_text i s (take (bytes_for H.n) x)) a.answer a.word ∙ by-verdict w (block_verdict (samples_in bs))

  -- it has at most 33 bytes and the 256 digits of the longest word
  pub line-put : {said : Said} {w w' old new : List ℕ} {at end : ℕ} → H.n ≤ 1023 → BlockAnswered H S bs said w w'
      → PutWithin (33 + 2 * length (take (bytes_for H.n) w')) (block_text i said (take (bytes_for H.n) w')) at old new end
      → PutWithin 289 (block_line H S i bs) at old new end
  line-put {w'} few a p = record { put = put_as (line_of a) p.put; within = omega (arith, p.within, few, length-take (bytes_for H.n) w') }
