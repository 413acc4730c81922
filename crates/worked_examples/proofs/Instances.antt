-- The flipping rules at code A: their conditions can be met, and what the one for iterative voting then says.
--   within-half    == P2's received word is the codeword 2E changed within the half
--   readme-block   == with a limit of 43 iterative voting recovers the zero word from the README's block
-- Assumes nothing.
use mathlib.Core.Path.{◌≡◌, refl}
use mathlib.Core.List.{[], ◌∷◌}
use mathlib.Core.Logic.{inl}
use Prim.Native.Nat.{ℕ, zero, suc, ◌<◌}
use native.Mathlib.Omega.{arith}
use lib.IntN.{pos}
use lib.Ieee.{of_bits, of_fields, odd, lt, le}
use Rattle.counting.specs.Paper.Sum.{sum_below, same, unequal}
use Rattle.counting.specs.Paper.Search.{any_below, first}
use Rattle.answers.specs.Paper.Answers.{accepted}
use Rattle.packed_word.specs.Paper.Packed.{bit_at, spare_set, Bytes, distance}
use Rattle.matrix.specs.Paper.Code.{entry, has, weight, common, fails, failing}
use Rattle.matrix.specs.Paper.Check.{sizes_fit, bad_entry, bad_weight, no_least, overlapping, list_of, check_of}
use Rattle.quantiser_levels.specs.Paper.Samples.{step_fits, setting_fits, hard_of, hard_bit, not_finite}
use Rattle.majority_logic.specs.Paper.Claims.{IsWord, Sent, flips, WithinHalf}
use Rattle.iterative_core.specs.Paper.Iterative.{samples_verdict, iterative_verdict}
use Rattle.iterative_rule.specs.Paper.Claims.{wrong_bits, SamplesWithinHalf}
use Rattle.iterative_rule.proofs.FlippingRule.{iterative-rule}
use Rattle.worked_examples.specs.Paper.Calls.{made}
use Rattle.worked_examples.specs.Paper.Table.{code_a, seven, seven_levels}
use Rattle.worked_examples.specs.Paper.Bounds.{readme_setting, readme_block, ReadmeBlock}

-- ---- words of code A

-- one byte is a list of bytes
one_byte : (x : ℕ) → x < 256 → Bytes (x ∷ [])
unfolding Bytes
one_byte x l zero = l
one_byte x l (suc q) = omega arith

sent-2e : Sent code_a (0x2e ∷ [])
unfolding code_a failing fails has entry bit_at spare_set any_below sum_below same
sent-2e = record { word = record { bytes = one_byte 0x2e (omega arith); long = refl; spare = refl }; clean = refl }

sent-00 : Sent code_a (0 ∷ [])
unfolding code_a failing fails has entry bit_at spare_set any_below sum_below same
sent-00 = record { word = record { bytes = one_byte 0 (omega arith); long = refl; spare = refl }; clean = refl }

received-ae : IsWord 7 (0xae ∷ [])
unfolding bit_at spare_set any_below
received-ae = record { bytes = one_byte 0xae (omega arith); long = refl; spare = refl }

one-flip : flips code_a (0x2e ∷ []) (0xae ∷ []) ≡ 1
unfolding code_a distance bit_at sum_below unequal
one-flip = refl

-- P2: the codeword 2E with bit 0 flipped
pub within-half : WithinHalf code_a (0x2e ∷ []) (0xae ∷ [])
unfolding code_a
within-half = record { sent = sent-2e; word = received-ae; few = rw one-flip (omega arith) }

-- ---- the README's block

one-wrong : wrong_bits code_a (0 ∷ []) readme_block ≡ 1
unfolding code_a readme_block seven distance bit_at hard_bit hard_of of_bits of_fields odd lt sum_below unequal
one-wrong = refl

readme-near : SamplesWithinHalf code_a (readme_setting 43) (0 ∷ []) readme_block
unfolding code_a
readme-near = record { sent = sent-00; few = rw one-wrong (omega arith); firm = inl (rw one-wrong (omega arith)) }

-- no refusal applies to the call
readme-accepted : iterative_verdict code_a (readme_setting 43) readme_block 1 7 ≡ accepted
unfolding code_a readme_setting readme_block seven iterative_verdict samples_verdict setting_fits step_fits not_finite of_bits of_fields odd lt le check_of
    list_of sizes_fit bad_entry bad_weight no_least overlapping common weight has entry any_below first sum_below same
readme-accepted = refl

-- with a limit of 43 iterative voting recovers the zero word from the README's block
pub readme-block : ReadmeBlock 43
unfolding code_a readme_setting made
readme-block =
    iterative-rule code_a (readme_setting 43) readme_block (0xff ∷ []) (seven_levels (pos 9) (pos 9)) (0 ∷ []) readme-accepted readme-near
    (rw one-wrong (omega arith))
