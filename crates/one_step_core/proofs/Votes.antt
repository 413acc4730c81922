-- The vote on an unpacked word is the definition's.
--   stepped-clean   == no check fails: nothing moves
--   equal-voted     == where all columns weigh gamma, a vote by gamma is one by the weights
--   weighed-voted   == and so is one by an array that has them
--   voted-bits      == a word that is voted on stays a word
--   stepped-voted   == some check fails: the bits are flipped, and the checks counted again
-- Assumes nothing.
use mathlib.Core.Path.{◌≡◌, refl, sym, ap, ◌∙◌}
use mathlib.Core.List.{List}
use Prim.Native.Nat.{ℕ, ◌*◌, ◌<◌}
use native.Mathlib.Omega.{arith}
use borrow.Author.Tests.{eq-eqb, ne_eqb}
use lib.ListN.{length}
use Rattle.counting.specs.Places.{at}
use Rattle.matrix.specs.Paper.Code.{Matrix, Word, weight, failing}
use Rattle.matrix.specs.Paper.PlainCheck.{Accepted}
use Rattle.matrix.proofs.Rows.{failing-cong}
use Rattle.matrix.proofs.Weights.{weight-equal}
use Rattle.matrix.specs.Tallies.{Weighed}
use Rattle.matrix_degrees.specs.Degrees.{always}
use Rattle.majority_logic.specs.Paper.OneStep.{step_word, step_rounds}
use Rattle.majority_logic.proofs.Correction.{flipped-own, step_word-flipped, step_word-bit}
use Rattle.majority_votes.specs.Tallies.{Tallied}
use Rattle.majority_flips.specs.Flips.{VotedBits}
use Rattle.majority_flips.proofs.Flips.{voted-same}
use Rattle.one_step_core.specs.Stepped.{Stepped}

-- the rounds of a word with and without failing checks
rounds-none : (H : Matrix) (z : ℕ → ℕ) → failing H z ≡ 0 → step_rounds H z ≡ 0
unfolding step_rounds
rounds-none H z e = rw (eq-eqb (failing H z) 0 e)

rounds-one : (H : Matrix) (z : ℕ → ℕ) → (failing H z ≡ 0 → ⊥) → step_rounds H z ≡ 1
unfolding step_rounds
rounds-one H z ne = rw (ne_eqb (failing H z) 0 ne)

-- a word without a failing check stays
word_kept : (H : Matrix) (z : ℕ → ℕ) → failing H z ≡ 0 → (j : ℕ) → step_word H z j ≡ z j
unfolding step_word
word_kept H z e j = rw (eq-eqb (failing H z) 0 e)

-- no check fails: nothing moves
pub stepped-clean : (H : Matrix) (a : Accepted H) (bits : List ℕ) (f : ℕ) → f ≡ failing H (at bits) → f ≡ 0 → Stepped H bits bits 0 0
stepped-clean H a bits f c e =
    let z : failing H (at bits) ≡ 0 = sym c ∙ e in
    record {
      each = λ j h. sym (word_kept H (at bits) z j);
      rest = λ j past. refl;
      rounds_are = sym (rounds-none H (at bits) z);
      failing_are = sym (failing-cong H a.rows (step_word H (at bits)) (at bits) (λ j h. word_kept H (at bits) z j) ∙ z);
    }

-- where all columns weigh gamma, a vote by gamma is one by the weights
pub equal-voted : (H : Matrix) → Accepted H → length H.list ≡ H.n * H.gamma → (v old new : List ℕ)
    → VotedBits H.n (always H.gamma) v old new → VotedBits H.n (weight H) v old new
unfolding always
equal-voted H a e v old new =
    voted-same H.n (always H.gamma) (weight H) v old new (λ j l. sym (weight-equal H a (sym a.rows.whole ∙ e) j l))

-- and so is one by an array that has them
pub weighed-voted : (H : Matrix) (weights : List ℕ) → Weighed H weights → (v old new : List ℕ) → VotedBits H.n (at weights) v old new
    → VotedBits H.n (weight H) v old new
weighed-voted H weights d v old new = voted-same H.n (at weights) (weight H) v old new d

module _ (H : Matrix) (a : Accepted H) (bits v : List ℕ) (f : ℕ) (t : Tallied H (at bits) v f) where
  -- the bits after the flips
  voted-word : (new : List ℕ) → VotedBits H.n (weight H) v bits new → (j : ℕ) → j < H.n → at new j ≡ step_word H (at bits) j
  voted-word new w j h =
      w.each j h
      ∙ flipped-own H (at bits) j (weight H j) (at v j) refl (t.each j)
      ∙ ap (λ (g : ℕ → ℕ). g j) (sym (step_word-flipped H (at bits)))

  -- a word that is voted on stays a word
  pub voted-bits : (new : List ℕ) → VotedBits H.n (weight H) v bits new → Word H (at bits) → Word H (at new)
  unfolding Word
  voted-bits new w b j h = omega (arith, voted-word new w j h, step_word-bit H (at bits) b j h)

  -- some check fails: the bits are flipped, and the checks counted again
  pub stepped-voted : (new : List ℕ) (g : ℕ) → (f ≡ 0 → ⊥) → VotedBits H.n (weight H) v bits new → g ≡ failing H (at new) → Stepped H bits new 1 g
  stepped-voted new g ne w e =
      record {
        each = voted-word new w;
        rest = w.rest;
        rounds_are = sym (rounds-one H (at bits) (λ z. ne (t.count ∙ z)));
        failing_are = e ∙ failing-cong H a.rows (at new) (step_word H (at bits)) (voted-word new w);
      }
