-- Arrays that hold a state, and what one round makes of them.
--   holds-word       == the bits of a state that arrays hold are a word
--   weighed-narrow   == the weights of an accepted matrix fit in eight bits
--   narrow-weighed   == kept in eight bits they are the weights still
--   weighed-moved    == a pass by an array of the columns' weights is one by the weights
--   next-level-is    == the level after a round, by the votes
--   round-holds      == arrays that hold a state, moved by its votes, hold the state after a round
-- Assumes nothing.
use mathlib.Core.Path.{◌≡◌, sym, ap, ap₂, ◌∙◌}
use mathlib.Core.List.{List}
use Prim.Native.Nat.{ℕ, ◌*◌, ◌≤◌, ◌<◌}
use native.Mathlib.Decide.{ℕ_discrete}
use native.Mathlib.Omega.{arith}
use lib.IntN.{ℤ, nat_abs, ◌+ℤ◌}
use Rattle.counting.specs.Paper.Integers.{cut}
use Rattle.counting.specs.Paper.Lists.{listed, over}
use Rattle.counting.specs.Places.{at}
use Rattle.counting.proofs.Writes.{over-at}
use Rattle.matrix.specs.Paper.Code.{Matrix, Word, weight}
use Rattle.matrix.specs.Paper.PlainCheck.{Rows, Accepted}
use Rattle.matrix.proofs.Weights.{weight-small}
use Rattle.matrix.specs.Tallies.{Weighed}
use Rattle.majority_logic.specs.Paper.Votes.{votes}
use Rattle.majority_logic.proofs.Agreement.{votes-cong}
use Rattle.iterative_rounds.specs.Paper.Rounds.{State, level_after, round_of}
use Rattle.iterative_levels.specs.Levels.{biased, next_level, above_middle, Moved, Narrow}
use Rattle.iterative_rounds.specs.Runs.{Holds}
use Rattle.iterative_rounds.proofs.Extrinsic.{extrinsic-zero, extrinsic-one}
use Rattle.iterative_levels.proofs.Levels.{next-zero, next_one, above-biased, above-bit}
use Rattle.iterative_levels.proofs.Passes.{moved-cong}
use Rattle.iterative_rounds.proofs.Ends.{round-bound}

-- the bits of a state that arrays hold are a word
pub holds-word : (H : Matrix) (L : ℕ) (z x : List ℕ) (s : State) → Holds H.n L z x s → Word H (at z)
unfolding Word
holds-word H L z x s h j l = omega (arith, h.word j l, h.bit j l)

-- the weights of an accepted matrix fit in eight bits
pub weighed-narrow : (H : Matrix) → Accepted H → (w : List ℕ) → Weighed H w → Narrow H.n w
weighed-narrow H a w e = record { columns = a.sizes.n_most; small = λ j l. omega (arith, e j l, weight-small H a j) }

-- kept in eight bits they are the weights still
pub narrow-weighed : (H : Matrix) (w old w' : List ℕ) → Weighed H w → w' ≡ over (listed H.n (at w)) old → Weighed H w'
narrow-weighed H w old w' e s j l = over-at H.n (at w) old w' s 0 j l ∙ e j l

-- a pass by an array of the columns' weights is one by the weights
pub weighed-moved : (H : Matrix) (v w : List ℕ) (L : ℕ) (z x z' x' : List ℕ) → Weighed H w → Moved v (at w) H.n L (2 * L) z x z' x'
    → Moved v (weight H) H.n L (2 * L) z x z' x'
weighed-moved H v w L z x z' x' e m = moved-cong v (at w) (weight H) H.n L (2 * L) z x z' x' e m

module _ (H : Matrix) (r : Rows H) (L : ℕ) (s : State) where
  -- the level after a round, by the votes
  pub next-level-is : (j : ℕ) → s.z j < 2 → nat_abs (s.R j) ≤ L
      → next_level (weight H j) (2 * L) (biased L (s.R j)) (s.z j) (votes H s.z j) ≡ biased L (level_after H L s j)
  unfolding level_after
  next-level-is j b h =
      elim (ℕ_discrete (s.z j) 0) [
        | yes e ↦
            next-zero (weight H j) L (votes H s.z j) (s.z j) (s.R j) e h
            ∙ ap (λ (x : ℤ). biased L (cut L (s.R j +ℤ x))) (sym (extrinsic-zero H r s.z j e))
        | no ne ↦
            let e : s.z j ≡ 1 = omega arith in
            next_one (weight H j) L (votes H s.z j) (s.z j) (s.R j) e h
            ∙ ap (λ (x : ℤ). biased L (cut L (s.R j +ℤ x))) (sym (extrinsic-one H r s.z j e))
      ]

  -- arrays that hold a state, moved by its votes, hold the state after a round
  pub round-holds : (v z x z' x' : List ℕ) → Holds H.n L z x s → ((j : ℕ) → at v j ≡ votes H (at z) j) → Moved v (weight H) H.n L (2 * L) z x z' x'
      → Holds H.n L z' x' (round_of H L s)
  unfolding round_of
  round-holds v z x z' x' h e m =
      record {
        long_word = m.long_word;
        long_levels = m.long_levels;
        word = λ j l. m.bits j l ∙ ap (above_middle L) (level j l) ∙ above-biased L (level_after H L s j);
        bit = λ j l. above-bit (level_after H L s j);
        levels = level;
        within = λ j l. round-bound H L s j;
      }
    where
      voted : (j : ℕ) → at v j ≡ votes H s.z j
      voted j = e j ∙ votes-cong H r (at z) s.z h.word j

      level : (j : ℕ) → j < H.n → at x' j ≡ biased L (level_after H L s j)
      level j l =
          m.levels j l
          ∙ ap₂ (λ (p q : ℕ). next_level (weight H j) (2 * L) p q (at v j)) (h.levels j l) (h.word j l)
          ∙ ap (next_level (weight H j) (2 * L) (biased L (s.R j)) (s.z j)) (voted j)
          ∙ next-level-is j (h.bit j l) (h.within j l)
