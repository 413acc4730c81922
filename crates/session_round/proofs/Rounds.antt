-- One round on a packed word and levels, by the arrays that it is done in.
--   lent_bounds       == the levels lent, kept as numbers, are in the bounds of a round
--   next_word         == the bits after the round are a word
--   next-restorable   == and its levels can be written back
--   round-left        == what is packed, stored and counted of them is what the round leaves
-- Assumes nothing.
use mathlib.Core.Path.{◌≡◌, ap, ◌∙◌}
use mathlib.Core.List.{List}
use Prim.Native.Nat.{ℕ, ◌*◌}
use native.Mathlib.Omega.{arith}
use lib.IntN.{ℤ, pos}
use lib.ListN.{get_or}
use Rattle.counting.specs.Paper.Lists.{listed, over}
use Rattle.counting.specs.Places.{at}
use Rattle.counting.proofs.Writes.{listed-cong}
use Rattle.packed_word.specs.Paper.Packed.{pack}
use Rattle.packed_word.specs.Steps.{Unpacked}
use Rattle.packed_word.proofs.Packed.{bit-bit, pack-cong}
use Rattle.matrix.specs.Paper.Code.{Matrix, Word, weight, failing}
use Rattle.matrix.proofs.Rows.{failing-cong}
use Rattle.majority_votes.specs.Tallies.{Tallied}
use Rattle.iterative_levels.specs.Levels.{unbiased, Bounds, Moved, Biased, Restorable}
use Rattle.iterative_levels.proofs.Levels.{biased-le}
use Rattle.iterative_rounds.specs.Paper.Rounds.{State, round_of}
use Rattle.iterative_rounds.specs.Alike.{Alike}
use Rattle.iterative_rounds.specs.Runs.{state_of, Holds}
use Rattle.iterative_rounds.proofs.States.{holds-word, round-holds}
use Rattle.iterative_rounds.proofs.Runs.{holds-alike}
use Rattle.session.specs.Paper.Steps.{state_in}
use Rattle.session.specs.RoundParts.{RoundLent, RoundLeft}

-- the levels lent, kept as numbers, are in the bounds of a round
pub lent_bounds : (H : Matrix) (L : ℕ) (word : List ℕ) (levels : List ℤ) (cells kept : List ℕ) → RoundLent H L word levels
    → Biased H.n L levels cells kept → Bounds H.n (2 * L) kept
lent_bounds H L word levels cells kept p b =
    record {
      columns = p.matrix.sizes.n_most;
      levels = omega (arith, p.largest);
      within = λ j l. omega (arith, b.each j l, biased-le L (get_or levels j (pos 0)) (p.within j l));
    }

module _ (H : Matrix) (L : ℕ) (word : List ℕ) (levels : List ℤ) (p : RoundLent H L word levels) (zeros bits cells kept votes : List ℕ) (f : ℕ)
    (u : Unpacked H.n word zeros bits) (b : Biased H.n L levels cells kept) (t : Tallied H (at bits) votes f) where
  -- the arrays hold what is lent
  holds-lent : Holds H.n L bits kept (state_in word levels)
  holds-lent =
      record {
        long_word = u.long;
        long_levels = b.long;
        word = u.each;
        bit = λ j l. bit-bit word j;
        levels = b.each;
        within = p.within;
      }

  module _ (bits' kept' : List ℕ) (m : Moved votes (weight H) H.n L (2 * L) bits kept bits' kept') where
    -- and then the state after a round
    holds-next : Holds H.n L bits' kept' (round_of H L (state_in word levels))
    holds-next = round-holds H p.matrix.rows L (state_in word levels) votes bits kept bits' kept' holds-lent t.each m

    -- the bits after the round are a word
    pub next_word : Word H (at bits')
    next_word = holds-word H L bits' kept' (round_of H L (state_in word levels)) holds-next

    -- and its levels can be written back
    pub next-restorable : Restorable H.n L kept' levels
    next-restorable =
        record {
          columns = p.matrix.sizes.n_most;
          room = p.room;
          largest = p.largest;
          within = λ j l. omega (arith, holds-next.levels j l, biased-le L ((round_of H L (state_in word levels)).R j) (holds-next.within j l));
        }

    -- what is packed, stored and counted of them is what the round leaves
    pub round-left : (word' : List ℕ) (levels' : List ℤ) (f' : ℕ) → word' ≡ over (pack H.n (at bits')) word
        → levels' ≡ over (listed H.n (unbiased L kept')) levels → f' ≡ failing H (at bits') → RoundLeft H L word word' levels levels' f'
    unfolding state_of
    round-left word' levels' f' e q r =
        let s : State = round_of H L (state_in word levels) in
        let a : Alike H.n (state_of L bits' kept') s = holds-alike H.n L bits' kept' s holds-next in
        record {
          packed = e ∙ ap (λ (x : List ℕ). over x word) (pack-cong H.n (at bits') s.z a.word);
          stored = q ∙ ap (λ (x : List ℤ). over x levels) (listed-cong H.n (unbiased L kept') s.R a.levels);
          fails = r ∙ failing-cong H p.matrix.rows (at bits') s.z a.word;
        }
