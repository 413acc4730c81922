-- The loop of `run`: what holds after k rounds, how a round carries it on, and what it says where the loop stops.
--   lent-holds     == arrays that are lent to the rounds hold the state that they stand for
--   holds-alike    == arrays that hold a state stand for one like it
--   alike-holds    == arrays that hold a state hold every state like it
--   lent_again     == arrays that hold a state may be lent to a round again
--   moved_word     == the bits after a pass are a word
--   Going          == what holds after k rounds of the loop
--   going-starts   == it holds before the first round
--   going-lent     == the arrays may then be lent to a round
--   going-ends     == where the loop stops, the arrays are as `run` leaves them
--   going_step     == where it does not, this holds after one round more
-- Assumes nothing.
use mathlib.Core.Path.{◌≡◌, refl, sym, ap, ◌∙◌}
use mathlib.Core.List.{List}
use Prim.Native.Nat.{ℕ, ◌+◌, ◌*◌, ◌≤◌, ◌<◌}
use native.Mathlib.Numerals.{add-one}
use native.Mathlib.Decide.{ℕ_discrete}
use native.Mathlib.Omega.{arith}
use lib.IntN.{sub_ℕ}
use Rattle.counting.proofs.Integers.{abs-sub}
use Rattle.counting.specs.Places.{at}
use Rattle.matrix.specs.Paper.Code.{Matrix, Word, weight, failing}
use Rattle.matrix.proofs.Rows.{failing-cong}
use Rattle.majority_votes.specs.Tallies.{Tallied}
use Rattle.iterative_rounds.specs.Paper.Rounds.{State}
use Rattle.iterative_levels.specs.Levels.{biased, unbiased, Moved}
use Rattle.iterative_rounds.specs.Paper.Ends.{state_at}
use Rattle.iterative_rounds.specs.Alike.{Alike}
use Rattle.iterative_rounds.specs.Runs.{state_of, Holds, RunLent, RunLeft}
use Rattle.iterative_levels.proofs.Levels.{biased-le, biased-back, back-biased, above-middle-bit}
use Rattle.iterative_rounds.proofs.Ends.{end-at}
use Rattle.iterative_rounds.proofs.States.{holds-word, round-holds}

-- ---- the state that arrays stand for

-- arrays that are lent to the rounds hold the state that they stand for
pub lent-holds : (H : Matrix) (L : ℕ) (z x : List ℕ) → RunLent H L z x → Holds H.n L z x (state_of L z x)
unfolding state_of unbiased Word
lent-holds H L z x r =
    record {
      long_word = r.long_word;
      long_levels = r.long_levels;
      word = λ j l. refl;
      bit = λ j l. r.word j l;
      levels = λ j l. sym (back-biased L (at x j));
      within = λ j l. abs-sub (at x j) L L (omega (arith, r.within j l)) (omega arith);
    }

-- arrays that hold a state stand for one like it
pub holds-alike : (n L : ℕ) (z x : List ℕ) (s : State) → Holds n L z x s → Alike n (state_of L z x) s
unfolding state_of unbiased
holds-alike n L z x s h =
    record { word = h.word; levels = λ j l. ap (λ (y : ℕ). sub_ℕ y L) (h.levels j l) ∙ biased-back L (s.R j) (h.within j l) }

-- arrays that hold a state hold every state like it
pub alike-holds : (n L : ℕ) (z x : List ℕ) (s t : State) → Holds n L z x s → Alike n s t → Holds n L z x t
alike-holds n L z x s t h a =
    record {
      long_word = h.long_word;
      long_levels = h.long_levels;
      word = λ j l. h.word j l ∙ a.word j l;
      bit = λ j l. rw (a.word j l) at (h.bit j l);
      levels = λ j l. h.levels j l ∙ ap (biased L) (a.levels j l);
      within = λ j l. rw (a.levels j l) at (h.within j l);
    }

-- they may be lent to a round again
pub lent_again : (H : Matrix) (L : ℕ) (z x : List ℕ) (s : State) (z₀ x₀ : List ℕ) → RunLent H L z₀ x₀ → Holds H.n L z x s → RunLent H L z x
lent_again H L z x s z₀ x₀ r h =
    record {
      matrix = r.matrix;
      largest = r.largest;
      long_word = h.long_word;
      long_levels = h.long_levels;
      word = holds-word H L z x s h;
      within = λ j l. omega (arith, h.levels j l, biased-le L (s.R j) (h.within j l));
    }

-- the bits after a pass are a word
pub moved_word : (H : Matrix) (v : List ℕ) (w : ℕ → ℕ) (L ceiling : ℕ) (z x z' x' : List ℕ) → Moved v w H.n L ceiling z x z' x' → Word H (at z')
unfolding Word
moved_word H v w L ceiling z x z' x' m j l = omega (arith, m.bits j l, above-middle-bit L (at x' j))

-- ---- the invariant

-- what holds after k rounds of the loop
pub record Going (H : Matrix) (L limit : ℕ) (z₀ x₀ z x v : List ℕ) (f k : ℕ) : Type 0 where
  pub within : k ≤ limit
  pub holds : Holds H.n L z x (state_at H L (state_of L z₀ x₀) k)
  pub tallied : Tallied H (at z) v f
  pub earlier : (t : ℕ) → t < k → 0 < failing H (state_at H L (state_of L z₀ x₀) t).z
  pub rest_word : (j : ℕ) → H.n ≤ j → at z j ≡ at z₀ j
  pub rest_levels : (j : ℕ) → H.n ≤ j → at x j ≡ at x₀ j

module _ (H : Matrix) (L limit : ℕ) (z₀ x₀ : List ℕ) (r : RunLent H L z₀ x₀) where
  -- it holds before the first round
  pub going-starts : (v : List ℕ) (f : ℕ) → Tallied H (at z₀) v f → Going H L limit z₀ x₀ z₀ x₀ v f 0
  unfolding state_at
  going-starts v f t =
      record {
        within = omega arith;
        holds = lent-holds H L z₀ x₀ r;
        tallied = t;
        earlier = λ i h. absurd (omega arith);
        rest_word = λ j past. refl;
        rest_levels = λ j past. refl;
      }

  module _ (z x v : List ℕ) (f k : ℕ) (g : Going H L limit z₀ x₀ z x v f k) where
    now-fails : f ≡ failing H (state_at H L (state_of L z₀ x₀) k).z
    now-fails = g.tallied.count ∙ failing-cong H r.matrix.rows (at z) (state_at H L (state_of L z₀ x₀) k).z g.holds.word

    -- the arrays may then be lent to a round
    pub going-lent : RunLent H L z x
    going-lent = lent_again H L z x (state_at H L (state_of L z₀ x₀) k) z₀ x₀ r g.holds

    -- the loop stops here
    pub going-ends : (0 < f → k ≡ limit) → RunLeft H L limit z₀ x₀ z x k f
    going-ends stop =
        record {
          stopped = rw (end-at H L limit k (state_of L z₀ x₀) g.within g.earlier (λ h. stop (omega (arith, now-fails))))
              (record { holds = g.holds; rounds = refl; fails = now-fails });
          rest_word = g.rest_word;
          rest_levels = g.rest_levels;
        }

    -- one round more
    pub going_step : 0 < f → k < limit → (z' x' v' : List ℕ) (f' : ℕ) → Moved v (weight H) H.n L (2 * L) z x z' x' → Tallied H (at z') v' f'
        → Going H L limit z₀ x₀ z' x' v' f' (k + 1)
    unfolding state_at
    going_step h l z' x' v' f' m t =
        rw (add-one k)
        (record {
          within = omega arith;
          holds = round-holds H r.matrix.rows L (state_at H L (state_of L z₀ x₀) k) v z x z' x' g.holds g.tallied.each m;
          tallied = t;
          earlier = λ i q. elim (ℕ_discrete i k) [ yes e ↦ rw e (omega (arith, now-fails)) | no ne ↦ g.earlier i (omega arith) ];
          rest_word = λ j past. m.rest_word j past ∙ g.rest_word j past;
          rest_levels = λ j past. m.rest_levels j past ∙ g.rest_levels j past;
        })
