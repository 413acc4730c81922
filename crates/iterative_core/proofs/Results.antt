-- From the samples to the arrays of a running decoder, and from where it stops to what is written and counted.
--   level-at          == the level of sample j stands at place j
--   levels-length     == filling the levels leaves their buffer as long as it was
--   filled-bounded    == the levels filled lie from -L to L, so they can be kept as numbers
--   filled-started    == the levels kept as numbers and the hard bits are those of a started decoder
--   start-bound       == the levels at the start lie from -L to L
--   states-bound      == so do those after k rounds
--   end-bound         == so do those at the end
--   run_lent          == the arrays of a call may be lent to the rounds
--   call-bits         == the bits where the decoder stops are bits
--   call-restorable   == the levels where it stops can be written back
--   call-decoded      == what is packed, stored and counted by the marks of the start is what the call leaves
-- Assumes nothing.
use mathlib.Core.Path.{◌≡◌, sym, ap, ◌∙◌}
use mathlib.Core.Bool.{true}
use mathlib.Core.List.{List}
use Prim.Native.Nat.{ℕ, ◌≤◌, ◌<◌}
use native.Mathlib.Omega.{arith}
use lib.IntN.{ℤ, pos, nat_abs}
use lib.Ieee.{Float, nan}
use lib.ListN.{length, get_or}
use Rattle.counting.specs.Paper.Lists.{listed, over}
use Rattle.counting.specs.Places.{at}
use Rattle.counting.proofs.Writes.{length-listed, get_or-listed, listed-cong, length_over, get_or-over-new, over-over}
use Rattle.answers.specs.Paper.Answers.{Said, report, outcome_by}
use Rattle.packed_word.specs.Paper.Packed.{pack}
use Rattle.packed_word.proofs.Packed.{pack-cong}
use Rattle.matrix.specs.Paper.Code.{Matrix}
use Rattle.quantiser_levels.specs.Paper.Samples.{Setting, setting_fits, largest, level_of, levels_of}
use Rattle.quantiser.specs.Buffers.{Filled}
use Rattle.quantiser_settings.proofs.Ranges.{fits-reads, largest-most, level-bound, hard-bit-at}
use Rattle.iterative_levels.specs.Levels.{biased, unbiased, Bounded, Biased, Restorable}
use Rattle.iterative_levels.proofs.Levels.{biased-le}
use Rattle.iterative_changed.specs.Paper.Changed.{decided, decided_in, changed, level_at}
use Rattle.iterative_changed.specs.Marks.{marked_by, turned_below}
use Rattle.iterative_changed.proofs.Changes.{changed-cong}
use Rattle.iterative_changed.proofs.Marks.{marks-changed}
use Rattle.iterative_rounds.specs.Paper.Rounds.{end_of}
use Rattle.iterative_core.specs.Paper.Iterative.{start_of, end_from, report_at, iterative_word, iterative_levels}
use Rattle.iterative_rounds.specs.Paper.Ends.{state_at}
use Rattle.iterative_rounds.specs.Alike.{Alike, AlikeEnds}
use Rattle.iterative_rounds.specs.Runs.{state_of, Holds, RunLent, Stopped, RunLeft}
use Rattle.iterative_core.specs.Calls.{CallLent, Started, Decoded}
use Rattle.iterative_rounds.proofs.Ends.{levels-bound, end-state, ends-alike, failing-alike-end}
use Rattle.iterative_rounds.proofs.States.{holds-word}
use Rattle.iterative_rounds.proofs.Runs.{holds-alike, alike-holds}

-- ---- step 1

module _ (S : Setting) (xs : List Float) (ls ls' : List ℤ) where
  -- the level of sample j stands at place j
  pub level-at : ls' ≡ over (levels_of S xs) ls → (j : ℕ) → j < length xs → get_or ls' j (pos 0) ≡ level_of S (get_or xs j nan)
  unfolding levels_of
  level-at e j l =
      let f : ℕ → ℤ = λ j. level_of S (get_or xs j nan) in
      ap (λ (x : List ℤ). get_or x j (pos 0)) e
      ∙ get_or-over-new (listed (length xs) f) ls j (pos 0) (omega (arith, length-listed (length xs) f))
      ∙ get_or-listed (length xs) f j (pos 0) l

  -- filling the levels leaves their buffer as long as it was
  pub levels-length : ls' ≡ over (levels_of S xs) ls → length xs ≤ length ls → length ls' ≡ length ls
  unfolding levels_of
  levels-length e h =
      let f : ℕ → ℤ = λ j. level_of S (get_or xs j nan) in
      ap length e ∙ length_over (listed (length xs) f) ls (omega (arith, length-listed (length xs) f))

  -- so the levels can be kept
  pub filled-bounded : setting_fits S ≡ true → length xs ≤ 1023 → length xs ≤ length ls → ls' ≡ over (levels_of S xs) ls
      → Bounded (length xs) (largest S.bits) ls'
  filled-bounded fits few room e =
      record {
        columns = few;
        room = omega (arith, levels-length e room);
        largest = largest-most S.bits (fits-reads S fits).most;
        within = λ j l. rw (level-at e j l) (level-bound S (get_or xs j nan));
      }

  -- the levels kept as numbers and the hard bits are those of a started decoder
  pub filled-started : (z₀ z x₀ x : List ℕ) → Filled S xs ls ls' z₀ z → Biased (length xs) (largest S.bits) ls' x₀ x → Started S xs ls ls' z₀ z x₀ x
  unfolding start_of
  filled-started z₀ z x₀ x f b =
      record {
        levels = f.levels;
        holds = record {
          long_word = f.long;
          long_levels = b.long;
          word = f.each;
          bit = λ j l. hard-bit-at xs j;
          levels = λ j l. b.each j l ∙ ap (biased (largest S.bits)) (level-at f.levels j l);
          within = λ j l. level-bound S (get_or xs j nan);
        };
        rest_word = f.rest;
        rest_levels = b.rest;
      }

-- ---- the levels of every state, from samples on

-- the levels at the start lie from -L to L
pub start-bound : (S : Setting) (xs : List Float) (j : ℕ) → nat_abs ((start_of S xs).R j) ≤ largest S.bits
unfolding start_of
start-bound S xs j = level-bound S (get_or xs j nan)

-- so do those after k rounds
pub states-bound : (H : Matrix) (S : Setting) (xs : List Float) (k j : ℕ) → nat_abs ((state_at H (largest S.bits) (start_of S xs) k).R j) ≤ largest S.bits
states-bound H S xs k j = levels-bound H (largest S.bits) (start_of S xs) j (start-bound S xs j) k

-- so do those at the end
pub end-bound : (H : Matrix) (S : Setting) (xs : List Float) (j : ℕ) → nat_abs ((end_from H S xs).last.R j) ≤ largest S.bits
unfolding end_from
end-bound H S xs j =
    rw (end-state H (largest S.bits) S.limit (start_of S xs)) (states-bound H S xs (end_of H (largest S.bits) 0 S.limit (start_of S xs)).k j)

-- ---- the whole of an accepted call

module _ (H : Matrix) (S : Setting) (xs : List Float) (w : List ℕ) (ls : List ℤ) (lent : CallLent H S xs w ls) (ls₁ : List ℤ) (z x : List ℕ)
    {z₀ x₀ : List ℕ} (start : Started S xs ls ls₁ z₀ z x₀ x) where
  -- the arrays hold the start
  holds-start : Holds H.n (largest S.bits) z x (start_of S xs)
  holds-start = rw lent.samples at start.holds

  start-lent : RunLent H (largest S.bits) z x
  start-lent =
      let h = holds-start in
      record {
        matrix = lent.matrix;
        largest = largest-most S.bits (fits-reads S lent.setting).most;
        long_word = h.long_word;
        long_levels = h.long_levels;
        word = holds-word H (largest S.bits) z x (start_of S xs) h;
        within = λ j l. omega (arith, h.levels j l, biased-le (largest S.bits) ((start_of S xs).R j) (h.within j l));
      }

  -- the levels written are those of the start
  level-start : (j : ℕ) → j < H.n → level_at ls₁ j ≡ (start_of S xs).R j
  unfolding start_of
  level-start j l = level-at S xs ls ls₁ start.levels j (omega (arith, lent.samples))

  start-bits : (j : ℕ) → j < H.n → at z j < 2
  start-bits j l = omega (arith, holds-start.word j l, holds-start.bit j l)

  module _ (z' x' : List ℕ) (k f : ℕ) (ran : RunLeft H (largest S.bits) S.limit z x z' x' k f) where
    -- where the rounds stop is the end of the list from the samples
    stopped : Stopped H (largest S.bits) (end_from H S xs) z' x' k f
    unfolding end_from
    stopped =
        let L = largest S.bits in
        let rows = lent.matrix.rows in
        let like : Alike H.n (state_of L z x) (start_of S xs) = holds-alike H.n L z x (start_of S xs) holds-start in
        let e : AlikeEnds H.n (end_of H L 0 S.limit (state_of L z x)) (end_of H L 0 S.limit (start_of S xs)) = ends-alike H L rows 0 S.limit
        (state_of L z x) (start_of S xs) like in
        record {
          holds = alike-holds H.n L z' x' _ _ ran.stopped.holds e.last;
          rounds = ran.stopped.rounds ∙ e.rounds;
          fails = ran.stopped.fails ∙ failing-alike-end H L rows 0 S.limit (state_of L z x) (start_of S xs) like;
        }

    stop-bits : (j : ℕ) → j < H.n → at z' j < 2
    stop-bits j l = omega (arith, stopped.holds.word j l, stopped.holds.bit j l)

    stop-restorable : Restorable H.n (largest S.bits) x' ls₁
    stop-restorable =
        record {
          columns = lent.matrix.sizes.n_most;
          room = omega (arith, levels-length S xs ls ls₁ start.levels (omega (arith, lent.samples, lent.room_levels)), lent.room_levels);
          largest = largest-most S.bits (fits-reads S lent.setting).most;
          within = λ j l. omega (arith, stopped.holds.levels j l, biased-le (largest S.bits) ((end_from H S xs).last.R j) (stopped.holds.within j l));
        }

    -- the levels that the arrays keep are those at the end
    level-back : (j : ℕ) → j < H.n → unbiased (largest S.bits) x' j ≡ (end_from H S xs).last.R j
    unfolding state_of
    level-back j l = (holds-alike H.n (largest S.bits) z' x' (end_from H S xs).last stopped.holds).levels j l

    level-count : (f : ℕ → ℤ) → length (listed H.n f) ≡ length (levels_of S xs)
    unfolding levels_of
    level-count f = length-listed H.n f ∙ sym lent.samples ∙ sym (length-listed (length xs) (λ j. level_of S (get_or xs j nan)))

    -- the answer, the word and the levels
    counted : (old marks : List ℕ) → marks ≡ over (listed H.n (marked_by ls₁ (at z))) old
        → turned_below H.n (at marks) (at z') ≡ changed H.n (decided_in (start_of S xs).R) (end_from H S xs).last.z (start_of S xs).z
    counted old marks e =
        marks-changed H.n ls₁ (at z) (at z') old marks e start-bits stop-bits
        ∙ changed-cong H.n (λ j l. ap decided (level-start j l)) stopped.holds.word holds-start.word

    reported : (count : ℕ) (said : Said)
        → count ≡ changed H.n (decided_in (start_of S xs).R) (end_from H S xs).last.z (start_of S xs).z → said ≡ report (outcome_by f) k f count
        → said ≡ report_at H (start_of S xs) (end_from H S xs)
    unfolding report_at
    reported count said ec es = rw (es, ec, stopped.fails, stopped.rounds)

    word-written : (w' : List ℕ) → w' ≡ over (pack H.n (at z')) w → w' ≡ over (iterative_word H S xs) w
    unfolding iterative_word
    word-written w' e = e ∙ ap (λ (a : List ℕ). over a w) (pack-cong H.n (at z') (end_from H S xs).last.z stopped.holds.word)

    levels-written : (ls' : List ℤ) → ls' ≡ over (listed H.n (unbiased (largest S.bits) x')) ls₁ → ls' ≡ over (iterative_levels H S xs) ls
    unfolding iterative_levels
    levels-written ls' e =
        let u : ℕ → ℤ = unbiased (largest S.bits) x' in
        e
        ∙ ap (over (listed H.n u)) start.levels
        ∙ over-over (listed H.n u) (levels_of S xs) ls (level-count u)
        ∙ ap (λ (a : List ℤ). over a ls) (listed-cong H.n u (end_from H S xs).last.R level-back)

    decoded : (old marks w' : List ℕ) (ls' : List ℤ) (count : ℕ) (said : Said) → marks ≡ over (listed H.n (marked_by ls₁ (at z))) old
        → w' ≡ over (pack H.n (at z')) w → ls' ≡ over (listed H.n (unbiased (largest S.bits) x')) ls₁
        → count ≡ turned_below H.n (at marks) (at z')
        → said ≡ report (outcome_by f) k f count → Decoded H S xs said w w' ls ls'
    decoded old marks w' ls' count said em ew el ec es =
        record {
          answer = reported count said (ec ∙ counted old marks em) es;
          word = word-written w' ew;
          levels = levels-written ls' el;
        }

-- ---- the same for a caller that knows the largest level by another name

module _ {H : Matrix} {S : Setting} {xs : List Float} {w : List ℕ} {ls ls₁ : List ℤ} {z₀ z x₀ x : List ℕ} {L : ℕ}
    (lent : CallLent H S xs w ls) (start : Started S xs ls ls₁ z₀ z x₀ x) (e : L ≡ largest S.bits) where
  -- the arrays of a call may be lent to the rounds
  pub run_lent : RunLent H L z x
  run_lent = rw e (start-lent H S xs w ls lent ls₁ z x start)

  module _ {z' x' : List ℕ} {k f : ℕ} (ran : RunLeft H L S.limit z x z' x' k f) where
    by-largest : RunLeft H (largest S.bits) S.limit z x z' x' k f
    by-largest = rw e at ran

    -- the bits where the decoder stops are bits
    pub call-bits : (j : ℕ) → j < H.n → at z' j < 2
    call-bits = stop-bits H S xs w ls lent ls₁ z x start z' x' k f by-largest

    -- the levels where it stops can be written back
    pub call-restorable : Restorable H.n L x' ls₁
    call-restorable = rw e (stop-restorable H S xs w ls lent ls₁ z x start z' x' k f by-largest)

    -- what is packed, stored and counted by the marks of the start is what the call leaves
    pub call-decoded : (old : List ℕ) {marks w' : List ℕ} {ls' : List ℤ} {count : ℕ} {said : Said}
        → marks ≡ over (listed H.n (marked_by ls₁ (at z))) old
        → w' ≡ over (pack H.n (at z')) w
        → ls' ≡ over (listed H.n (unbiased L x')) ls₁
        → count ≡ turned_below H.n (at marks) (at z')
        → said ≡ report (outcome_by f) k f count → Decoded H S xs said w w' ls ls'
    call-decoded old {marks} {w'} {ls'} {count} {said} em ew el = decoded H S xs w ls lent ls₁ z x start z' x' k f by-largest old marks w' ls'
        count said em ew (rw e at el)
