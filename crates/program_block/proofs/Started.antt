-- What the samples of a block leave is the start of a decoder.
--   unwritten        == levels that nobody asks for: those of a buffer that there is not
--   opened           == that buffer with the levels of the samples
--   placed-started   == the arrays in which samples are placed are those of a started decoder
--   placed-marked    == and their marks are those of its levels and bits
--   block_refused    == a block with a sample that is not finite is answered with its refusal
--   block-lent       == the arrays of any other block may be lent to the rounds
--   block-bits       == the bits where these stop are bits
--   block-answered   == what is packed and counted there is the answer of the block
-- Assumes nothing.
use mathlib.Core.Path.{◌≡◌, refl, sym, ap, ap₂, ◌∙◌}
use mathlib.Core.List.{List}
use Prim.Native.Nat.{ℕ, ◌/◌, ◌≤◌, ◌<◌}
use native.Mathlib.Omega.{arith}
use lib.IntN.{ℤ, pos}
use lib.Ieee.{Float, nan}
use lib.ListN.{length, get_or, replicate, length-replicate}
use Rattle.counting.specs.Paper.Lists.{listed, over}
use Rattle.counting.specs.Paper.Search.{first}
use Rattle.counting.specs.Places.{at}
use Rattle.counting.proofs.Writes.{length-listed, get_or-listed, listed-cong, length_over, get_or-over-new, over-rest}
use Rattle.answers.specs.Paper.Answers.{Said, refusal, report, outcome_by}
use Rattle.packed_word.specs.Paper.Packed.{pack}
use Rattle.matrix.specs.Paper.Code.{Matrix}
use Rattle.byte_numbers.specs.Paper.Numbers.{samples_in, not_finite_in}
use Rattle.quantiser_bytes.proofs.Blocks.{place-of, samples-n, all-finite}
use Rattle.quantiser_levels.specs.Paper.Samples.{Setting, largest, level_of, levels_of, hard_bit}
use Rattle.quantiser_settings.proofs.Ranges.{level-bound, hard-bit-at}
use Rattle.quantiser_guess.specs.Placed.{Placed}
use Rattle.iterative_levels.specs.Levels.{biased}
use Rattle.iterative_changed.specs.Marks.{mark_of, marked_by, turned_below}
use Rattle.iterative_rounds.specs.Runs.{RunLent, RunLeft}
use Rattle.iterative_core.specs.Paper.Iterative.{start_of}
use Rattle.iterative_core.specs.Calls.{CallLent, Started}
use Rattle.iterative_core.proofs.Results.{level-at, run_lent, call-bits, call-decoded}
use Rattle.program_samples.specs.Taken.{Taken}
use Rattle.program_block.specs.Loans.{Whole, BlockAnswered}
use Rattle.program_block.proofs.Answers.{block-refuses, block-passes, answered-refused, answered}

-- the program writes no levels: the buffer that its answer does not show
pub unwritten : List ℤ
unwritten = replicate 1023 (pos 0)

-- that buffer with the levels of the samples
pub opened : Setting → List Float → List ℤ
opened S xs = over (levels_of S xs) unwritten

-- a cell that is written over
written : (n : ℕ) (f : ℕ → ℕ) (old new : List ℕ) → new ≡ over (listed n f) old → (j : ℕ) → j < n → at new j ≡ f j
written n f old new e j l =
    ap (λ (y : List ℕ). at y j) e ∙ get_or-over-new (listed n f) old j 0 (omega (arith, length-listed n f)) ∙ get_or-listed n f j 0 l

-- the array stays as long as it was
long : (n : ℕ) (f : ℕ → ℕ) (old new : List ℕ) → new ≡ over (listed n f) old → n ≤ 1023 → length old ≡ 1023 → length new ≡ 1023
long n f old new e few h = ap length e ∙ length_over (listed n f) old (omega (arith, length-listed n f)) ∙ h

module _ (S : Setting) (xs : List Float) (few : length xs ≤ 1023) (z z' x x' o o' : List ℕ) (p : Placed S xs z z' x x' o o') where
  abbrev level : ℕ → ℤ
  level j = level_of S (get_or xs j nan)

  -- the arrays are those of a started decoder
  pub placed-started : length z ≡ 1023 → length x ≡ 1023 → Started S xs unwritten (opened S xs) z z' x x'
  unfolding start_of opened
  placed-started hz hx =
      let kept : ℕ → ℕ = λ j. biased (largest S.bits) (level j) in
      record {
        levels = refl;
        holds = record {
          long_word = long (length xs) (hard_bit xs) z z' p.bits few hz;
          long_levels = long (length xs) kept x x' p.kept few hx;
          word = λ j l. written (length xs) (hard_bit xs) z z' p.bits j l;
          bit = λ j l. hard-bit-at xs j;
          levels = λ j l. written (length xs) kept x x' p.kept j l;
          within = λ j l. level-bound S (get_or xs j nan);
        };
        rest_word = λ j past. over-rest (length xs) (hard_bit xs) z z' p.bits 0 j past;
        rest_levels = λ j past. over-rest (length xs) kept x x' p.kept 0 j past;
      }

  -- and the marks those of its levels and bits
  pub placed-marked : o' ≡ over (listed (length xs) (marked_by (opened S xs) (at z'))) o
  unfolding opened
  placed-marked =
      p.marks
      ∙ ap (λ (y : List ℕ). over y o)
      (listed-cong (length xs) (λ j. mark_of (level j) (hard_bit xs j)) (marked_by (opened S xs) (at z')) (λ j l.
      ap₂ mark_of (sym (level-at S xs unwritten (opened S xs) refl j l)) (sym (written (length xs) (hard_bit xs) z z' p.bits j l))))

-- ---- the answer of a block whose samples are taken

module _ {H : Matrix} {S : Setting} {bs w : List ℕ} (whole : Whole H S bs w) {r : ℕ} {z z' x x' o o' : List ℕ} (t : Taken S bs H.n r z z' x x' o o') where
  -- refusal 8's place, as it is found in the bytes
  place_in : r ≡ first (not_finite_in bs) (length bs / 4)
  place_in = t.place ∙ sym (place-of bs)

  -- a sample is not finite
  pub block_refused : r < H.n → BlockAnswered H S bs (refusal 8 r) w w
  block_refused l = answered-refused H S bs r w (block-refuses H.n bs whole.bytes r place_in l)

  -- every sample is finite
  module _ (all : H.n ≤ r) (long_bits : length z ≡ 1023) (long_kept : length x ≡ 1023) where
    few : length (samples_in bs) ≤ 1023
    few = omega (arith, samples-n H.n bs whole.bytes, whole.decodable.matrix.sizes.n_most)

    lent : CallLent H S (samples_in bs) w unwritten
    unfolding unwritten
    lent =
        record {
          matrix = whole.decodable.matrix;
          setting = whole.decodable.setting;
          samples = samples-n H.n bs whole.bytes;
          each_finite = all-finite H.n bs whole.bytes r place_in all;
          room_word = whole.room;
          room_levels = omega (arith, length-replicate 1023 (pos 0), whole.decodable.matrix.sizes.n_most);
        }

    started : Started S (samples_in bs) unwritten (opened S (samples_in bs)) z z' x x'
    started = placed-started S (samples_in bs) few z z' x x' o o' (t.placed all) long_bits long_kept

    module _ {L : ℕ} (e : L ≡ largest S.bits) where
      -- the arrays may be lent to the rounds
      pub block-lent : RunLent H L z' x'
      block-lent = run_lent lent started e

      module _ {z'' x'' : List ℕ} {k f : ℕ} (ran : RunLeft H L S.limit z' x' z'' x'' k f) where
        -- the bits where they stop are bits
        pub block-bits : (j : ℕ) → j < H.n → at z'' j < 2
        block-bits = call-bits lent started e ran

        -- what is packed and counted there is the answer
        pub block-answered : {w' : List ℕ} {count : ℕ} {said : Said} → w' ≡ over (pack H.n (at z'')) w → count ≡ turned_below H.n (at o') (at z'')
            → said ≡ report (outcome_by f) k f count → BlockAnswered H S bs said w w'
        block-answered ew ec es =
            let marked = placed-marked S (samples_in bs) few z z' x x' o o' (t.placed all) in
            answered H S bs (block-passes H.n bs whole.bytes r place_in all) refl
            (call-decoded lent started e ran o (rw (samples-n H.n bs whole.bytes) at marked) ew refl ec es)
