-- Every level that a call with b up to 8 writes can be taken back.
--   listed_back                  == a list of levels up to the largest of such a width can
--   front-back                   == and so the same at the front of a buffer
--   wrote                        == what an accepted call leaves in a buffer
--   samples-few, columns-few, face-few, step-few   == an accepted call has at most 1,023 levels
--   quantiser-back               == the quantiser's levels
--   end_back                     == the levels at the end of iterative voting
--   iterative-back, indexed-back == so those of the whole call, with an index too
--   open-back                    == those of an opening
--   face-back                    == those of the C face
--   step_back                    == those of a step
-- Assumes nothing.
use mathlib.Core.Path.{◌≡◌, sym, ap, ◌∙◌}
use mathlib.Core.Bool.{not, ◌||◌}
use mathlib.Core.List.{List}
use Prim.Native.Nat.{ℕ, ◌≤◌, ◌<◌}
use native.Mathlib.Omega.{arith}
use borrow.Author.Tests.{ltb-false, not-false}
use lib.Dec.{ltb}
use lib.IntN.{ℤ, pos, nat_abs}
use lib.Ieee.{Float, nan}
use lib.ListN.{length, get_or, take}
use Rattle.counting.specs.Paper.Lists.{listed, over}
use Rattle.counting.proofs.Searches.{or_left}
use Rattle.counting.proofs.Writes.{length-listed, get_or-listed, take-over}
use Rattle.answers.specs.Paper.Answers.{Verdict, accepted, refuse_at, and_then, Said, written}
use Rattle.answers.proofs.Verdicts.{passed, passed_on}
use Rattle.byte_numbers.specs.Paper.Numbers.{samples_in}
use Rattle.packed_word.specs.Paper.Packed.{bytes_for}
use Rattle.matrix.specs.Paper.Code.{Matrix}
use Rattle.matrix.specs.Paper.Check.{sizes_fit, check_of}
use Rattle.matrix.proofs.PlainCheck.{sizes-say, accepted-is}
use Rattle.matrix_index_check.specs.Paper.Call.{indexed_verdict}
use Rattle.quantiser_levels.specs.Paper.Samples.{Setting, setting_fits, largest, level_of, levels_of, first_not_finite, too_short, quantise_verdict}
use Rattle.quantiser_settings.proofs.Ranges.{level-bound}
use Rattle.quantiser.specs.Paper.Call.{Quantised}
use Rattle.quantiser_widths.specs.Paper.Widths.{most_old, narrow_verdict}
use Rattle.quantiser_widths.proofs.Widths.{narrow_within}
use Rattle.iterative_rounds.proofs.Ends.{round-bound}
use Rattle.iterative_core.specs.Paper.Iterative.{start_of, end_from, iterative_verdict, iterative_levels}
use Rattle.iterative_core.specs.Paper.Call.{IterativeAnswered}
use Rattle.iterative_core.proofs.Results.{start-bound, end-bound}
use Rattle.iterative_indexed.specs.Paper.Call.{iterative_indexed_verdict, IterativeIndexedAnswered}
use Rattle.session_asking.specs.Paper.Asked.{Held, ended, open_verdict, unusable, step_verdict}
use Rattle.session.specs.Paper.Steps.{leave, opened_left, wrote_levels, open_of, state_in, stepped_state, stepped_left, step_of}
use Rattle.firmware_asking.specs.Paper.Asked.{face_check, face_verdict}
use Rattle.firmware.specs.Paper.Face.{FacedAs}
use Rattle.eight_bits.specs.Paper.Claims.{numbers_in}
use Rattle.eight_bits.proofs.Widths.{largest-eight}
use Rattle.eight_bits.proofs.Face.{numbers-read}

-- ---- levels up to the largest

module _ (b : ℕ) (eight : b ≤ 8) (n : ℕ) (R : ℕ → ℤ) (within : (j : ℕ) → nat_abs (R j) ≤ largest b) (room : ℕ) (few : n ≤ 1023) (fit : n ≤ room) where
  -- a list of levels up to the largest of such a width
  listed_back : narrow_verdict (listed n R) room ≡ accepted
  listed_back =
      let long = length-listed n R in
      let each : (j : ℕ) → j < length (listed n R) → nat_abs (get_or (listed n R) j (pos 0)) ≤ most_old =
      λ j l. rw (get_or-listed n R j (pos 0) (omega (arith, long))) (omega (arith, within j, largest-eight b eight)) in
      narrow_within (listed n R) room each (omega (arith, long)) (omega (arith, long))

  -- the same at the front of a buffer
  front-back : (old new : List ℤ) → new ≡ over (listed n R) old → narrow_verdict (take n new) room ≡ accepted
  front-back old new e =
      let front : take n new ≡ listed n R =
      ap (take n) e ∙ ap (λ (k : ℕ). take k (over (listed n R) old)) (sym (length-listed n R)) ∙ take-over (listed n R) old in
      ap (λ (ls : List ℤ). narrow_verdict ls room) front ∙ listed_back

-- what an accepted call leaves in a buffer
wrote : (new old : List ℤ) {v : Verdict} {new' : List ℤ} → v ≡ accepted → new' ≡ written v new old → new' ≡ over new old
wrote new old e q = q ∙ ap (λ (u : Verdict). written u new old) e

-- ---- calls with a setting

-- the quantiser takes at most 1,023 samples
samples-few : (S : Setting) (xs : List Float) (levels bytes : ℕ) → quantise_verdict S xs levels bytes ≡ accepted → length xs ≤ 1023
unfolding quantise_verdict
samples-few S xs levels bytes e =
    let p = passed (not (setting_fits S)) 6 0 _ e in
    let q = passed (too_short (length xs) levels bytes) 7 0 (refuse_at 8 (first_not_finite xs) (length xs) accepted) p.1 in
    ltb-false 1023 (length xs) (or_left (ltb 1023 (length xs)) (ltb levels (length xs) || ltb bytes (bytes_for (length xs))) q.0)

-- an accepted matrix has at most 1,023 columns
columns-few : (H : Matrix) (rest : Verdict) → and_then (check_of H) rest ≡ accepted → H.n ≤ 1023
columns-few H rest e = (accepted-is H (passed_on (check_of H) rest e).0).sizes.n_most

-- so has one that the C face accepts
face-few : (H : Matrix) (bs : List ℕ) (rest : Verdict) → and_then (face_check H bs) rest ≡ accepted → H.n ≤ 1023
unfolding face_check
face-few H bs rest e =
    let p = passed (not (sizes_fit H)) 1 0 _ (passed_on (face_check H bs) rest e).0 in
    (sizes-say H (not-false (sizes_fit H) p.0)).n_most

module _ (S : Setting) (eight : S.bits ≤ 8) where
  -- the quantiser's levels
  pub quantiser-back : (xs : List Float) (said : Verdict) (ls ls' : List ℤ) (w w' : List ℕ) (room : ℕ) → Quantised S xs said ls ls' w w' → said ≡ accepted
      → length xs ≤ room → narrow_verdict (take (length xs) ls') room ≡ accepted
  unfolding levels_of
  quantiser-back xs said ls ls' w w' room q e fit =
      let v = sym q.answer ∙ e in
      front-back S.bits eight (length xs) (λ j. level_of S (get_or xs j nan)) (λ j. level-bound S (get_or xs j nan)) room
      (samples-few S xs (length ls) (length w) v) fit ls ls' (wrote (levels_of S xs) ls v q.levels)

  -- those of iterative voting
  end_back : (H : Matrix) (xs : List Float) (room : ℕ) → H.n ≤ 1023 → H.n ≤ room → (ls ls' : List ℤ) → ls' ≡ over (iterative_levels H S xs) ls
      → narrow_verdict (take H.n ls') room ≡ accepted
  unfolding iterative_levels
  end_back H xs room few fit ls ls' e = front-back S.bits eight H.n (end_from H S xs).last.R (end-bound H S xs) room few fit ls ls' e

  -- the whole call
  pub iterative-back : (H : Matrix) (xs : List Float) (said : Said) (w w' : List ℕ) (ls ls' : List ℤ) (room : ℕ)
      → IterativeAnswered H S xs said w w' ls ls' → iterative_verdict H S xs (length w) (length ls) ≡ accepted → H.n ≤ room
      → narrow_verdict (take H.n ls') room ≡ accepted
  unfolding iterative_verdict
  iterative-back H xs said w w' ls ls' room a e fit =
      end_back H xs room (columns-few H _ e) fit ls ls' (wrote (iterative_levels H S xs) ls e a.levels)

  -- with an index too
  pub indexed-back : (H : Matrix) (x : List ℕ) (xs : List Float) (said : Said) (w w' : List ℕ) (ls ls' : List ℤ) (room : ℕ)
      → IterativeIndexedAnswered H x S xs said w w' ls ls' → iterative_indexed_verdict H x S xs (length w) (length ls) ≡ accepted → H.n ≤ room
      → narrow_verdict (take H.n ls') room ≡ accepted
  unfolding iterative_indexed_verdict indexed_verdict
  indexed-back H x xs said w w' ls ls' room a e fit =
      end_back H xs room (columns-few H _ e) fit ls ls' (wrote (iterative_levels H S xs) ls e a.levels)

  -- those of an opening
  pub open-back : (H : Matrix) (xs : List Float) (h : Held) (room : ℕ) → open_verdict H S xs h ≡ accepted → H.n ≤ room
      → narrow_verdict (wrote_levels H (open_of H S xs h)) room ≡ accepted
  unfolding open_of open_verdict iterative_verdict
  open-back H xs h room e fit =
      front-back S.bits eight H.n (start_of S xs).R (start-bound S xs) room
      (columns-few H _ e) fit h.levels _
      (ap (λ (v : Verdict). (leave v (opened_left H S xs h) h).held.levels) e)

  -- those of the C face
  pub face-back : (H : Matrix) (bs xs : List ℕ) (r : ℕ) (w w' ls ls' p p' : List ℕ) (room : ℕ) → FacedAs H bs S xs r w w' ls ls' p p'
      → face_verdict H bs S xs (length w) (length ls) (length p) ≡ accepted → H.n ≤ room → narrow_verdict (numbers_in H.n ls') room ≡ accepted
  unfolding face_verdict iterative_levels
  face-back H bs xs r w w' ls ls' p p' room f e fit =
      ap (λ (x : List ℤ). narrow_verdict x room) (numbers-read H bs S xs f e)
      ∙ listed_back S.bits eight H.n (end_from H S (samples_in xs)).last.R (end-bound H S (samples_in xs)) room
      (face-few H bs _ e) fit

-- ---- a step

step-few : (H : Matrix) (w : List ℕ) (o : List ℤ) (h : Held) → step_verdict H w o h ≡ accepted → H.n ≤ 1023
unfolding step_verdict
step-few H w o h e =
    let p = passed (unusable h.rec) 20 0 _ e in
    let q = passed (ended h.rec) 21 0 _ p.1 in
    columns-few H _ q.1

pub step_back : (H : Matrix) (w : List ℕ) (o : List ℤ) (h : Held) → h.rec.bits ≤ 8 → (room : ℕ) → step_verdict H w o h ≡ accepted → H.n ≤ room
    → narrow_verdict (take H.n (step_of H w o h).held.levels) room ≡ accepted
unfolding step_of
step_back H w o h eight room e fit =
    front-back h.rec.bits eight H.n (stepped_state H h).R (round-bound H (largest h.rec.bits) (state_in h.word h.levels)) room
    (step-few H w o h e) fit h.levels _ (ap (λ (v : Verdict). (leave v (stepped_left H w o h) h).held.levels) e)
