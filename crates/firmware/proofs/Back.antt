-- Counts and levels are read back from the bytes that a call leaves.
--   read-back   == from the report and the levels of a call that is not refused
-- Assumes nothing.
use mathlib.Core.Path.{◌≡◌, ap, ap₂, ◌∙◌}
use mathlib.Core.Bool.{not}
use mathlib.Core.List.{List}
use Prim.Native.Nat.{ℕ, ◌+◌, ◌*◌, ◌≤◌, ◌<◌}
use native.Mathlib.Omega.{arith}
use borrow.Author.Tests.{not-false}
use lib.IntN.{pos, nat_abs}
use lib.ListN.{length, get_or}
use Rattle.counting.specs.Paper.Lists.{over}
use Rattle.counting.proofs.Writes.{get_or-listed, get_or-over-new}
use Rattle.answers.specs.Paper.Answers.{Verdict, accepted, outcome_by, written}
use Rattle.answers.proofs.Verdicts.{passed, passed_on}
use Rattle.byte_numbers.specs.Paper.Numbers.{number16, samples_in}
use Rattle.matrix.specs.Paper.Code.{Matrix, failing}
use Rattle.quantiser_levels.specs.Paper.Samples.{Setting, setting_fits, most_level, largest, hard_bit}
use Rattle.quantiser_settings.proofs.Ranges.{fits-reads, largest-most}
use Rattle.iterative_changed.specs.Paper.Changed.{decided_in, changed}
use Rattle.iterative_core.specs.Paper.Iterative.{start_of, end_from, report_at, iterative_levels}
use Rattle.iterative_core.proofs.Results.{end-bound}
use Rattle.firmware_codes.specs.Paper.Codes.{report_bytes, level_bytes, level_in}
use Rattle.firmware_codes.proofs.Tells.{report-back, level-bytes-back}
use Rattle.firmware_asking.specs.Paper.Asked.{face_check, bytes_verdict, face_verdict}
use Rattle.firmware_decoding.specs.Paper.Said.{face_report}
use Rattle.firmware.specs.Paper.Face.{FacedAs}
use Rattle.firmware.specs.Paper.Claims.{ReadBack}
use Rattle.firmware_decoding.proofs.Answers.{levels-long}

-- a number at the front of a buffer that was written over
number-over : (new old : List ℕ) (i : ℕ) → i + 1 < length new → number16 (over new old) i ≡ number16 new i
unfolding number16
number-over new old i h =
    ap₂ (λ (a b : ℕ). a + 256 * b) (get_or-over-new new old i 0 (omega arith)) (get_or-over-new new old (i + 1) 0 h)

module _ (H : Matrix) (S : Setting) (xs : List ℕ) where
  -- a level at the front of a buffer that was written over
  level-over : (old : List ℕ) (j : ℕ) → largest S.bits ≤ most_level → j < H.n
      → level_in (number16 (over (level_bytes (iterative_levels H S (samples_in xs))) old) (2 * j)) ≡ (end_from H S (samples_in xs)).last.R j
  unfolding iterative_levels
  level-over old j few h =
      let Ls = iterative_levels H S (samples_in xs) in
      let R = (end_from H S (samples_in xs)).last.R in
      let b = level-bytes-back Ls in
      let own : get_or Ls j (pos 0) ≡ R j = get_or-listed H.n R j (pos 0) h in
      let long = levels-long H S (samples_in xs) in
      ap level_in (number-over (level_bytes Ls) old (2 * j) (omega (arith, long, b.long)))
      ∙ b.back j (omega (arith, long)) (omega (arith, ap nat_abs own, end-bound H S (samples_in xs) j)) ∙ own

  -- what a call that is not refused leaves
  pub read_back : {bs w w' ls ls' p p' : List ℕ} {r : ℕ} → FacedAs H bs S xs r w w' ls ls' p p'
      → face_verdict H bs S xs (length w) (length ls) (length p) ≡ accepted → ReadBack H S (samples_in xs) ls' p'
  unfolding face_verdict bytes_verdict face_report report_at start_of
  read_back {bs} {w} {w'} {ls} {ls'} {p} {p'} f e =
      let t = end_from H S (samples_in xs) in
      let rep = report_at H (start_of S (samples_in xs)) t in
      let v = passed_on (face_check H bs) (bytes_verdict H.n S xs (length w) (length ls) (length p)) e in
      let y = not-false (setting_fits S) (passed (not (setting_fits S)) 6 0 _ v.1).0 in
      let l : ls' ≡ over (level_bytes (iterative_levels H S (samples_in xs))) ls =
      f.levels ∙ ap (λ (u : Verdict). written u (level_bytes (iterative_levels H S (samples_in xs))) ls) e in
      let q : p' ≡ over (report_bytes rep) p = f.report ∙ ap (λ (u : Verdict). written u (report_bytes rep) p) e in
      let turned : ℕ = changed H.n (decided_in (start_of S (samples_in xs)).R) t.last.z (hard_bit (samples_in xs)) in
      let back = report-back (outcome_by (failing H t.last.z)) t.k (failing H t.last.z) turned in
      record {
        levels = λ j h. ap (λ (x : List ℕ). level_in (number16 x (2 * j))) l ∙ level-over ls j (largest-most S.bits (fits-reads S y).most) h;
        rounds = ap (λ (x : List ℕ). number16 x 0) q ∙ number-over (report_bytes rep) p 0 (omega arith) ∙ back.rounds;
        failing = ap (λ (x : List ℕ). number16 x 2) q ∙ number-over (report_bytes rep) p 2 (omega arith) ∙ back.failing;
        changed = ap (λ (x : List ℕ). number16 x 4) q ∙ number-over (report_bytes rep) p 4 (omega arith) ∙ back.changed;
        zero = ap (λ (x : List ℕ). number16 x 6) q ∙ number-over (report_bytes rep) p 6 (omega arith) ∙ back.zero;
      }
