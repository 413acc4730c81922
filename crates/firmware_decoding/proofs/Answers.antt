-- What a part of the face says and leaves.
--   levels-long        == iterative voting leaves n levels
--   levels-front       == they stand at the front of the array
--   decoded-out        == what the core leaves, its levels and its report as bytes
--   answered-refused   == a refusal keeps all three buffers
--   answered-stops     == so does a refusal by what is asked first
--   answered-next      == where what is asked first passes, what is asked next says
--   answered-by        == the same by an equal verdict
--   answered-list      == the same by an equal list
--   answered-decoded   == nothing is refused: what the core leaves, its levels and its report as bytes
-- Assumes nothing.
use mathlib.Core.Path.{◌≡◌, refl, sym, ap, subst, ◌∙◌}
use mathlib.Core.List.{List}
use Prim.Native.Nat.{ℕ}
use lib.IntN.{ℤ}
use lib.Ieee.{Float}
use lib.ListN.{length, take}
use Rattle.counting.specs.Paper.Lists.{over}
use Rattle.counting.proofs.Writes.{length-listed, take-over}
use Rattle.answers.specs.Paper.Answers.{Verdict, accepted, refused, and_then, Said, refusal}
use Rattle.byte_numbers.specs.Paper.Numbers.{samples_in}
use Rattle.matrix.specs.Paper.Code.{Matrix}
use Rattle.matrix.specs.Paper.Check.{check_of}
use Rattle.matrix.specs.Paper.Shapes.{matrix_of}
use Rattle.matrix.specs.declared.Shape.{Shape}
use Rattle.quantiser_levels.specs.Paper.Samples.{Setting}
use Rattle.iterative_core.specs.Paper.Iterative.{start_of, end_from, report_at, iterative_word, iterative_levels}
use Rattle.iterative_core.specs.Calls.{Decoded}
use Rattle.firmware_codes.specs.Paper.Codes.{report_bytes, level_bytes}
use Rattle.firmware_decoding.specs.Paper.Said.{face_report}
use Rattle.firmware_decoding.specs.Parts.{DecodedOut, Answered}

-- ---- the decoding of accepted samples

module _ (H : Matrix) (S : Setting) (xs : List Float) where
  -- there are n levels
  pub levels-long : length (iterative_levels H S xs) ≡ H.n
  unfolding iterative_levels
  levels-long = length-listed H.n (end_from H S xs).last.R

  -- they stand at the front of the array
  pub levels-front : (old new : List ℤ) → new ≡ over (iterative_levels H S xs) old → take H.n new ≡ iterative_levels H S xs
  levels-front old new e =
      ap (take H.n) e ∙ ap (λ (k : ℕ). take k (over (iterative_levels H S xs) old)) (sym levels-long) ∙ take-over (iterative_levels H S xs) old

  -- what the core leaves, its levels and its report as bytes
  pub decoded-out : {said : Said} {w w' ls ls' p p' : List ℕ} {old new : List ℤ} → Decoded H S xs said w w' old new
      → ls' ≡ over (level_bytes (take H.n new)) ls → p' ≡ over (report_bytes said) p → DecodedOut H S xs said w w' ls ls' p p'
  decoded-out {ls = ls} {p = p} {old = old} {new = new} d l r =
      record {
        answer = d.answer;
        word = d.word;
        levels = l ∙ ap (λ (x : List ℤ). over (level_bytes x) ls) (levels-front old new d.levels);
        report = r ∙ ap (λ (s : Said). over (report_bytes s) p) d.answer;
      }

-- ---- what a part says and leaves

module _ (H : Matrix) (S : Setting) (xs w ls p : List ℕ) where
  -- a refusal by what is asked first keeps them too
  pub answered-stops : (u v : Verdict) (k x : ℕ) → u ≡ refused k x → Answered (and_then u v) H S xs (refusal k x) w w ls ls p p
  answered-stops u v k x e = record { answer = rw e refl; word = rw e refl; levels = rw e refl; report = rw e refl }

  -- a refusal keeps all three buffers
  pub answered-refused : (v : Verdict) (k x : ℕ) (said : Said) → v ≡ refused k x → said ≡ refusal k x → Answered v H S xs said w w ls ls p p
  answered-refused v k x said e s = record { answer = s ∙ rw e refl; word = rw e refl; levels = rw e refl; report = rw e refl }

-- the same by an equal verdict
pub answered-by : {u v : Verdict} {H : Matrix} {S : Setting} {xs : List ℕ} {said : Said} {w w' ls ls' p p' : List ℕ} → u ≡ v
    → Answered v H S xs said w w' ls ls' p p' → Answered u H S xs said w w' ls ls' p p'
answered-by {u} {v} {H} {S} {xs} {said} {w} {w'} {ls} {ls'} {p} {p'} e a =
    subst (λ (x : Verdict). Answered x H S xs said w w' ls ls' p p') (sym e) a

-- where what is asked first passes, what is asked next says
pub answered-next : (u v : Verdict) {H : Matrix} {S : Setting} {xs : List ℕ} {said : Said} {w w' ls ls' p p' : List ℕ} → u ≡ accepted
    → Answered v H S xs said w w' ls ls' p p' → Answered (and_then u v) H S xs said w w' ls ls' p p'
answered-next u v e a = answered-by (ap (λ (x : Verdict). and_then x v) e) a

-- the same by an equal list
pub answered-list : (shape : Shape) (v : Verdict) {list list' : List ℕ} {S : Setting} {xs : List ℕ} {said : Said} {w w' ls ls' p p' : List ℕ} → list ≡ list'
    → Answered (and_then (check_of (matrix_of shape list)) v) (matrix_of shape list) S xs said w w' ls ls' p p'
    → Answered (and_then (check_of (matrix_of shape list')) v) (matrix_of shape list') S xs said w w' ls ls' p p'
answered-list shape v {S = S} {xs} {said} {w} {w'} {ls} {ls'} {p} {p'} e a =
    subst (λ (l : List ℕ). Answered (and_then (check_of (matrix_of shape l)) v) (matrix_of shape l) S xs said w w' ls ls' p p') e a

-- nothing is refused: the decoding of the samples that the bytes are
pub answered-decoded : {v : Verdict} {H : Matrix} {S : Setting} {bs : List ℕ} {xs : List Float} {said : Said} {w w' ls ls' p p' : List ℕ} → v ≡ accepted
    → xs ≡ samples_in bs → DecodedOut H S xs said w w' ls ls' p p' → Answered v H S bs said w w' ls ls' p p'
unfolding face_report
answered-decoded {H = H} {S = S} {w = w} {ls = ls} {p = p} e q d =
    answered-by e
    (record {
      answer = d.answer ∙ ap (λ (x : List Float). report_at H (start_of S x) (end_from H S x)) q;
      word = d.word ∙ ap (λ (x : List Float). over (iterative_word H S x) w) q;
      levels = d.levels ∙ ap (λ (x : List Float). over (level_bytes (iterative_levels H S x)) ls) q;
      report = d.report ∙ ap (λ (x : List Float). over (report_bytes (report_at H (start_of S x) (end_from H S x))) p) q;
    })
