-- What the call says and leaves, by what its parts do.
--   answered-stands     == what is answered by a setting's stand-in is answered by the setting
--   answered-faced     == an answer and its returned number
-- Assumes nothing.
use mathlib.Core.Path.{◌≡◌, refl, ap, subst, ◌∙◌}
use mathlib.Core.Bool.{false}
use mathlib.Core.List.{List}
use Prim.Native.Nat.{ℕ}
use lib.ListN.{length}
use Rattle.counting.proofs.Searches.{cases}
use Rattle.answers.specs.Paper.Answers.{Verdict, accepted, refused, and_then, Said}
use Rattle.matrix.specs.Paper.Code.{Matrix}
use Rattle.quantiser_levels.specs.Paper.Samples.{Setting, setting_fits}
use Rattle.ffi_codes.specs.Settings.{StandsFor}
use Rattle.firmware_codes.specs.Paper.Codes.{result_of}
use Rattle.firmware_asking.specs.Paper.Asked.{face_check, bytes_verdict, face_verdict}
use Rattle.firmware_decoding.specs.Paper.Said.{face_of}
use Rattle.firmware.specs.Paper.Face.{FacedAs}
use Rattle.firmware_decoding.specs.Parts.{Answered}

-- ---- the setting's stand-in

-- a setting out of range is refused by 6, unless the matrix is refused
unfit-verdict : (H : Matrix) (bs : List ℕ) (S : Setting) (xs : List ℕ) (w l r : ℕ) → setting_fits S ≡ false
    → face_verdict H bs S xs w l r ≡ and_then (face_check H bs) (refused 6 0)
unfolding face_verdict bytes_verdict
unfit-verdict H bs S xs w l r n = rw n

-- which is a refusal
six : (v : Verdict) → (k : ℕ) × (x : ℕ) × (and_then v (refused 6 0) ≡ refused k x)
six accepted = (6, 0, refl)
six (refused k x) = (k, x, refl)

-- what a refusal says and leaves is a matter of the verdict alone
refused-alike : {u v : Verdict} {H : Matrix} {S T : Setting} {xs : List ℕ} {said : Said} {w w' ls ls' p p' : List ℕ} (k x : ℕ) → u ≡ refused k x
    → v ≡ refused k x → Answered u H T xs said w w' ls ls' p p' → Answered v H S xs said w w' ls ls' p p'
refused-alike {v = v} k x e q a =
    record {
      answer = a.answer ∙ rw (e, q) refl;
      word = a.word ∙ rw (e, q) refl;
      levels = a.levels ∙ rw (e, q) refl;
      report = a.report ∙ rw (e, q) refl;
    }

-- what is answered by a setting's stand-in is answered by the setting
pub answered-stands : (H : Matrix) (bs : List ℕ) (S T : Setting) → StandsFor S T → {xs : List ℕ} {said : Said} {w w' ls ls' p p' : List ℕ}
    → Answered (face_verdict H bs T xs (length w) (length ls) (length p)) H T xs said w w' ls ls' p p'
    → Answered (face_verdict H bs S xs (length w) (length ls) (length p)) H S xs said w w' ls ls' p p'
answered-stands H bs S T st {xs} {said} {w} {w'} {ls} {ls'} {p} {p'} a =
    cases (setting_fits S)
    (λ y. subst (λ (X : Setting). Answered (face_verdict H bs X xs (length w) (length ls) (length p)) H X xs said w w' ls ls' p p') (st.same y) a)
    (λ n.
    let f = six (face_check H bs) in
    refused-alike f.0 f.1 (unfit-verdict H bs T xs (length w) (length ls) (length p) (st.fits ∙ n) ∙ f.2)
    (unfit-verdict H bs S xs (length w) (length ls) (length p) n ∙ f.2) a)

-- an answer and its returned number
pub answered-faced : {H : Matrix} {bs : List ℕ} {S : Setting} {xs : List ℕ} {said : Said} {r : ℕ} {w w' ls ls' p p' : List ℕ}
    → Answered (face_verdict H bs S xs (length w) (length ls) (length p)) H S xs said w w' ls ls' p p' → r ≡ result_of said
    → FacedAs H bs S xs r w w' ls ls' p p'
unfolding face_of
answered-faced a e = record { result = e ∙ ap result_of a.answer; word = a.word; levels = a.levels; report = a.report }
