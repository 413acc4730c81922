-- What the returned number and the report tell.
--   face-told           == every answer is decoded, failed or one of the refusals 1 to 8, its place of 16 bits
--   face-tells          == different ends of two calls give different returned numbers
--   face-answer-tells   == and with the reports' bytes different answers are told apart
-- Assumes nothing.
use mathlib.Core.Path.{◌≡◌, refl, ap, ◌∙◌}
use mathlib.Core.Bool.{Bool, true, false, not, cond}
use mathlib.Core.List.{List}
use Prim.Native.Nat.{ℕ, ◌*◌, ◌≤◌, ◌<◌}
use native.Mathlib.Omega.{arith}
use borrow.Author.Tests.{ltb-true, eqb-true, not-false}
use lib.Dec.{eqb, ltb}
use lib.ListN.{length}
use Rattle.counting.proofs.Searches.{or_left}
use Rattle.counting.specs.Paper.Search.{first}
use Rattle.answers.specs.Paper.Answers.{Verdict, accepted, refused, refuse_if, and_then, wrong_lengths, Said, outcome_by, after}
use Rattle.answers.proofs.Verdicts.{passed, lengths-fit}
use Rattle.packed_word.specs.Paper.Packed.{bytes_for}
use Rattle.byte_numbers.specs.Paper.Numbers.{entries_in, samples_in}
use Rattle.quantiser_bytes.proofs.Blocks.{samples-n}
use Rattle.matrix.specs.Paper.Code.{Matrix, failing}
use Rattle.matrix.specs.Paper.Check.{sizes_fit, bad_entry, bad_weight, no_least, overlapping, list_of}
use Rattle.matrix.specs.Paper.PlainCheck.{Sizes}
use Rattle.matrix.proofs.PlainCheck.{sizes-say}
use Rattle.matrix.proofs.Rows.{few-entries}
use Rattle.quantiser_levels.specs.Paper.Samples.{Setting, setting_fits, first_not_finite}
use Rattle.iterative_core.specs.Paper.Iterative.{end_from, report_at}
use Rattle.firmware_codes.specs.Paper.Claims.{Told}
use Rattle.firmware_codes.proofs.Tells.{result-tells, answer-tells}
use Rattle.firmware_asking.specs.Paper.Asked.{face_matrix, face_check, wrong_bytes, bytes_verdict, face_verdict}
use Rattle.firmware_decoding.specs.Paper.Said.{face_report, face_of}
use Rattle.firmware.specs.Paper.Claims.{said_to, FaceTold, FaceTells, FaceAnswerTells}
use Rattle.firmware_asking.proofs.Questions.{entries-whole}

-- ---- a verdict whose number is 1 to 8 and whose place has 16 bits

abbrev Fits : Verdict → Type 0
Fits accepted = Unit {0}
Fits (refused k x) = (1 ≤ k) × (k ≤ 8) × (x < 65536)

fits-if : (t : Bool) (k x : ℕ) (v : Verdict) → (t ≡ true → (1 ≤ k) × (k ≤ 8) × (x < 65536)) → (t ≡ false → Fits v) → Fits (refuse_if t k x v)
fits-if true k x v f g = f refl
fits-if false k x v f g = g refl

-- a refusal without a place
fits-when : (t : Bool) (k : ℕ) (v : Verdict) → (1 ≤ k) × (k ≤ 8) → (t ≡ false → Fits v) → Fits (refuse_if t k 0 v)
fits-when t k v h g = fits-if t k 0 v (λ e. (h.0, h.1, omega arith)) g

-- a refusal at a place below a bound
fits-at : (k x b : ℕ) (v : Verdict) → (1 ≤ k) × (k ≤ 8) → b < 65536 → Fits v → Fits (refuse_if (ltb x b) k x v)
fits-at k x b v h few g = fits-if (ltb x b) k x v (λ e. (h.0, h.1, omega (arith, ltb-true x b e))) (λ e. g)

fits-then : (u v : Verdict) → Fits u → (u ≡ accepted → Fits v) → Fits (and_then u v)
fits-then accepted v f g = g refl
fits-then (refused k x) v f g = f

-- ---- the face's verdict

module _ (H : Matrix) (bs : List ℕ) (entries : H.list ≡ entries_in bs) where
  list-fits : Sizes H → length H.list ≡ H.m * H.rho → Fits (list_of H)
  unfolding list_of
  list-fits s e =
      fits-at 3 (first (bad_entry H) (length H.list)) (length H.list) _ (omega arith, omega arith) (omega (arith, few-entries H s))
      (fits-at 4 (first (bad_weight H) H.n) H.n _ (omega arith, omega arith) (omega (arith, s.n_most))
      (fits-if (no_least H) 4 H.n _ (λ t. (omega arith, omega arith, omega (arith, s.n_most)))
      (λ t. fits-at 5 (first (overlapping H) H.m) H.m accepted (omega arith, omega arith) (omega (arith, s.m_most)) tt)))

  check-fits : Fits (face_check H bs)
  unfolding face_check
  check-fits =
      fits-when (not (sizes_fit H)) 1 _ (omega arith, omega arith)
      (λ y. fits-when (not (eqb (length bs) (2 * (H.m * H.rho)))) 2 _ (omega arith, omega arith)
      (λ q. list-fits (sizes-say H (not-false _ y))
      (ap length entries ∙ entries-whole bs (H.m * H.rho) (eqb-true _ _ (not-false _ q)))))

-- the sizes of a matrix that the face accepts
sizes-of : (H : Matrix) (bs : List ℕ) → face_check H bs ≡ accepted → Sizes H
unfolding face_check
sizes-of H bs e = sizes-say H (not-false _ (passed (not (sizes_fit H)) 1 0 _ e).0)

-- what is asked of the samples
bytes-fits : (n : ℕ) (S : Setting) (bs : List ℕ) (word levels report : ℕ) → n ≤ 1023 → Fits (bytes_verdict n S bs word levels report)
unfolding bytes_verdict
bytes-fits n S bs word levels report few =
    fits-when (not (setting_fits S)) 6 _ (omega arith, omega arith)
    (λ y. fits-when (wrong_bytes n (length bs) word levels report) 7 _ (omega arith, omega arith)
    (λ q.
    let t = wrong_lengths (length bs) (4 * n) word (bytes_for n) levels (2 * n) in
    let l = lengths-fit (length bs) (4 * n) word (bytes_for n) levels (2 * n) (or_left t (ltb report 8) q) in
    fits-at 8 (first_not_finite (samples_in bs)) (length (samples_in bs)) accepted (omega arith, omega arith) (omega (arith, samples-n n bs l.0)) tt))

-- ---- the face's answers

-- decoded is 0, failed is 1
outcome-small : (f : ℕ) → outcome_by f ≤ 1
outcome-small f = either (eqb f 0)
  where
    either : (b : Bool) → cond b 0 1 ≤ 1
    either true = omega arith
    either false = omega arith

told-after : (v : Verdict) (s : Said) → Fits v → Told s → Told (after v s)
told-after accepted s f t = t
told-after (refused k x) s f t = f

-- every answer is decoded, failed or one of the refusals 1 to 8, its place of 16 bits
pub face-told : FaceTold
unfolding face_of face_verdict face_report report_at
face-told f =
    let H : Matrix = face_matrix f.n f.m f.rho f.gamma f.list in
    let u = face_check H f.list in
    let v = bytes_verdict f.n f.setting f.samples f.word f.levels f.report in
    told-after (and_then u v) _
    (fits-then u v (check-fits H f.list refl)
    (λ e. bytes-fits f.n f.setting f.samples f.word f.levels f.report (sizes-of H f.list e).n_most))
    (outcome-small (failing H (end_from H f.setting (samples_in f.samples)).last.z))

-- different ends of two calls give different returned numbers
pub face-tells : FaceTells
face-tells f g e = result-tells (said_to f) (said_to g) (face-told f) (face-told g) e

-- and with the reports' bytes different answers are told apart
pub face-answer-tells : FaceAnswerTells
face-answer-tells f g e q = answer-tells (said_to f) (said_to g) (face-told f) (face-told g) e q
