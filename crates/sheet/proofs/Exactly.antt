-- When the two calls are refused by 11 and by 12.
--   eleven-exactly   == sheet to list by 11 exactly where the bytes are not a sheet
--   twelve-exactly   == list to sheet by 12 exactly where the matrix is accepted and no sheet with that Z describes it
-- Assumes nothing.
use Prim.Native.Nat.{ℕ, ◌*◌, ◌≤◌}
use mathlib.Core.Path.{◌≡◌, refl, sym, ap, ◌∙◌}
use mathlib.Core.Bool.{Bool, true, false, not, ◌||◌}
use mathlib.Core.List.{List}
use native.Mathlib.Omega.{arith}
use lib.Dec.{ltb}
use lib.ListN.{length}
use Rattle.counting.proofs.Searches.{never, cases}
use Rattle.answers.specs.Paper.Answers.{Verdict, accepted, refused, refuse_when, and_then}
use Rattle.matrix.specs.Paper.Code.{Matrix}
use Rattle.matrix.specs.Paper.Check.{check_of}
use Rattle.matrix.specs.Paper.PlainCheck.{Reads, sizes_out, length_wrong, entry_bad, weight_bad, weight_none, rows_overlap, fine}
use Rattle.matrix.proofs.PlainCheck.{reads}
use Rattle.sheet.specs.Paper.Sheet.{no_sheet}
use Rattle.sheet.specs.Paper.SheetMatrix.{matrix_of_sheet}
use Rattle.sheet.specs.Paper.MatrixSheet.{sheet_of, describes}
use Rattle.sheet.specs.Paper.Calls.{to_list_verdict, to_sheet_verdict}
use Rattle.sheet.specs.Paper.Claims.{ElevenExactly, TwelveExactly}
use Rattle.sheet.proofs.PlainSheet.{sheet-reads}
use Rattle.sheet.proofs.Order.{number}
use Rattle.sheet.proofs.Claims.{described}

-- ---- the numbers of refusals

-- the matrix check refuses by 1 to 5
check-number : {H : Matrix} {v : Verdict} → Reads H v → number v ≤ 5
check-number (sizes_out h) = omega arith
check-number (length_wrong s h) = omega arith
check-number (entry_bad s l f) = omega arith
check-number (weight_bad s l c f) = omega arith
check-number (weight_none s l c w h) = omega arith
check-number (rows_overlap s l c w h f) = omega arith
check-number (fine a) = omega arith

-- a last question that refuses by 7
last-number : (t : Bool) → number (refuse_when 7 t accepted) ≤ 7
last-number true = omega arith
last-number false = omega arith

-- what is asked first and next have numbers up to b
both-number : (v w : Verdict) (b : ℕ) → number v ≤ b → number w ≤ b → number (and_then v w) ≤ b
both-number accepted w b h l = l
both-number (refused k x) w b h l = h

-- a sheet is not refused by 11
not-eleven : (t : Bool) (w : Verdict) → t ≡ false → number w ≤ 7 → refuse_when 11 t w ≡ refused 11 0 → ⊥
not-eleven true w f l e = never f
not-eleven false w f l e = omega (arith, ap number e, l)

-- a refusal by 12 tells that what was asked before has passed, and that the test failed
asked-twelve : (v : Verdict) (t : Bool) (w : Verdict) → number v ≤ 5 → number w ≤ 7 → and_then v (refuse_when 12 (not t) w) ≡ refused 12 0
    → (v ≡ accepted) × (t ≡ false)
asked-twelve accepted true w h l e = absurd (omega (arith, ap number e, l))
asked-twelve accepted false w h l e = (refl, refl)
asked-twelve (refused k x) t w h l e = absurd (omega (arith, ap number e, h))

-- ---- the two refusals

-- sheet to list by 11 exactly where the bytes are not a sheet
pub eleven-exactly : (bs : List ℕ) (a b : ℕ) → ElevenExactly bs a b
unfolding to_list_verdict
eleven-exactly bs a b =
    record {
      only = λ e s. not-eleven (no_sheet bs) _ ((sheet-reads bs).so s)
          (both-number (check_of (matrix_of_sheet bs)) _ 7 (omega (arith, check-number (reads (matrix_of_sheet bs)))) (last-number (ltb a 4 || ltb b ((matrix_of_sheet bs).m * (matrix_of_sheet bs).rho)))) e;
      always = λ h. cases (no_sheet bs) (λ t. rw t) (λ f. absurd (h ((sheet-reads bs).is f)));
    }

-- list to sheet by 12 exactly where the matrix is accepted and no sheet with that Z describes it
pub twelve-exactly : (H : Matrix) (Z room : ℕ) → TwelveExactly H Z room
unfolding to_sheet_verdict
twelve-exactly H Z room =
    record {
      only = λ e.
          let p = asked-twelve (check_of H) (describes H Z) _ (check-number (reads H)) (last-number (ltb room (length (sheet_of H Z)))) e in
          (p.0, λ f. never (sym ((described H Z p.0).told f) ∙ p.1));
      always = λ c h. cases (describes H Z) (λ t. absurd (h ((described H Z c).found t))) (λ f. rw (c, f));
    }
