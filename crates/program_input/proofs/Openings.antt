-- Laws of how a run begins: the sizes alone, and the matrix before the setting.
--   number_in                        == a verdict's number, 0 where it accepts
--   sizes-alone                     == with an empty list the check's number is 1 exactly where the sizes are out of range
--   matrix-passes, matrix-refuses   == an accepted matrix leaves it to the setting how the run begins, a refused one does not
--   decodable                       == a run begins only with a matrix and a setting that are accepted
--   few                             == sizes in range have at most 32,736 entries
-- Assumes nothing.
use mathlib.Core.Path.{◌≡◌, refl, sym, ap, ◌∙◌}
use mathlib.Core.Bool.{Bool, true, false, not}
use mathlib.Core.List.{[]}
use Prim.Native.Nat.{ℕ, ◌*◌, ◌≤◌}
use native.Mathlib.Nat.{mul-le-mul}
use native.Mathlib.Omega.{arith}
use lib.Dec.{eqb}
use lib.ListN.{length}
use Rattle.counting.proofs.Searches.{cases}
use Rattle.answers.specs.Paper.Answers.{Verdict, accepted, refused, refuse_when, and_then}
use Rattle.matrix.specs.Paper.Code.{Matrix}
use Rattle.matrix.specs.Paper.Check.{sizes_fit, check_of}
use Rattle.matrix.specs.Paper.PlainCheck.{length_wrong}
use Rattle.matrix.proofs.PlainCheck.{sizes-say, reads_only, accepted-is}
use Rattle.matrix.proofs.Rows.{few-entries}
use Rattle.quantiser_levels.specs.Paper.Samples.{Setting, setting_fits}
use Rattle.program_input.specs.Paper.Opening.{Decodable, Opening, refused_by, open_with, opening, setting_verdict, opening_verdict}

-- a verdict's number, 0 where it accepts
abbrev pub number_in : Verdict → ℕ
number_in accepted = 0
number_in (refused k x) = k

module _ (H : Matrix) where
  -- without a list, sizes in range are refused for the length
  length-next : H.list ≡ [] → sizes_fit H ≡ true → check_of H ≡ refused 2 0
  length-next none e =
      let s = sizes-say H e in
      let some : 1 * 2 ≤ H.m * H.rho = mul-le-mul s.m_least s.rho_least in
      sym (reads_only H (refused 2 0) (length_wrong s (λ q. omega (arith, sym (ap length none) ∙ q))))

  sizes-first : sizes_fit H ≡ false → check_of H ≡ refused 1 0
  unfolding check_of
  sizes-first e = rw e

  -- so the check's number is 1 exactly where the sizes are out of range
  pub sizes-alone : H.list ≡ [] → eqb (number_in (check_of H)) 1 ≡ not (sizes_fit H)
  sizes-alone none =
      cases (sizes_fit H)
      (λ y. ap (λ (v : Verdict). eqb (number_in v) 1) (length-next none y) ∙ sym (ap not y))
      (λ o. ap (λ (v : Verdict). eqb (number_in v) 1) (sizes-first o) ∙ sym (ap not o))

  -- an accepted matrix leaves it to the setting, a refused one does not
  pub matrix-passes : (S : Setting) → check_of H ≡ accepted → opening (setting_verdict S) S ≡ opening (opening_verdict H S) S
  unfolding opening_verdict
  matrix-passes S e = rw e

  pub matrix-refuses : (S : Setting) {k x : ℕ} → check_of H ≡ refused k x → refused_by k x ≡ opening (opening_verdict H S) S
  unfolding opening_verdict
  matrix-refuses S e = rw e

-- ---- a run that begins has an accepted matrix and a setting in range

differs : {S : Setting} {k x : ℕ} → open_with S ≡ refused_by k x → ⊥
differs e = let z : ◌≡◌ {A = ℕ} 0 1 = cc in omega arith

same-setting : {S T : Setting} → open_with T ≡ open_with S → T ≡ S
same-setting e = cc

module _ (H : Matrix) (S T : Setting) where
  by_tests : (v : Verdict) → check_of H ≡ v → (b : Bool) → setting_fits S ≡ b → open_with T ≡ opening (and_then v (refuse_when 6 (not b) accepted)) S → Decodable H T
  by_tests accepted p true q e = record { matrix = accepted-is H p; setting = ap setting_fits (same-setting e) ∙ q }
  by_tests accepted p false q e = absurd (differs e)
  by_tests (refused k x) p b q e = absurd (differs e)

  -- a run begins only with a matrix and a setting that are accepted
  pub decodable : {o : Opening} → o ≡ opening (opening_verdict H S) S → o ≡ open_with T → Decodable H T
  unfolding opening_verdict setting_verdict
  decodable e q = by_tests (check_of H) refl (setting_fits S) refl (sym q ∙ e)

-- ---- the list fits its array

-- sizes in range have at most 32,736 entries
pub few : (H : Matrix) → sizes_fit H ≡ true → H.m * H.rho ≤ 32736
few H e = few-entries H (sizes-say H e)
