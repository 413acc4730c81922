-- The numbers of every answer have room in its code.
--   failing-small     == a count of failing checks has room
--   changed-small     == a count of changed bits has room
--   report-small      == a one-step report on an accepted matrix has room
--   one-step-small    == every answer of one-step voting has room
--   one-step-indexed-small   == so has every answer of one-step voting by an index
--   and-then-twice    == two questions before a third are one before it
--   iterative-small   == every answer of iterative voting has room, as its rounds are within the round limit
--   iterative-indexed-small   == so has every answer of iterative voting by an index
-- Assumes nothing.
use mathlib.Core.Path.{◌≡◌, refl, subst}
use mathlib.Core.Bool.{Bool, true, false, cond}
use mathlib.Core.List.{List}
use Prim.Native.Nat.{ℕ, ◌*◌, ◌≤◌}
use native.Mathlib.Omega.{arith}
use lib.Dec.{eqb}
use lib.Ieee.{Float}
use lib.ListN.{length}
use Rattle.counting.proofs.Searches.{cases}
use Rattle.answers.specs.Paper.Answers.{Verdict, accepted, refused, Said, and_then, after}
use Rattle.answers.proofs.Verdicts.{passed_on}
use Rattle.packed_word.specs.Paper.Packed.{bit_at}
use Rattle.packed_word.proofs.Distances.{distance-le}
use Rattle.changed_bits.specs.Paper.Call.{changed_verdict, changed_of}
use Rattle.changed_bits.proofs.Verdicts.{accepted-reads}
use Rattle.matrix.specs.Paper.Code.{Matrix, failing}
use Rattle.matrix.specs.Paper.Check.{check_of}
use Rattle.matrix.specs.Paper.PlainCheck.{Accepted}
use Rattle.matrix.proofs.Rows.{failing-le}
use Rattle.matrix.proofs.PlainCheck.{accepted-is}
use Rattle.matrix_index.specs.Paper.Index.{own_verdict}
use Rattle.matrix_index_check.specs.Paper.Call.{indexed_verdict}
use Rattle.syndrome.specs.Paper.Failing.{failing_verdict, failing_of}
use Rattle.majority_logic.specs.Paper.OneStep.{step_word, step_rounds, one_step_report, one_step_verdict, one_step_of}
use Rattle.quantiser_levels.specs.Paper.Samples.{Setting, setting_fits, largest}
use Rattle.quantiser_settings.proofs.Ranges.{fits-reads}
use Rattle.iterative_changed.specs.Paper.Changed.{decided_in}
use Rattle.iterative_changed.proofs.Changes.{changed-le}
use Rattle.iterative_core.specs.Paper.Iterative.{start_of, end_from, report_at, samples_verdict, iterative_verdict, iterative_of}
use Rattle.iterative_rounds.proofs.Ends.{rounds-within}
use Rattle.one_step_indexed.specs.Paper.Call.{one_step_indexed_verdict, one_step_indexed_of}
use Rattle.iterative_indexed.specs.Paper.Call.{iterative_indexed_verdict, iterative_indexed_of}
use Rattle.ffi_codes.specs.Codes.{Small}

-- an answer is small where its report is so once what is asked accepts
said-small : (v : Verdict) (s : Said) → (v ≡ accepted → Small s) → Small (after v s)
said-small accepted s h = h refl
said-small (refused k x) s h = tt

-- and where its report is so on an accepted matrix
after_small : (v w : Verdict) (s : Said) → (v ≡ accepted → Small s) → Small (after (and_then v w) s)
after_small v w s h = said-small (and_then v w) s (λ e. h (passed_on v w e).0)

-- rounds are 0 or 1
rounds-le : (H : Matrix) (z : ℕ → ℕ) → step_rounds H z ≤ 1
unfolding step_rounds
rounds-le H z = either (eqb (failing H z) 0)
  where
    either : (b : Bool) → cond b 0 1 ≤ 1
    either true = omega arith
    either false = omega arith

-- a count of failing checks
pub failing-small : (H : Matrix) (w : List ℕ) → Small (failing_of H w)
unfolding failing_of failing_verdict
failing-small H w =
    after_small (check_of H) _ _ (λ e. omega (arith, failing-le H (bit_at w), (accepted-is H e).sizes.m_most))

-- a count of changed bits
pub changed-small : (a b : List ℕ) → Small (changed_of a b)
unfolding changed_of
changed-small a b =
    said-small (changed_verdict a b) _
    (λ e. record {
      rounds = omega arith;
      failing = omega arith;
      changed = omega (arith, distance-le (8 * length a) (bit_at a) (bit_at b), (accepted-reads a b e).most);
    })

-- one-step voting, on an accepted matrix and as a whole
pub report-small : (H : Matrix) → Accepted H → (z : ℕ → ℕ) → Small (one_step_report H z)
unfolding one_step_report
report-small H a z =
    record {
      rounds = omega (arith, rounds-le H z);
      failing = omega (arith, failing-le H (step_word H z), a.sizes.m_most);
      changed = omega (arith, distance-le H.n (step_word H z) z, a.sizes.n_most);
    }

-- every answer of one-step voting has room
pub one-step-small : (H : Matrix) (w : List ℕ) (room : ℕ) → Small (one_step_of H w room)
unfolding one_step_of one_step_verdict
one-step-small H w room = after_small (check_of H) _ _ (λ e. report-small H (accepted-is H e) (bit_at w))

-- so has every answer of one-step voting by an index
pub one-step-indexed-small : (H : Matrix) (x w : List ℕ) (room : ℕ) → Small (one_step_indexed_of H x w room)
unfolding one_step_indexed_of one_step_indexed_verdict indexed_verdict
one-step-indexed-small H x w room = after_small (check_of H) _ _ (λ e. report-small H (accepted-is H e) (bit_at w))

-- a setting out of range is refused
six-small : (v : Verdict) (s : Said) → Small (after (and_then v (refused 6 0)) s)
six-small accepted s = tt
six-small (refused k x) s = tt

-- two questions before a third are one before it
pub and-then-twice : (u v w : Verdict) → and_then (and_then u v) w ≡ and_then u (and_then v w)
and-then-twice accepted v w = refl
and-then-twice (refused k x) v w = refl

-- a report of iterative voting, with a setting in range
fit_small : (H : Matrix) (S : Setting) (xs : List Float) → setting_fits S ≡ true → check_of H ≡ accepted → Small (report_at H (start_of S xs) (end_from H S xs))
unfolding report_at end_from
fit_small H S xs y e =
    let a = (accepted-is H e).sizes in
    let t = end_from H S xs in
    let s = start_of S xs in
    record {
      rounds = omega (arith, rounds-within H (largest S.bits) S.limit s, (fits-reads S y).limit);
      failing = omega (arith, failing-le H t.last.z, a.m_most);
      changed = omega (arith, changed-le H.n (decided_in s.R) t.last.z s.z, a.n_most);
    }

-- iterative voting: its rounds are within the round limit
pub iterative-small : (H : Matrix) (S : Setting) (xs : List Float) (b l : ℕ) → Small (iterative_of H S xs b l)
unfolding iterative_of iterative_verdict samples_verdict
iterative-small H S xs b l =
    cases (setting_fits S) (λ y. after_small (check_of H) _ _ (fit_small H S xs y)) (λ n. rw n (six-small (check_of H) _))

-- so has every answer of iterative voting by an index
pub iterative-indexed-small : (H : Matrix) (x : List ℕ) (S : Setting) (xs : List Float) (b l : ℕ) → Small (iterative_indexed_of H x S xs b l)
unfolding iterative_indexed_of iterative_indexed_verdict indexed_verdict samples_verdict
iterative-indexed-small H x S xs b l =
    cases (setting_fits S) (λ y. after_small (check_of H) _ _ (fit_small H S xs y))
    (λ n. rw n (
    subst (λ (v : Verdict). Small (after v (report_at H (start_of S xs) (end_from H S xs)))) (and-then-twice (check_of H) (own_verdict H x) (refused 6 0))
    (six-small (and_then (check_of H) (own_verdict H x)) (report_at H (start_of S xs) (end_from H S xs)))))
