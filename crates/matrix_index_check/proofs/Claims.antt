-- A call that takes matrix and index: refusal 10 exactly where the index is another, else what the call without one asks.
--   numbered          == the number of a refusal, 0 of an acceptance
--   step-number       == a link of a chain gives its own number, or the next one's
--   check-below       == the matrix check gives no number above 5
--   own-accepts       == the matrix's own index is accepted
--   other-refused     == any other list is refused by 10
--   accepted-own      == a list that is accepted is the matrix's own index
--   own-alike         == `OwnAlike` of every matrix
--   matrix-first      == `MatrixFirst` of every matrix
--   ten-else          == `TenElse` of every matrix
--   ten_only          == `TenOnly` of every matrix
--   both-accepted     == where matrix and index are accepted the index is the matrix's own
--   one-refused       == and where one of them is refused the call is, whatever the rest
-- Assumes nothing.
use mathlib.Core.Path.{◌≡◌, refl, sym, ap, ◌∙◌}
use mathlib.Core.Bool.{Bool, true, false, not}
use mathlib.Core.List.{List}
use Prim.Native.Nat.{ℕ, ◌≤◌}
use native.Mathlib.Omega.{arith}
use lib.Dec.{eqb, ltb}
use lib.ListN.{length}
use Rattle.counting.specs.Paper.Search.{first}
use Rattle.counting.specs.Paper.Joined.{same_list}
use Rattle.counting.proofs.Searches.{cases}
use Rattle.counting.proofs.Joined.{same-list, list_same}
use Rattle.answers.specs.Paper.Answers.{Verdict, accepted, refused, refuse_if, and_then}
use Rattle.answers.proofs.Verdicts.{not-accepted, passed_on}
use Rattle.matrix.specs.Paper.Code.{Matrix}
use Rattle.matrix.specs.Paper.Check.{sizes_fit, bad_entry, bad_weight, no_least, overlapping, list_of, check_of}
use Rattle.matrix_index.specs.Paper.Index.{index_of, own_verdict}
use Rattle.matrix_index_check.specs.Paper.Call.{indexed_verdict}
use Rattle.matrix_index_check.specs.Paper.Claims.{OwnAlike, MatrixFirst, TenElse, TenOnly}

-- ---- the numbers that a chain can give

-- the number of a refusal, 0 of an acceptance
abbrev pub numbered : Verdict → ℕ
numbered accepted = 0
numbered (refused k x) = k

-- a link of a chain gives its own number, or the next one's
pub step-number : (t : Bool) (k x b : ℕ) (v : Verdict) → k ≤ b → numbered v ≤ b → numbered (refuse_if t k x v) ≤ b
step-number true k x b v h l = h
step-number false k x b v h l = l

-- the matrix check gives no number above 5
pub check-below : (H : Matrix) → numbered (check_of H) ≤ 5
unfolding check_of list_of
check-below H =
    step-number (not (sizes_fit H)) 1 0 5 _ (omega arith)
    (step-number (not (eqb (length H.list) _)) 2 0 5 _ (omega arith)
    (step-number (ltb (first (bad_entry H) (length H.list)) (length H.list)) 3 _ 5 _ (omega arith)
    (step-number (ltb (first (bad_weight H) H.n) H.n) 4 _ 5 _ (omega arith)
    (step-number (no_least H) 4 _ 5 _ (omega arith)
    (step-number (ltb (first (overlapping H) H.m) H.m) 5 _ 5 accepted (omega arith) (omega arith))))))

-- ---- the index alone

-- the matrix's own index is accepted
pub own-accepts : (H : Matrix) (x : List ℕ) → x ≡ index_of H → own_verdict H x ≡ accepted
unfolding own_verdict
own-accepts H x e = rw (list_same x (index_of H) e) refl

-- any other list is refused by 10
pub other-refused : (H : Matrix) (x : List ℕ) → (x ≡ index_of H → ⊥) → own_verdict H x ≡ refused 10 0
unfolding own_verdict
other-refused H x ne =
    cases (same_list x (index_of H)) (λ e. absurd (ne (same-list x (index_of H) e)))
    (λ e. ap (λ (b : Bool). refuse_if (not b) 10 0 accepted) e)

-- a list that is accepted is the matrix's own index
pub accepted-own : (H : Matrix) (x : List ℕ) → own_verdict H x ≡ accepted → x ≡ index_of H
unfolding own_verdict
accepted-own H x e =
    cases (same_list x (index_of H)) (λ t. same-list x (index_of H) t)
    (λ f. absurd (not-accepted (sym (ap (λ (b : Bool). refuse_if (not b) 10 0 accepted) f) ∙ e)))

-- ---- chains

-- a chain that refuses before its end refuses so whatever the end is
refuses-both : (v w rest : Verdict) {k p : ℕ} → and_then v (and_then w accepted) ≡ refused k p → and_then v (and_then w rest) ≡ refused k p
refuses-both accepted accepted rest e = absurd (not-accepted (sym e))
refuses-both accepted (refused k p) rest e = e
refuses-both (refused k p) w rest e = e

-- ---- calls that take matrix and index

-- with the matrix's own index: what the call without an index asks
pub own-alike : (H : Matrix) → OwnAlike H
unfolding indexed_verdict
own-alike H rest = ap (λ (v : Verdict). and_then (check_of H) (and_then v rest)) (own-accepts H (index_of H) refl)

-- a matrix that is refused is refused with its own number
pub matrix-first : (H : Matrix) → MatrixFirst H
unfolding indexed_verdict
matrix-first H x rest k p e = ap (λ (v : Verdict). and_then v (and_then (own_verdict H x) rest)) e

-- with any other list: refusal 10
pub ten-else : (H : Matrix) → TenElse H
unfolding indexed_verdict
ten-else H x rest e ne =
    ap (λ (v : Verdict). and_then v (and_then (own_verdict H x) rest)) e ∙ ap (λ (v : Verdict). and_then v rest) (other-refused H x ne)

-- a chain that gives a number that its first link can't has passed it
passes : (v w : Verdict) (p : ℕ) → numbered v ≤ 5 → and_then v w ≡ refused 10 p → (v ≡ accepted) × (w ≡ refused 10 p)
passes accepted w p h e = (refl, e)
passes (refused k x) w p h e = absurd (omega (arith, h, ap numbered e))

-- and by 10 only then
pub ten-only : (H : Matrix) → TenOnly H
unfolding indexed_verdict
ten-only H x rest p none e =
    let c = passes (check_of H) (and_then (own_verdict H x) rest) p (check-below H) e in
    (c.0, λ q. none p (sym (ap (λ (v : Verdict). and_then v rest) (own-accepts H x q)) ∙ c.1))

-- where matrix and index are accepted the index is the matrix's own
pub both-accepted : (H : Matrix) (x : List ℕ) → indexed_verdict H x accepted ≡ accepted → (check_of H ≡ accepted) × (x ≡ index_of H)
unfolding indexed_verdict
both-accepted H x e =
    let c = passed_on (check_of H) (and_then (own_verdict H x) accepted) e in
    (c.0, accepted-own H x (passed_on (own_verdict H x) accepted c.1).0)

-- and where one of them is refused the call is, whatever the rest
pub one-refused : (H : Matrix) (x : List ℕ) (k p : ℕ) → indexed_verdict H x accepted ≡ refused k p → (rest : Verdict) → indexed_verdict H x rest ≡ refused k p
unfolding indexed_verdict
one-refused H x k p e rest = refuses-both (check_of H) (own_verdict H x) rest e
