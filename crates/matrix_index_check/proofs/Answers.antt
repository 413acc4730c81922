-- The call's answer, by what is asked before it; the replay as a test; and matrix and index asked together.
--   refused-matrix   == the matrix is refused: the check's number and place, and nothing is written
--   refused-short    == the buffer is too short: refusal 10, and nothing is written
--   built            == else the index stands at the front of the buffer
--   own-test         == a list that passes the replay compares equal to the index, and any other unequal
--   own-verdict      == refusal 10 by that test
--   out_of_order     == a list with a bad entry is not in order
--   agreed           == a matrix with its own index is refused as without one
--   matrix-refused   == matrix and index where the matrix is refused
--   matrix-accepted  == and where it is accepted
-- Assumes nothing.
use mathlib.Core.Path.{◌≡◌, refl, sym, ap, ◌∙◌}
use mathlib.Core.Bool.{Bool, false, not}
use mathlib.Core.List.{List}
use Prim.Native.Nat.{ℕ, ◌≤◌, ◌<◌}
use borrow.Author.Tests.{lt-ltb, le-ltb, not-false}
use lib.ListN.{length}
use Rattle.counting.specs.Paper.Lists.{over}
use Rattle.counting.specs.Paper.Search.{any_below}
use Rattle.counting.specs.Paper.Joined.{same_list}
use Rattle.counting.proofs.Searches.{cases, any_found}
use Rattle.counting.proofs.Joined.{same-list, list_same}
use Rattle.answers.specs.Paper.Answers.{Verdict, accepted, refused, refuse_if, and_then}
use Rattle.matrix.specs.Paper.Code.{Matrix}
use Rattle.matrix.specs.Paper.Check.{bad_entry, check_of}
use Rattle.matrix.specs.Ordered.{Ordered}
use Rattle.matrix.specs.Paper.PlainCheck.{Accepted}
use Rattle.matrix.proofs.PlainCheck.{entry-says, accepted-is, is-accepted}
use Rattle.matrix_index.specs.Paper.Index.{index_of, index_size, own_verdict, index_verdict}
use Rattle.matrix_index_replay.specs.Replay.{Own, Replayed}
use Rattle.matrix_index_replay.proofs.Own.{own-index, index-own}
use Rattle.matrix_index_check.specs.Paper.Call.{indexed_verdict, IndexAnswered}
use Rattle.matrix_index_check.proofs.Claims.{own-accepts, matrix-first}

module _ (H : Matrix) (old : List ℕ) where
  -- a refusal writes nothing
  kept : (k x : ℕ) (v : Verdict) → index_verdict H (length old) ≡ refused k x → v ≡ refused k x → IndexAnswered H old old v
  kept k x v q e = record { says = e ∙ sym q; index = rw q refl }

  -- the matrix is refused: the check's number and place
  pub refused-matrix : (k x : ℕ) (v : Verdict) → check_of H ≡ refused k x → v ≡ refused k x → IndexAnswered H old old v
  unfolding index_verdict
  refused-matrix k x v q e = kept k x v (rw q refl) e

  module _ (a : Accepted H) where
    -- the buffer is too short
    pub refused-short : length old < index_size H → IndexAnswered H old old (refused 10 0)
    unfolding index_verdict
    refused-short l = kept 10 0 (refused 10 0) (rw (is-accepted H a, lt-ltb (length old) (index_size H) l) refl) refl

    -- it is not
    long-enough : index_size H ≤ length old → index_verdict H (length old) ≡ accepted
    unfolding index_verdict
    long-enough l = rw (is-accepted H a, le-ltb (length old) (index_size H) l) refl

    -- then the index stands at the front of the buffer
    pub built : (new : List ℕ) → index_size H ≤ length old → new ≡ over (index_of H) old → IndexAnswered H old new accepted
    built new l e = record { says = sym (long-enough l); index = e ∙ rw (long-enough l) refl }

-- a list that passes the replay compares equal to the index, and any other unequal
pub own-test : (H : Matrix) (a : Accepted H) (x : List ℕ) (t : Bool) → Replayed H x t → t ≡ same_list x (index_of H)
own-test H a x t r =
    cases t (λ e. e ∙ sym (list_same x (index_of H) (own-index H a x (r.so e))))
    (λ e. e ∙ cases (same_list x (index_of H)) (λ y. absurd (r.not_so e (index-own H a x (same-list x (index_of H) y)))) (λ n. sym n))

-- refusal 10 by that test
pub own-verdict : (H : Matrix) (x : List ℕ) (v : Verdict) (t : Bool) → v ≡ refuse_if (not t) 10 0 accepted → t ≡ same_list x (index_of H) → v ≡ own_verdict H x
unfolding own_verdict
own-verdict H x v t e q = e ∙ ap (λ (b : Bool). refuse_if (not b) 10 0 accepted) q

-- ---- matrix and index

-- a list with a bad entry is not in order
pub out_of_order : (H : Matrix) → not (any_below (bad_entry H) (length H.list)) ≡ false → Ordered H → ⊥
out_of_order H e o =
    let f = any_found (bad_entry H) (length H.list) (not-false _ e) in
    o.clear f.0 f.1 (entry-says H f.0 f.2)

-- a chain is as its first link where the next accepts whatever that one accepts
chain : (v w : Verdict) → (v ≡ accepted → w ≡ accepted) → v ≡ and_then v w
chain accepted w h = sym (h refl)
chain (refused k p) w h = refl

-- a chain that ends in an acceptance
end-accepted : (v : Verdict) → and_then v accepted ≡ v
end-accepted accepted = refl
end-accepted (refused k p) = refl

module _ (H : Matrix) (x : List ℕ) where
  -- a matrix with its own index is refused as without one
  pub agreed : Own H x → (v : Verdict) → v ≡ check_of H → v ≡ indexed_verdict H x accepted
  unfolding indexed_verdict
  agreed o v e =
      e ∙ chain (check_of H) (and_then (own_verdict H x) accepted) (λ y.
      end-accepted (own_verdict H x) ∙ own-accepts H x (own-index H (accepted-is H y) x o))

  -- the matrix is refused: the check's number and place
  pub matrix-refused : (k p : ℕ) (v : Verdict) → check_of H ≡ refused k p → v ≡ refused k p → v ≡ indexed_verdict H x accepted
  matrix-refused k p v c e = e ∙ sym (matrix-first H x accepted k p c)

  -- it is accepted: refusal 10 or none
  pub matrix-accepted : Accepted H → (v : Verdict) → v ≡ own_verdict H x → v ≡ indexed_verdict H x accepted
  unfolding indexed_verdict
  matrix-accepted a v e = e ∙ rw (is-accepted H a) (sym (end-accepted (own_verdict H x)))
