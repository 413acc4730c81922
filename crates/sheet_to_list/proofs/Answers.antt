-- What a part of the call says and leaves.
--   refused-matrix   == sizes or list are refused: the check's number and place, and nothing is written
--   refused-sizes    == the buffer for the sizes is too short: refusal 7, and nothing is written
--   refused-list     == so is the one for the list
--   both-written     == else sizes and list stand at the front of the buffers
--   answered-by      == the same by an equal matrix
--   refused-sheet    == the bytes are no sheet: refusal 11, and nothing is written
--   answered-sheet   == they are one: what its sizes and list are answered
-- Assumes nothing.
use mathlib.Core.Path.{◌≡◌, refl, sym, ap, subst, ◌∙◌}
use mathlib.Core.Bool.{true, false}
use mathlib.Core.List.{List, [], ◌++◌}
use Prim.Native.Nat.{ℕ, ◌*◌, ◌≤◌, ◌<◌}
use native.Mathlib.Omega.{arith}
use borrow.Author.Tests.{lt-ltb, le-ltb}
use lib.ListN.{length, drop}
use Rattle.counting.specs.Paper.Lists.{over}
use Rattle.answers.specs.Paper.Answers.{Verdict, accepted, refused}
use Rattle.matrix.specs.Paper.Code.{Matrix}
use Rattle.matrix.specs.Paper.Check.{check_of}
use Rattle.matrix.specs.Paper.PlainCheck.{Accepted}
use Rattle.matrix.specs.Paper.Shapes.{matrix_of}
use Rattle.matrix.specs.declared.Shape.{Shape}
use Rattle.matrix.proofs.PlainCheck.{is-accepted}
use Rattle.sheet.specs.Paper.Sheet.{no_sheet}
use Rattle.sheet.specs.Paper.SheetMatrix.{matrix_of_sheet}
use Rattle.sheet.specs.Paper.Calls.{sizes_of, to_list_verdict}
use Rattle.sheet_to_list.specs.Paper.Call.{ListAnswered, SheetAnswered}
use Rattle.sheet_to_list.specs.Parts.{list_verdict, MatrixAnswered}

-- a refusal writes nothing
kept : (v : Verdict) (H : Matrix) (ss ls : List ℕ) (k x : ℕ) (said : Verdict) → v ≡ refused k x → said ≡ refused k x
    → ListAnswered v H ss ss ls ls said
kept v H ss ls k x said q e = record { says = e ∙ sym q; sizes = rw q refl; list = rw q refl }

module _ (H : Matrix) (ss ls : List ℕ) where
  -- sizes or list are refused
  pub refused-matrix : (k x : ℕ) (said : Verdict) → check_of H ≡ refused k x → said ≡ refused k x → MatrixAnswered H ss ss ls ls said
  unfolding list_verdict
  refused-matrix k x said q e = kept _ H ss ls k x said (rw q refl) e

  module _ (a : Accepted H) where
    -- the buffer for the sizes is too short
    pub refused-sizes : length ss < 4 → MatrixAnswered H ss ss ls ls (refused 7 0)
    unfolding list_verdict
    refused-sizes l = kept _ H ss ls 7 0 (refused 7 0) (rw (is-accepted H a, lt-ltb (length ss) 4 l) refl) refl

    -- so is the one for the list
    pub refused-list : 4 ≤ length ss → length ls < length H.list → MatrixAnswered H ss ss ls ls (refused 7 0)
    unfolding list_verdict
    refused-list g l =
        let short : length ls < H.m * H.rho = omega (arith, a.rows.whole) in
        kept _ H ss ls 7 0 (refused 7 0) (rw (is-accepted H a, le-ltb (length ss) 4 g, lt-ltb (length ls) (H.m * H.rho) short) refl) refl

    -- both are long enough
    long-enough : 4 ≤ length ss → length H.list ≤ length ls → list_verdict H (length ss) (length ls) ≡ accepted
    unfolding list_verdict
    long-enough g l =
        let room : H.m * H.rho ≤ length ls = omega (arith, a.rows.whole) in
        rw (is-accepted H a, le-ltb (length ss) 4 g, le-ltb (length ls) (H.m * H.rho) room) refl

    -- then sizes and list are written
    put_both : (ss' ls' : List ℕ) → 4 ≤ length ss → length H.list ≤ length ls → ss' ≡ over (sizes_of H) ss → ls' ≡ over H.list ls
        → MatrixAnswered H ss ss' ls ls' accepted
    put_both ss' ls' g l p q =
        record { says = sym (long-enough g l); sizes = p ∙ rw (long-enough g l) refl; list = q ∙ rw (long-enough g l) refl }

-- the same as the code writes them: the sizes need no list, and the list is copied over the front
pub both-written : (s : Shape) (made copy ss ss' ls : List ℕ) → Accepted (matrix_of s made) → 4 ≤ length ss → length made ≤ length ls
    → ss' ≡ over (sizes_of (matrix_of s [])) ss → copy ≡ made → MatrixAnswered (matrix_of s made) ss ss' ls (copy ++ drop (length made) ls) accepted
unfolding sizes_of over
both-written s made copy ss ss' ls a g l p q =
    put_both (matrix_of s made) ss ls a ss' (copy ++ drop (length made) ls) g l p (ap (λ (x : List ℕ). x ++ drop (length made) ls) q)

-- a sheet is asked no more of than its sizes and list
asked-next : (bs : List ℕ) (a b : ℕ) → no_sheet bs ≡ false → list_verdict (matrix_of_sheet bs) a b ≡ to_list_verdict bs a b
unfolding list_verdict to_list_verdict
asked-next bs a b e = rw e refl

module _ {ss ss' ls ls' : List ℕ} {said : Verdict} where
  -- the same by an equal matrix
  pub answered-by : (H G : Matrix) → H ≡ G → MatrixAnswered H ss ss' ls ls' said → MatrixAnswered G ss ss' ls ls' said
  answered-by H G e = subst (λ (X : Matrix). MatrixAnswered X ss ss' ls ls' said) e

  -- the bytes are a sheet
  pub answered-sheet : (bs : List ℕ) → no_sheet bs ≡ false → MatrixAnswered (matrix_of_sheet bs) ss ss' ls ls' said → SheetAnswered bs ss ss' ls ls' said
  answered-sheet bs e = subst (λ (v : Verdict). ListAnswered v (matrix_of_sheet bs) ss ss' ls ls' said) (asked-next bs (length ss) (length ls) e)

-- they are none
pub refused-sheet : (bs ss ls : List ℕ) → no_sheet bs ≡ true → SheetAnswered bs ss ss ls ls (refused 11 0)
unfolding to_list_verdict
refused-sheet bs ss ls e = kept _ (matrix_of_sheet bs) ss ls 11 0 (refused 11 0) (rw e refl) refl
