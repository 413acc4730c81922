-- Laws of the numbers that the replay looks at: rows, and where the columns end, one after the other.
--   size_room              == a list as long as the index has all starting places, and few numbers
--   row-standing           == what is found at the place of an entry says whether the row stands there
--   row-missing            == and where it does not
--   entry_more             == one entry more
--   row-all                == what is said of a row: it stands at all of its places
--   row-behind             == then the cursors stand behind it
--   rows_more              == one row more
--   cursor-end             == a cursor behind all rows is its column's starting place and weight
--   rows-ended             == so the cursors say whether every column ends where the next starts
-- Assumes nothing.
use mathlib.Core.Path.{◌≡◌, sym, ap, ◌∙◌}
use mathlib.Core.Bool.{Bool, true, false, ◌&&◌}
use mathlib.Core.List.{List}
use Prim.Native.Nat.{ℕ, ◌+◌, ◌-◌, ◌≤◌, ◌<◌}
use native.Mathlib.Omega.{arith}
use borrow.Author.Count.{below_more}
use borrow.Author.Tests.{ltb-true, eqb-true, lt-ltb, eq-eqb}
use lib.Dec.{ltb, eqb}
use lib.ListN.{length, take, drop}
use lib.Seq.{ext_get_or}
use Rattle.std.specs.Cmp.Lexicographic.{pointwise, same_text, other_text}
use Rattle.std.proofs.Common.{nat_eq}
use Rattle.std.proofs.lemmas.List.{length-take-le, length-drop, get_or-take}
use Rattle.std.proofs.lemmas.Grind.{get_or_after_one}
use Rattle.counting.specs.Paper.Sum.{sum_below}
use Rattle.counting.specs.Places.{at}
use Rattle.counting.proofs.Searches.{never, and_left, and_right, and_both}
use Rattle.matrix.specs.Paper.Code.{Matrix, weight}
use Rattle.matrix.specs.Ordered.{Ordered}
use Rattle.matrix.proofs.Rows.{few-entries}
use Rattle.matrix_index.specs.Paper.Index.{index_size}
use Rattle.matrix_index.specs.Filling.{place_by, in_row, Cursors}
use Rattle.matrix_index.proofs.Parts.{before-all}
use Rattle.matrix_index.proofs.Cursors.{cursors-row}
use Rattle.matrix_index_replay.specs.Replay.{Stands, RowStands, RowReplayed, RowsReplayed}

-- ---- rows

-- a list as long as the index has all starting places, and few numbers
pub size_room : (H : Matrix) (x : List ℕ) → Ordered H → length x ≡ index_size H → (H.n < length x) × (length x ≤ 33760)
unfolding index_size
size_room H x o e = (omega (arith, e), omega (arith, e, few-entries H o.sized.sizes, o.sized.sizes.n_most))

module _ (H : Matrix) (x : List ℕ) (i k p : ℕ) (e : p ≡ place_by H (at x) i k) (t : Bool) (q : t ≡ ltb p (length x) && eqb (at x p) i) where
  -- what is found at the place of an entry says whether the row stands there
  pub row-standing : t ≡ true → Stands H x i k
  row-standing y =
      let both : ltb p (length x) && eqb (at x p) i ≡ true = sym q ∙ y in
      record {
        inside = rw (sym e) (ltb-true p (length x) (and_left (ltb p (length x)) (eqb (at x p) i) both));
        is = rw (sym e) (eqb-true (at x p) i (and_right (ltb p (length x)) (eqb (at x p) i) both));
      }

  -- and where it does not
  pub row-missing : t ≡ false → Stands H x i k → ⊥
  row-missing n s =
      never
      (sym (and_both (ltb p (length x)) (eqb (at x p) i) (lt-ltb p (length x) (rw e s.inside)) (eq-eqb (at x p) i (rw e s.is))) ∙ sym q ∙ n)

-- one entry more
pub entry_more : (H : Matrix) (x : List ℕ) (i k : ℕ) → ((q : ℕ) → q < k → Stands H x i q) → Stands H x i k → (q : ℕ) → q < k + 1 → Stands H x i q
entry_more H x i k all s = below_more (Stands H x i) k all s

module _ (H : Matrix) (i : ℕ) (x c c' : List ℕ) (t : Bool) (r : RowReplayed H i x c c' t) where
  -- a row that stands at all of its places
  pub row-all : t ≡ true → RowStands H x i
  row-all y k l = r.stood k (rw (r.so y) l)

  -- the cursors stand behind it
  pub row-behind : Ordered H → i < H.m → t ≡ true → Cursors H (at x) (i + 1) 0 c'
  row-behind o l y = cursors-row H o (at x) i l c' (rw (r.so y) at r.cursors.cursors)

-- one row more
pub rows_more : (H : Matrix) (x : List ℕ) (i : ℕ) → ((r : ℕ) → r < i → RowStands H x r) → RowStands H x i → (r : ℕ) → r < i + 1 → RowStands H x r
rows_more H x i all s = below_more (RowStands H x) i all s

module _ (H : Matrix) (x c : List ℕ) (u : Cursors H (at x) H.m 0 c) where
  -- a cursor behind all rows is its column's starting place and weight
  pub cursor-end : (j : ℕ) → j < H.n → at c j ≡ at x j + weight H j
  unfolding in_row sum_below
  cursor-end j l = omega (arith, u.each j l, before-all H j)

  -- the cursors and the next starting places, as the code takes them
  abbrev ends : List ℕ
  ends = take H.n c

  abbrev next : List ℕ
  next = take (H.n + 1 - 1) (drop 1 x)

  ends-at : (j : ℕ) → j < H.n → at ends j ≡ at c j
  ends-at j l = get_or-take H.n c j 0 l

  next-at : (j : ℕ) → j < H.n → at next j ≡ at x (j + 1)
  next-at j l =
      let m : j < H.n + 1 - 1 = omega arith in
      let e : 1 + j ≡ j + 1 = omega arith in
      get_or-take (H.n + 1 - 1) (drop 1 x) j 0 m ∙ get_or_after_one x j 0 ∙ ap (at x) e

  -- what the cursors behind all rows say: every column ends where the next starts exactly where they are the next starting places
  pub rows-ended : (t : Bool) → H.n ≤ 1023 → H.n < length x → ((i : ℕ) → i < H.m → RowStands H x i) → t ≡ pointwise nat_eq ends next → RowsReplayed H x t
  rows-ended t most room all e =
      let n : length ends ≡ H.n = length-take-le H.n c (omega (arith, u.long)) in
      let n' : length next ≡ H.n = length-take-le (H.n + 1 - 1) (drop 1 x) (omega (arith, length-drop 1 x)) ∙ omega arith in
      record {
        so = λ y.
            let same : ends ≡ next = same_text ends next (sym y ∙ e) in
            (all, λ j l. sym (next-at j l) ∙ ap (λ (z : List ℕ). at z j) (sym same) ∙ ends-at j l ∙ cursor-end j l);
        not_so = λ f rows parts. other_text ends next (sym f ∙ e) (ext_get_or 0 ends next (n ∙ sym n') (λ (j : ℕ) (h : j < length ends).
            let l : j < H.n = omega (arith, h, n) in ends-at j l ∙ cursor-end j l ∙ sym (parts j l) ∙ sym (next-at j l)));
      }
