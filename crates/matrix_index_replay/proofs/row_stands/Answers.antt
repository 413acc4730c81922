use mathlib.Core.Bool.{not}
use mathlib.Core.Path.{ap}
use mathlib.Core.List.{List}
use Prim.Native.Nat.{ℕ, ◌<◌}
use mathlib.Core.Path.{sym}
use native.Mathlib.Omega.{arith}
use borrow.Author.Tests.{not-true, not-false}
use Rattle.counting.specs.Places.{at}
use Rattle.counting.proofs.Searches.{never}
use Rattle.matrix.specs.Paper.Code.{Matrix, matrix}
use Rattle.matrix.specs.Ordered.{Ordered}
use Rattle.matrix_index.specs.Filling.{Passed}
use Rattle.matrix_index.proofs.Cursors.{Spot, spot_of, reached, passed-step}
use Rattle.matrix_index_replay.specs.Replay.{Stands}
use Rattle.matrix_index_replay.proofs.Numbers.{row-standing, row-missing, entry_more}
use Rattle.matrix_index_replay.proofs.row_stands.Goals as goal

-- the next entry's place in the list, its column and its cursor
spot : (H : Matrix) → Ordered H → (x : List ℕ) {i k : ℕ} {c₀ c : List ℕ} → Passed H (at x) i k c₀ c → i < H.m → k < H.rho → Spot H (at x) i k c
spot H o x {i} {k} {c₀} {c} p row h = spot_of H o (at x) i row k h c p.cursors

pub returns-then-not-number_is : goal.returns-then-not-number_is
returns-then-not-number_is c =
    let lent : Matrix = matrix c.args.shape.n c.args.shape.m c.args.rho c.args.shape.gamma c.args.list.now in
    let p = spot lent c.requires.0 c.args.index.now c.loop-k.invariant.0 c.requires.1 (omega arith) in
    let s = c in
    let l = c.loop-k in
    record {
      upto = l.k;
      cursors = l.invariant.0;
      stood = l.invariant.1;
      so = λ e. absurd (never (sym e));
      not_so = λ e. (
        omega arith,
        row-missing lent s.args.index.now s.args.i l.k _ (reached _ _ p.cursor)
            c.number_is.result c.number_is.ensures (not-true _ (ap not c.if-not-number_is.true)),
      );
    }

pub loop-k-preserved : goal.loop-k-preserved
loop-k-preserved c =
    let lent : Matrix = matrix c.args.shape.n c.args.shape.m c.args.rho c.args.shape.gamma c.args.list.now in
    let p = spot lent c.requires.0 c.args.index.now c.loop-k.invariant.0 c.requires.1 (omega arith) in
    let standing : Stands lent c.args.index.now c.args.i c.loop-k.k =
    row-standing lent c.args.index.now c.args.i c.loop-k.k _ (reached _ _ p.cursor) c.number_is.result c.number_is.ensures
    (not-false _ (ap not c.if-not-number_is.false)) in
    let s = c in
    let l = c.loop-k in (
      passed-step lent s.requires.0 (at s.args.index.now) s.args.i s.requires.1 l.k s.args.cursors.now l.cursors (omega arith)
          l.invariant.0,
      entry_more lent s.args.index.now s.args.i l.k l.invariant.1 standing,
    )
