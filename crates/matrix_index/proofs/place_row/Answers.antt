use mathlib.Core.List.{List}
use Prim.Native.Nat.{ℕ, ◌+◌, ◌*◌, ◌<◌}
use mathlib.Core.Path.{◌≡◌, ap}
use native.Mathlib.Omega.{arith}
use lib.ListN.{length}
use Rattle.counting.specs.Places.{at}
use Rattle.matrix.specs.Paper.Code.{Matrix}
use Rattle.matrix.specs.Paper.Shapes.{matrix_of}
use Rattle.matrix.specs.Ordered.{Ordered}
use Rattle.matrix.specs.Paper.PlainCheck.{Accepted}
use Rattle.matrix_index.specs.Filling.{Passed}
use Rattle.matrix.proofs.Ordered.{accepted-ordered}
use Rattle.matrix_index.specs.Paper.Index.{column_start}
use Rattle.matrix_index.proofs.Cursors.{Spot, spot_of, spot-place, spot-inside, spot-low, reached, passed_none, passed-step, passed-row}
use Rattle.matrix_index.proofs.Filling.{put_next, put-long, put-none}
use Rattle.matrix_index.proofs.place_row.Goals as goal

-- the next entry's place in the list, its column and its cursor
spot : (H : Matrix) → Accepted H → {i k : ℕ} {c₀ c : List ℕ} → Passed H (column_start H) i k c₀ c → i < H.m → k < H.rho → Spot H (column_start H) i k c
spot H a {i} {k} {c₀} {c} p row h = spot_of H (accepted-ordered H a) (column_start H) i row k h c p.cursors

-- the cursor is low
low : (H : Matrix) → Accepted H → {i k : ℕ} {c₀ c : List ℕ} → Passed H (column_start H) i k c₀ c → i < H.m → k < H.rho → at c (at H.list (i * H.rho + k)) < 32736
low H a {i} {k} {c₀} {c} p row h = spot-low H a i k row h c (spot H a p row h)

pub loop-k-init : goal.loop-k-init
loop-k-init c =
    let lent : Matrix = matrix_of c.args.shape c.args.list.now in
    let ordered : Ordered lent = accepted-ordered lent c.requires.0 in
    let s = c in (
      passed_none lent ordered (column_start lent) s.args.i s.args.cursors.now s.requires.2,
      put-none lent s.args.i s.args.index.now,
    )

pub bounds-cursors-j : goal.bounds-cursors-j
bounds-cursors-j c = let p = spot (matrix_of c.args.shape c.args.list.now) c.requires.0 c.loop-k.invariant.0 c.requires.1 (omega arith) in omega (arith, p.column, c.loop-k.invariant.0.cursors.long)

pub bounds-index-base : goal.bounds-index-base
bounds-index-base c =
    let lent : Matrix = matrix_of c.args.shape c.args.list.now in
    let s = c in
    let l = c.loop-k in
    omega (
      arith,
      spot-inside lent s.requires.0 s.args.i l.k s.requires.1 (omega arith) l.cursors (spot lent s.requires.0 l.invariant.0 s.requires.1 (omega arith)),
      s.requires.3,
      ap length l.invariant.1,
      put-long lent s.args.i l.k s.args.index.now,
    )

pub overflow_cast-cursors : goal.overflow_cast-cursors
overflow_cast-cursors c = let l = low (matrix_of c.args.shape c.args.list.now) c.requires.0 c.loop-k.invariant.0 c.requires.1 (omega arith) in omega (arith, l)

pub bounds-cursors-j-in-loop-k : goal.bounds-cursors-j-in-loop-k
bounds-cursors-j-in-loop-k c = let p = spot (matrix_of c.args.shape c.args.list.now) c.requires.0 c.loop-k.invariant.0 c.requires.1 (omega arith) in omega (arith, p.column, c.loop-k.invariant.0.cursors.long)

pub loop-k-preserved : goal.loop-k-preserved
loop-k-preserved c =
    let lent : Matrix = matrix_of c.args.shape c.args.list.now in
    let ordered : Ordered lent = accepted-ordered lent c.requires.0 in
    let s = c in
    let l = c.loop-k in (
      passed-step lent ordered (column_start lent) s.args.i s.requires.1 l.k s.args.cursors.now l.cursors (omega arith) l.invariant.0,
      put_next lent s.args.i l.k _ s.args.index.now l.index
          (reached _ _ (spot-place lent s.requires.0 s.args.i l.k s.requires.1 (omega arith) l.cursors (spot lent s.requires.0 l.invariant.0 s.requires.1 (omega arith))))
          l.invariant.1,
    )

pub returns : goal.returns
returns c =
    let lent : Matrix = matrix_of c.args.shape c.args.list.now in
    let ordered : Ordered lent = accepted-ordered lent c.requires.0 in
    let s = c in
    let l = c.loop-k in
    let e : l.k ≡ s.args.shape.rho = omega arith in
    let p = passed-row lent ordered (column_start lent) s.args.i s.requires.1 s.args.cursors.now l.cursors (rw e at l.invariant.0) in
    (p, rw e at l.invariant.1)
