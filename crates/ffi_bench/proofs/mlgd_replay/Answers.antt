-- `ffi_bench::mlgd_replay` meets its contract: 1 where the replay finds the index to be the matrix's own, else 0. Assumes nothing.
use mathlib.Core.Path.{subst}
use native.Mathlib.Omega.{arith}
use Rattle.matrix.specs.Paper.Code.{Matrix, matrix}
use Rattle.matrix_index_replay.specs.Replay.{Replayed}
use Rattle.ffi_bench.proofs.mlgd_replay.Goals as goal

pub returns-then-replay : goal.returns-then-replay
returns-then-replay c =
    let lent : Matrix = matrix c.args.n c.args.m c.args.rho c.args.gamma c.args.list.now in
    let s = c in
    (subst (Replayed (lent) s.args.index.now) c.if-replay.true c.replay.ensures, omega arith)

pub returns : goal.returns
returns c =
    let lent : Matrix = matrix c.args.n c.args.m c.args.rho c.args.gamma c.args.list.now in
    let s = c in
    (subst (Replayed (lent) s.args.index.now) c.if-replay.false c.replay.ensures, omega arith)
