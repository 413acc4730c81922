-- `syndrome::failing_rows`: the rows that are listed by their parities are those whose checks fail.
use native.Mathlib.Omega.{arith}
use Rattle.counting.specs.Places.{at}
use Rattle.matrix.specs.Paper.Code.{fails}
use Rattle.matrix.specs.Paper.Shapes.{matrix_of}
use Rattle.syndrome.proofs.Parity.{checks, parity-at, parity-bit}
use Rattle.syndrome.proofs.Lists.{listed-cong}
use Rattle.syndrome.proofs.failing_rows.Goals as goal

pub row_parities-requires : goal.row_parities-requires
row_parities-requires c =
    let s = c in
    (checks (matrix_of s.args.shape s.args.list.now) s.requires.0 (at s.args.bits.now) s.requires.1, omega arith)

pub list_odd-requires : goal.list_odd-requires
list_odd-requires c =
    let s = c in
    let p = c.row_parities in
    (s.requires.0.sizes.m_most, parity-bit (matrix_of s.args.shape s.args.list.now) (at s.args.bits.now) _ _ p.ensures, omega arith)

pub returns : goal.returns
returns c =
    let s = c in
    let H = matrix_of s.args.shape s.args.list.now in
    let p = c.row_parities in
    listed-cong _ (fails H (at s.args.bits.now)) s.args.shape.m _ _ _ (parity-at H (at s.args.bits.now) _ _ p.ensures) c.list_odd.ensures
