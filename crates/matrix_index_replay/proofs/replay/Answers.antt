-- `matrix_index_replay::replay`: a list is not the matrix's own if its length is another, its first number is not 0, or a row or an end of a column is wrong.
use mathlib.Core.Path.{sym}
use native.Mathlib.Omega.{arith}
use Rattle.counting.proofs.Searches.{never}
use Rattle.matrix.specs.Paper.Code.{Matrix}
use Rattle.matrix.specs.Paper.Shapes.{matrix_of}
use Rattle.matrix_index.proofs.Filling.{size_is}
use Rattle.matrix_index_replay.proofs.replay.Goals as goal

pub returns-then-index-size : goal.returns-then-index-size
returns-then-index-size c =
    let lent : Matrix = matrix_of c.args.shape c.args.list.now in
    let s = c in
    record { so = λ e. absurd (never (sym e)); not_so = λ e o. omega (arith, o.long, size_is (lent)) }

pub returns-then-index-ne0 : goal.returns-then-index-ne0
returns-then-index-ne0 c = record { so = λ e. absurd (never (sym e)); not_so = λ e o. c.if-index-ne0.true o.begins }

pub rows_stand-requires : goal.rows_stand-requires
rows_stand-requires c =
    let lent : Matrix = matrix_of c.args.shape c.args.list.now in
    let s = c in
    (s.requires, omega (arith, size_is (lent)))

pub returns : goal.returns
returns c =
    let lent : Matrix = matrix_of c.args.shape c.args.list.now in
    let s = c in
    let r = c.rows_stand.ensures in
    record {
      so = λ e. record { long = omega (arith, size_is (lent)); begins = c.if-index-ne0.false; parts = (r.so e).1; rows = (r.so e).0 };
      not_so = λ e o. r.not_so e o.rows o.parts;
    }
