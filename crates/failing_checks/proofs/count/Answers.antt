-- `failing_checks::count` meets its contract: the count is that of the unpacked word. Assumes nothing.
use mathlib.Core.Path.{◌∙◌}
use native.Mathlib.Omega.{arith}
use lib.ListN.{replicate}
use Rattle.matrix.specs.Paper.Shapes.{matrix_of}
use Rattle.syndrome.proofs.Unpacked.{unpacked-word, unpacked-failing}
use Rattle.failing_checks.proofs.count.Goals as goal

pub unpack-requires : goal.unpack-requires
unpack-requires c =
    let s = c in
    (s.requires.0.sizes.n_most, omega (arith, s.requires.1))

pub failing_count-requires : goal.failing_count-requires
failing_count-requires c =
    let s = c in
    let H = matrix_of s.args.shape s.args.list.now in
    let u = c.unpack in
    (s.requires.0, unpacked-word H s.args.received.now (replicate 1023 0) u.new.bits u.ensures)

pub returns : goal.returns
returns c =
    let s = c in
    let H = matrix_of s.args.shape s.args.list.now in
    let u = c.unpack in
    c.failing_count.ensures ∙ unpacked-failing H s.args.received.now (replicate 1023 0) u.new.bits u.ensures s.requires.0.rows
