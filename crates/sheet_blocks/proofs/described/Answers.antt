-- `sheet_blocks::described` meets its contract: blocks fill the matrix, and every block row stands. Assumes nothing.
use mathlib.Core.Bool.{true, false, not}
use mathlib.Core.Path.{refl, ap}
use Prim.Native.Nat.{ℕ, ◌/◌}
use native.Mathlib.Omega.{arith}
use borrow.Author.Tests.{not-true, not-false}
use Rattle.std.proofs.Common.{rules, tests}
use Rattle.std.proofs.lemmas.Iterator.{YieldsList-from_range, cases_from_all}
use Rattle.matrix.specs.Paper.Code.{Matrix}
use Rattle.matrix.specs.Paper.Shapes.{matrix_of}
use Rattle.sheet_blocks.specs.Parts.{Says, Stands}
use Rattle.sheet_blocks.proofs.Blocks.{all-says, grid-filled, grid-says, says-not}
use Rattle.sheet_blocks.proofs.described.Goals as goal

pub returns-then-not-whole_blocks : goal.returns-then-not-whole_blocks
returns-then-not-whole_blocks c =
    let lent : Matrix = matrix_of c.args.shape c.args.list.now in
    let s = c in
    says-not (lent) s.args.z (λ g. c.whole_blocks.ensures.not_so (not-true _ (ap not c.if-not-whole_blocks.true)) (grid-filled (lent) s.args.z g))

pub returns : goal.returns
returns c =
    let a = c.args in
    let H : Matrix = matrix_of a.shape a.list.now in
    let rows : ℕ = a.shape.m / a.z in
    grid-says H a.z c.all.result c.requires (c.whole_blocks.ensures.so (not-false _ (ap not c.if-not-whole_blocks.false)))
    (all-says rows c.all.result (λ r l (s : Says (Stands H a.z r) true). s.so refl) (λ r l (s : Says (Stands H a.z r) false). s.not_so refl)
    (cases_from_all _ _ c.all.result (λ r. Says (Stands H a.z r) true) (λ r. Says (Stands H a.z r) false) c.all.ensures.ran
    (YieldsList-from_range 0 rows rows refl (omega arith)) (λ x q k. search (rules, tests)) (λ x q k. search (rules, tests))))
