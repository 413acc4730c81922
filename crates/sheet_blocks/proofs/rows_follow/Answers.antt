-- `sheet_blocks::rows_follow` meets its contract: a row follows where it has no strays. Assumes nothing.
use mathlib.Core.Path.{◌≡◌, refl}
use mathlib.Core.Bool.{true, false}
use Prim.Native.Nat.{ℕ}
use native.Mathlib.Omega.{arith}
use lib.Dec.{eqb}
use Rattle.std.proofs.Common.{rules, tests}
use Rattle.std.proofs.lemmas.Iterator.{YieldsList-from_range, cases_from_all}
use Rattle.counting.specs.Paper.Sum.{sum_below}
use Rattle.matrix.specs.Paper.Code.{Matrix}
use Rattle.matrix.specs.Paper.Shapes.{matrix_of}
use Rattle.sheet_blocks.specs.Parts.{strays}
use Rattle.sheet_blocks.proofs.Blocks.{all-says, row-follows, row-strays, follows-says}
use Rattle.sheet_blocks.proofs.rows_follow.Goals as goal

pub returns : goal.returns
returns c =
    let a = c.args in
    let H : Matrix = matrix_of a.shape a.list.now in
    let none = λ (i : ℕ). eqb (sum_below H.rho (strays H.list H.rho a.z a.r i)) 0 in
    follows-says H a.z a.r c.all.result
    (all-says a.z c.all.result (λ i l. row-follows H a.z a.r i) (λ i l. row-strays H a.z a.r i)
    (cases_from_all _ _ c.all.result (λ i. none i ≡ true) (λ i. none i ≡ false) c.all.ensures.ran (YieldsList-from_range 0 a.z a.z refl (omega arith))
    (λ x q k. search (rules, tests)) (λ x q k. search (rules, tests))))
