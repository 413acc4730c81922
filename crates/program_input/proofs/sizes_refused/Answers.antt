-- `program_input::sizes_refused` meets its contract: the number of the check's verdict is 1 exactly where the sizes are out of range. Assumes nothing.
use mathlib.Core.Path.{refl, sym, ap, ◌∙◌}
use mathlib.Core.List.{[]}
use Prim.Native.Nat.{ℕ}
use lib.Dec.{eqb}
use Rattle.std.proofs.Common.{Result}
use Rattle.answers.specs.declared.Refusal.{Refusal}
use Rattle.answers.specs.Paper.Answers.{Verdict}
use Rattle.answers.specs.Paper.Enums.{verdict_of}
use Rattle.matrix.specs.Paper.Shapes.{matrix_of}
use Rattle.program_input.proofs.Openings.{number_in, sizes-alone}
use Rattle.program_input.proofs.sizes_refused.Goals as goal

pub returns-in-Ok : goal.returns-in-Ok
returns-in-Ok c =
    let k = c in
    let H = matrix_of k.args.shape [] in
    ap (λ (a : Result Unit Refusal). eqb (number_in (verdict_of a)) 1) (sym c.in-Ok.is) ∙ ap (λ (v : Verdict). eqb (number_in v) 1) k.check.ensures
    ∙ sizes-alone H refl

pub returns-in-Err : goal.returns-in-Err
returns-in-Err c =
    let k = c in
    let H = matrix_of k.args.shape [] in
    ap (λ (x : ℕ). eqb x 1) c.number.ensures
    ∙ ap (λ (a : Result Unit Refusal). eqb (number_in (verdict_of a)) 1) (sym c.in-Err.is)
    ∙ ap (λ (v : Verdict). eqb (number_in v) 1) k.check.ensures
    ∙ sizes-alone H refl
