-- `sheet_to_list::shape_of`: each size as the sheet has it, and small enough for 16 bits.
use native.Mathlib.Omega.{arith}
use Rattle.sheet_to_list.proofs.Sizes.{first-there, row_small, low_small, shape-own}
use Rattle.sheet_to_list.proofs.shape_of.Goals as goal

pub set_from-rho-requires : goal.set_from-rho-requires
set_from-rho-requires c =
    let s = c in
    (first-there s.args.sheet.now s.args.h s.requires, omega (arith, s.requires.headed.columns_small))

pub overflow_cast-result-3 : goal.overflow_cast-result-3
overflow_cast-result-3 c =
    let s = c in
    omega (arith, c.set_from-rho.ensures, row_small s.args.sheet.now s.args.h s.requires)

pub overflow_cast-result-4 : goal.overflow_cast-result-4
overflow_cast-result-4 c =
    let s = c in
    omega (arith, c.fewest-gamma.ensures, low_small s.args.sheet.now s.args.h s.requires)

pub returns : goal.returns
returns c =
    let s = c in
    shape-own s.args.sheet.now s.args.h s.requires _ _ c.set_from-rho.ensures c.fewest-gamma.ensures
