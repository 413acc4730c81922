-- `sheet_to_list::on_sheet`: refusal 1 where n or m is out of range, else both fit 16 bits.
use Prim.Native.Nat.{◌*◌}
use mathlib.Core.Path.{refl, ap₂}
use native.Mathlib.Omega.{arith}
use Rattle.sheet.specs.Paper.SheetMatrix.{matrix_of_sheet}
use Rattle.sheet.proofs.Order.{too_wide, too-high}
use Rattle.sheet_bytes.proofs.Maps.{product_small}
use Rattle.sheet_to_list.proofs.Answers.{refused-matrix}
use Rattle.sheet_to_list.proofs.Sizes.{six-there}
use Rattle.sheet_to_list.proofs.on_sheet.Goals as goal

pub heading_of-h-requires : goal.heading_of-h-requires
heading_of-h-requires c = six-there c.args.sheet.now c.requires

pub overflow_mul-h : goal.overflow_mul-h
overflow_mul-h c =
    let d = c.heading_of-h.ensures in
    omega (arith, product_small _ _ d.columns_small d.size_small)

pub returns-then-h-gt1023 : goal.returns-then-h-gt1023
returns-then-h-gt1023 c =
    let s = c in
    let d = c.heading_of-h.ensures in
    refused-matrix (matrix_of_sheet s.args.sheet.now) s.args.sizes.now s.args.list.now 1 0 _
    (too_wide s.args.sheet.now (omega (arith, ap₂ ◌*◌ d.columns d.size))) refl

pub overflow_mul-h-2 : goal.overflow_mul-h-2
overflow_mul-h-2 c =
    let d = c.heading_of-h.ensures in
    omega (arith, product_small _ _ d.rows_small d.size_small)

pub returns-then-h-gt1023-2 : goal.returns-then-h-gt1023-2
returns-then-h-gt1023-2 c =
    let s = c in
    let d = c.heading_of-h.ensures in
    refused-matrix (matrix_of_sheet s.args.sheet.now) s.args.sizes.now s.args.list.now 1 0 _
    (too-high s.args.sheet.now (omega (arith, ap₂ ◌*◌ d.rows d.size))) refl
