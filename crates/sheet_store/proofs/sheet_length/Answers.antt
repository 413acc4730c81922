-- `sheet_store::sheet_length` meets its contract. Assumes nothing.
use Prim.Native.Nat.{◌*◌, ◌/◌, ◌≤◌}
use mathlib.Core.Path.{sym}
use native.Mathlib.Nat.{div-le_self}
use native.Mathlib.Omega.{arith}
use Rattle.matrix.specs.Paper.Shapes.{matrix_of}
use Rattle.sheet.proofs.MadeBytes.{made-long}
use Rattle.sheet_store.proofs.Whole.{few-places, few-shifts}
use Rattle.sheet_store.proofs.sheet_length.Goals as goal

pub overflow_cast-rows : goal.overflow_cast-rows
overflow_cast-rows c = omega (arith, div-le_self c.args.shape.m c.args.z, c.requires.1)

pub overflow_cast-columns : goal.overflow_cast-columns
overflow_cast-columns c = omega (arith, div-le_self c.args.shape.n c.args.z, c.requires.0)

pub overflow_mul-result : goal.overflow_mul-result
overflow_mul-result c =
    let places : c.args.shape.m / c.args.z * (c.args.shape.n / c.args.z) ≤ 1046529 = few-places c.args.shape.m c.args.shape.n c.args.z c.requires.1 c.requires.0 in
    omega (arith, places)

pub overflow_add-result : goal.overflow_add-result
overflow_add-result c =
    let places : c.args.shape.m / c.args.z * (c.args.shape.n / c.args.z) ≤ 1046529 = few-places c.args.shape.m c.args.shape.n c.args.z c.requires.1 c.requires.0 in
    omega (arith, places)

pub overflow_add-result-2 : goal.overflow_add-result-2
overflow_add-result-2 c =
    let places : c.args.shape.m / c.args.z * (c.args.shape.n / c.args.z) ≤ 1046529 = few-places c.args.shape.m c.args.shape.n c.args.z c.requires.1 c.requires.0 in
    omega (arith, places)

pub overflow_mul-result-2 : goal.overflow_mul-result-2
overflow_mul-result-2 c =
    let shifts : c.args.shape.m / c.args.z * c.args.shape.rho ≤ 32736 = few-shifts c.args.shape.m c.args.shape.rho c.args.z c.requires.1 c.requires.2 in
    omega (arith, shifts)

pub overflow_mul-result-3 : goal.overflow_mul-result-3
overflow_mul-result-3 c =
    let shifts : c.args.shape.m / c.args.z * c.args.shape.rho ≤ 32736 = few-shifts c.args.shape.m c.args.shape.rho c.args.z c.requires.1 c.requires.2 in
    omega (arith, shifts)

pub overflow_add-result-3 : goal.overflow_add-result-3
overflow_add-result-3 c =
    let places : c.args.shape.m / c.args.z * (c.args.shape.n / c.args.z) ≤ 1046529 = few-places c.args.shape.m c.args.shape.n c.args.z c.requires.1 c.requires.0 in
    let shifts : c.args.shape.m / c.args.z * c.args.shape.rho ≤ 32736 = few-shifts c.args.shape.m c.args.shape.rho c.args.z c.requires.1 c.requires.2 in
    omega (arith, places, shifts)

pub returns : goal.returns
returns c =
    let places : c.args.shape.m / c.args.z * (c.args.shape.n / c.args.z) ≤ 1046529 = few-places c.args.shape.m c.args.shape.n c.args.z c.requires.1 c.requires.0 in
    let shifts : c.args.shape.m / c.args.z * c.args.shape.rho ≤ 32736 = few-shifts c.args.shape.m c.args.shape.rho c.args.z c.requires.1 c.requires.2 in
    let s = c in
    (λ list. sym (made-long (matrix_of s.args.shape list) s.args.z), omega (arith, places, shifts))
