-- `sheet_bytes::wrong_length` meets its contract: the first block row is counted for all. Assumes nothing.
use Prim.Native.Nat.{◌*◌, ◌≤◌}
use native.Mathlib.Omega.{arith}
use Rattle.sheet_bytes.proofs.Maps.{product_small, places-few, from-few}
use Rattle.sheet_bytes.proofs.Faults.{wrong-is}
use Rattle.sheet_bytes.proofs.wrong_length.Goals as goal

pub overflow_mul-result : goal.overflow_mul-result
overflow_mul-result c =
    let shifts-few : c.args.h.rows * c.set_from-rho.result ≤ 4294836225 = let s = c in
    let d = s.requires.0 in
    product_small s.args.h.rows c.set_from-rho.result d.rows_small
    (omega (arith, c.set_from-rho.ensures, from-few s.args.bytes.now 0 s.args.h.columns, d.columns_small)) in
    omega (arith, shifts-few)

pub overflow_mul-result-2 : goal.overflow_mul-result-2
overflow_mul-result-2 c =
    let shifts-few : c.args.h.rows * c.set_from-rho.result ≤ 4294836225 = let s = c in
    let d = s.requires.0 in
    product_small s.args.h.rows c.set_from-rho.result d.rows_small
    (omega (arith, c.set_from-rho.ensures, from-few s.args.bytes.now 0 s.args.h.columns, d.columns_small)) in
    omega (arith, shifts-few)

pub overflow_add-result : goal.overflow_add-result
overflow_add-result c =
    let shifts-few : c.args.h.rows * c.set_from-rho.result ≤ 4294836225 = let s = c in
    let d = s.requires.0 in
    product_small s.args.h.rows c.set_from-rho.result d.rows_small
    (omega (arith, c.set_from-rho.ensures, from-few s.args.bytes.now 0 s.args.h.columns, d.columns_small)) in
    let few : c.map_bytes-shifts.result ≤ 4294967296 = omega (arith, places-few c.requires.0, c.map_bytes-shifts.ensures) in
    omega (arith, shifts-few, few)

pub returns : goal.returns
returns c =
    let s = c in
    wrong-is s.requires.0 c.map_bytes-shifts.result c.set_from-rho.result
    c.map_bytes-shifts.ensures c.set_from-rho.ensures
