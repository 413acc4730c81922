-- `majority_bytes::wide` meets its contract: each of the six words is at most 0x0101010101010101, so the sums fit. Assumes nothing.
use native.Mathlib.Omega.{arith}
use Rattle.majority_bytes.proofs.Spreads.{spread-most, wide-planes}
use Rattle.majority_bytes.proofs.wide.Goals as goal

pub overflow_mul-low : goal.overflow_mul-low
overflow_mul-low c = omega (arith, spread-most _ _ c.spread-2.ensures)

pub overflow_add-low : goal.overflow_add-low
overflow_add-low c = omega (arith, spread-most _ _ c.spread.ensures, spread-most _ _ c.spread-2.ensures)

pub overflow_mul-low-2 : goal.overflow_mul-low-2
overflow_mul-low-2 c = omega (arith, spread-most _ _ c.spread-3.ensures)

pub overflow_add-low-2 : goal.overflow_add-low-2
overflow_add-low-2 c =
    omega (
      arith,
      spread-most _ _ c.spread.ensures,
      spread-most _ _ c.spread-2.ensures,
      spread-most _ _ c.spread-3.ensures,
    )

pub overflow_mul-high : goal.overflow_mul-high
overflow_mul-high c = omega (arith, spread-most _ _ c.spread-5.ensures)

pub overflow_add-high : goal.overflow_add-high
overflow_add-high c = omega (arith, spread-most _ _ c.spread-4.ensures, spread-most _ _ c.spread-5.ensures)

pub overflow_mul-high-2 : goal.overflow_mul-high-2
overflow_mul-high-2 c = omega (arith, spread-most _ _ c.spread-6.ensures)

pub overflow_add-high-2 : goal.overflow_add-high-2
overflow_add-high-2 c =
    omega (
      arith,
      spread-most _ _ c.spread-4.ensures,
      spread-most _ _ c.spread-5.ensures,
      spread-most _ _ c.spread-6.ensures,
    )

pub overflow_mul-result : goal.overflow_mul-result
overflow_mul-result c =
    omega (
      arith,
      spread-most _ _ c.spread-4.ensures,
      spread-most _ _ c.spread-5.ensures,
      spread-most _ _ c.spread-6.ensures,
    )

pub overflow_add-result : goal.overflow_add-result
overflow_add-result c =
    omega (
      arith,
      spread-most _ _ c.spread.ensures,
      spread-most _ _ c.spread-2.ensures,
      spread-most _ _ c.spread-3.ensures,
      spread-most _ _ c.spread-4.ensures,
      spread-most _ _ c.spread-5.ensures,
      spread-most _ _ c.spread-6.ensures,
    )

pub returns : goal.returns
returns c =
    let low = c in
    let a = low.args in
    wide-planes a.planes.now a.w a.s _ _ _ _ _ _ low.spread.ensures low.spread-2.ensures
    low.spread-3.ensures c.spread-4.ensures c.spread-5.ensures c.spread-6.ensures
