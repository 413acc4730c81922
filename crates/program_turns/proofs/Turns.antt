-- Laws of the blocks that are read at once.
--   at-once   == they fit both buffers, and none is past the 65,535th
--   many      == the same of `at_once`
-- Assumes nothing.
use mathlib.Core.Path.{refl}
use Prim.Native.Nat.{ℕ, min, ◌*◌, ◌-◌, ◌/◌, ◌≤◌, ◌<◌}
use native.Mathlib.Nat.{le_refl, mul_left_comm, mul-le-mul_right, le-div_iff_mul-le}
use native.Mathlib.Omega.{arith}
use Rattle.program_turns.specs.Turns.{at_once, AtOnce}

-- blocks that fit the input buffer, at most 200, and no more than are left
pub at-once : (n i : ℕ) → 2 ≤ n → n ≤ 1023 → i ≤ 65535 → AtOnce n i (min (min (16368 / n) 200) (65535 - i))
unfolding at_once
at-once n i least most left =
    let k = min (min (16368 / n) 200) (65535 - i) in
    let some : 0 < n = omega arith in
    let one : 1 ≤ 16368 / n = (le-div_iff_mul-le some).1 (omega arith) in
    let all : 16368 / n * n ≤ 16368 = (le-div_iff_mul-le some).0 (le_refl (16368 / n)) in
    let part : k * n ≤ 16368 / n * n = mul-le-mul_right n (omega arith) in
    record {
      some = λ l. omega arith;
      few = omega arith;
      fits = rw (mul_left_comm k 4 n) (omega arith);
      numbers = omega arith;
      count = refl;
    }

-- the same of the definition
pub many : (n i : ℕ) → 2 ≤ n → n ≤ 1023 → i ≤ 65535 → AtOnce n i (at_once n i)
unfolding at_once
many n i least most left = at-once n i least most left
