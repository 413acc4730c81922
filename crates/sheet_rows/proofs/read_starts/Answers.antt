use Prim.Native.Nat.{◌*◌, ◌≤◌}
use mathlib.Core.Path.{ap}
use native.Mathlib.Omega.{arith}
use Rattle.sheet_rows.proofs.Lent.{place_small, place_there, place-bit, set-none, set_more}
use Rattle.sheet_rows.proofs.Starting.{starts_none, starts_more, few-before}
use Rattle.sheet_rows.proofs.read_starts.Goals as goal

pub loop-c-init : goal.loop-c-init
loop-c-init c =
    let s = c in (
      set-none s.args.bytes.now s.args.h s.requires.0.headed s.args.r,
      starts_none s.args.bytes.now s.args.r s.args.starts.now s.requires.2,
    )

pub offset_bounds-starts-k : goal.offset_bounds-starts-k
offset_bounds-starts-k c =
    let few : c.loop-c.k ≤ 32 = let s = c in
    omega (
      arith,
      c.loop-c.invariant.0,
      few-before s.args.bytes.now s.args.h s.args.rho s.requires.0 s.args.r s.requires.1 c.loop-c.c c.loop-c.auto.c-end,
      s.requires.0.few,
    ) in
    omega (arith, few)

pub bounds-starts-k : goal.bounds-starts-k
bounds-starts-k c =
    let few : c.loop-c.k ≤ 32 = let s = c in
    omega (
      arith,
      c.loop-c.invariant.0,
      few-before s.args.bytes.now s.args.h s.args.rho s.requires.0 s.args.r s.requires.1 c.loop-c.c c.loop-c.auto.c-end,
      s.requires.0.few,
    ) in
    omega (arith, few, c.loop-c.invariant.1.long)

pub map_bit-k-requires : goal.map_bit-k-requires
map_bit-k-requires c =
    let s = c in
    let b = c.loop-c.c in (
      place_there s.args.bytes.now s.requires.0.sheet s.args.h s.requires.0.headed s.args.r b s.requires.1 (omega arith),
      omega (arith, place_small s.args.bytes.now s.requires.0.sheet s.args.h s.requires.0.headed s.args.r b s.requires.1 (omega arith)),
    )

pub overflow_add-k : goal.overflow_add-k
overflow_add-k c =
    let few : c.loop-c.k ≤ 32 = let s = c in
    omega (
      arith,
      c.loop-c.invariant.0,
      few-before s.args.bytes.now s.args.h s.args.rho s.requires.0 s.args.r s.requires.1 c.loop-c.c c.loop-c.auto.c-end,
      s.requires.0.few,
    ) in
    let s = c in
    let l = c.loop-c in
    omega (
      arith,
      few,
      c.map_bit-k.ensures,
      place-bit s.args.bytes.now s.args.h s.requires.0.headed s.args.r l.c,
    )

pub loop-c-preserved : goal.loop-c-preserved
loop-c-preserved c =
    let few : c.loop-c.k ≤ 32 = let s = c in
    omega (
      arith,
      c.loop-c.invariant.0,
      few-before s.args.bytes.now s.args.h s.args.rho s.requires.0 s.args.r s.requires.1 c.loop-c.c c.loop-c.auto.c-end,
      s.requires.0.few,
    ) in
    let s = c in
    let l = c.loop-c in (
      omega (arith, l.invariant.0, c.map_bit-k.ensures, set_more s.args.bytes.now s.args.h s.requires.0.headed s.args.r l.c),
      starts_more s.args.bytes.now s.args.r l.c l.k _ l.starts l.invariant.1 l.invariant.0
          (few) (ap (λ z. l.c * z) s.requires.0.headed.size),
    )
