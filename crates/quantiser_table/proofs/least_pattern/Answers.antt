use Prim.Native.Nat.{◌*◌, ◌^◌}
use native.Mathlib.Omega.{arith}
use Rattle.quantiser_table.proofs.Rising.{between-all, between-one, beyond}
use Rattle.quantiser_table.proofs.least_pattern.Goals as goal

pub returns-then-scale-q : goal.returns-then-scale-q
returns-then-scale-q c =
    let s = c.args.scale in
    beyond s.gain s.top (s.sig * 2 ^ s.shift) c.if-scale-q.true

pub overflow_add-near : goal.overflow_add-near
overflow_add-near c = omega (arith, c.requires.1)

pub narrowed-below-requires : goal.narrowed-below-requires
narrowed-below-requires c =
    let z = c in
    let s = z.args.scale in
    (z.requires.0, between-all s.gain s.top (s.sig * 2 ^ s.shift))

pub narrowed-s-requires : goal.narrowed-s-requires
narrowed-s-requires c = (c.requires.0, c.narrowed-below.ensures.0)

pub loop-s-init : goal.loop-s-init
loop-s-init c = c.narrowed-s.ensures.0

pub overflow_add-c : goal.overflow_add-c
overflow_add-c c = let i = c.loop-s.invariant in omega (arith, i.order, i.most)

pub narrowed-s-requires-in-loop-s : goal.narrowed-s-requires-in-loop-s
narrowed-s-requires-in-loop-s c = (c.requires.0, c.loop-s.invariant)

pub loop-s-smaller : goal.loop-s-smaller
loop-s-smaller c = c.narrowed-s-in-loop-s.ensures.2 (omega arith) (omega arith)

pub loop-s-preserved : goal.loop-s-preserved
loop-s-preserved c = c.narrowed-s-in-loop-s.ensures.0

pub returns : goal.returns
returns c =
    let s = c.args.scale in
    between-one s.gain s.top (s.sig * 2 ^ s.shift) (omega arith) c.loop-s.invariant
