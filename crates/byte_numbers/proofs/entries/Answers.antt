use mathlib.Core.Path.{◌≡◌, sym, ap, ◌∙◌}
use Prim.Native.Nat.{ℕ, ◌/◌, ◌<◌}
use native.Mathlib.Omega.{arith}
use lib.ListN.{length}
use Rattle.counting.specs.Paper.Lists.{listed, over}
use Rattle.counting.proofs.Writes.{over_none, over-step}
use Rattle.byte_numbers.specs.Paper.Numbers.{entry_in, entries_in}
use Rattle.byte_numbers.proofs.entries.Goals as goal

pub loop-i-init : goal.loop-i-init
loop-i-init c = sym (over_none (entry_in c.args.bytes.now) c.args.list.now)

pub loop-i-preserved : goal.loop-i-preserved
unfolding entry_in
loop-i-preserved c =
    let l = c in
    let s = l in
    let room : l.loop-i.i < length s.args.list.now = omega arith in
    over-step l.loop-i.i (entry_in s.args.bytes.now) s.args.list.now l.loop-i.list l.loop-i.invariant c.number16.result room c.number16.ensures

pub returns : goal.returns
unfolding entries_in
returns c =
    let l = c in
    let s = l in
    let all : l.loop-i.i ≡ length s.args.bytes.now / 2 = omega arith in
    l.loop-i.invariant ∙ ap (λ (k : ℕ). over (listed k (entry_in s.args.bytes.now)) s.args.list.now) all
