use mathlib.Core.Path.{◌≡◌, sym, ap, ap₂, ◌∙◌}
use mathlib.Core.Bool.{true, false, not, ◌||◌}
use Prim.Native.Nat.{◌/◌, ◌<◌}
use native.Mathlib.Omega.{arith}
use borrow.Author.Tests.{not-false}
use lib.ListN.{length}
use lib.Ieee.{binary32, of_bits}
use Rattle.counting.proofs.Writes.{over_none, over-step}
use Rattle.counting.proofs.Searches.{any_none, any_step, any-clear, first-none, first-at}
use Rattle.byte_numbers.specs.Paper.Numbers.{sample_in, not_finite_in}
use Rattle.byte_numbers.proofs.Patterns.{no_nan}
use Rattle.byte_numbers.proofs.Floats.{sample-of, not-finite-at}
use Rattle.byte_numbers.proofs.samples.Goals as goal

pub loop-i-init : goal.loop-i-init
loop-i-init c = (
  any_none _ 0 (λ j l. absurd (omega arith)),
  sym
      (over_none (sample_in c.args.bytes.now) c.args.xs.now),
)

pub returns-then-not-finite_pattern : goal.returns-then-not-finite_pattern
returns-then-not-finite_pattern c =
    let l = c in
    let bs = l.args.bytes.now in
    let t = not_finite_in bs in
    let h : l.loop-i.i < length bs / 4 = omega arith in
    let off : t l.loop-i.i ≡ true =
    not-finite-at bs l.loop-i.i c.number32-p.result c.number32-p.ensures
    ∙ sym (ap not c.finite_pattern.ensures) ∙ (ap not c.if-not-finite_pattern.true) in
    (record { place = sym (first-at t (length bs / 4) l.loop-i.i h (any-clear t l.loop-i.i l.loop-i.invariant.0) off); cells = l.loop-i.invariant.1 }, h)

pub float_from_bits-xs : goal.float_from_bits-xs
float_from_bits-xs c = no_nan c.number32-p.result (sym c.finite_pattern.ensures ∙ not-false _ (ap not c.if-not-finite_pattern.false))

pub loop-i-preserved : goal.loop-i-preserved
loop-i-preserved c =
    let l = c in
    let s = l in
    let bs = s.args.bytes.now in
    let t = not_finite_in bs in
    let p = c.number32-p.result in
    let e = c.number32-p.ensures in
    let room : l.loop-i.i < length s.args.xs.now = omega arith in
    let on : t l.loop-i.i ≡ false = not-finite-at bs l.loop-i.i p e ∙ sym (ap not c.finite_pattern.ensures) ∙ (ap not c.if-not-finite_pattern.false) in (
      any_step t l.loop-i.i ∙ ap₂ ◌||◌ l.loop-i.invariant.0 on,
      over-step l.loop-i.i (sample_in bs) s.args.xs.now l.loop-i.xs l.loop-i.invariant.1 (of_bits binary32 p) room (sample-of bs l.loop-i.i p e),
    )

pub returns : goal.returns
returns c =
    let l = c in
    let bs = l.args.bytes.now in
    let t = not_finite_in bs in
    let all : l.loop-i.i ≡ length bs / 4 = omega arith in
    record {
      place = sym (first-none t (length bs / 4) (λ j h. any-clear t l.loop-i.i l.loop-i.invariant.0 j (omega arith)));
      cells = rw (sym all) l.loop-i.invariant.1;
    }
