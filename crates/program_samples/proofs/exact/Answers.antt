-- `program_samples::exact` meets its contract: refusal 8's place, or the samples' bits, kept levels and marks. Assumes nothing.
use mathlib.Core.Path.{◌≡◌, refl, sym, ap, ◌∙◌}
use Prim.Native.Nat.{◌/◌, ◌<◌}
use native.Mathlib.Omega.{arith}
use lib.ListN.{length}
use Rattle.quantiser_bytes.proofs.Blocks.{samples-n, all-written}
use Rattle.program_samples.proofs.Blocks.{taken_refused, exact-fillable, exact-bounded, taken-exact}
use Rattle.program_samples.proofs.exact.Goals as goal

pub returns-in-Some : goal.returns-in-Some
returns-in-Some c =
    let place = c.in-Some.place in
    let before : place < c.args.n = omega (arith, c.requires.bytes, c.in-Some.ensures.1) in
    (taken_refused _ _ _ _ _ _ _ c.requires place c.in-Some.ensures.0 before, before)

pub slice_bounds-fill-end : goal.slice_bounds-fill-end
slice_bounds-fill-end c =
    let i = c in
    let f = i in
    let s = f in
    let whole : length s.args.bytes.now / 4 ≡ s.args.n = omega (arith, s.requires.bytes) in
    let w = rw whole at f.in_default.ensures in
    sym (ap length (all-written s.args.n s.args.bytes.now s.requires.bytes s.args.n w (omega arith))
    ∙ samples-n s.args.n s.args.bytes.now s.requires.bytes)

pub fill-requires : goal.fill-requires
fill-requires c =
    let i = c in
    let f = i in
    let s = f in
    let whole : length s.args.bytes.now / 4 ≡ s.args.n = omega (arith, s.requires.bytes) in
    let w = rw whole at f.in_default.ensures in
    exact-fillable _ _ _ _ _ _ _ s.requires s.args.n w (omega arith) _
    (all-written s.args.n s.args.bytes.now s.requires.bytes s.args.n w (omega arith)) _ refl

pub bias-requires : goal.bias-requires
bias-requires c =
    let i = c in
    let f = i in
    let s = f in
    let whole : length s.args.bytes.now / 4 ≡ s.args.n = omega (arith, s.requires.bytes) in
    let w = rw whole at f.in_default.ensures in (
      exact-bounded _ _ _ _ _ _ _ s.requires s.args.n w (omega arith) _
          (all-written s.args.n s.args.bytes.now s.requires.bytes s.args.n w (omega arith)) _ _ refl _
          c.fill.ensures,
      s.requires.long_kept,
    )

pub returns : goal.returns
returns c =
    let b = c in
    let i = b in
    let f = i in
    let s = f in
    let whole : length s.args.bytes.now / 4 ≡ s.args.n = omega (arith, s.requires.bytes) in
    let w = rw whole at f.in_default.ensures in (
      taken-exact _ _ _ _ _ _ _ s.requires s.args.n w (omega arith) _ (all-written s.args.n s.args.bytes.now s.requires.bytes s.args.n w (omega arith)) _ _
          refl _ b.fill.ensures b.bias.ensures c.mark.ensures,
      tt,
    )
