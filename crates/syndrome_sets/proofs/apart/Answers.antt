use mathlib.Core.Path.{◌≡◌}
use native.Mathlib.Omega.{arith}
use Rattle.syndrome_sets.proofs.Counts.{ones_none, ones_step, words-none, words_step, word-most, sums-few, words-sets}
use Rattle.syndrome_sets.proofs.apart.Goals as goal

pub loop-w-init : goal.loop-w-init
loop-w-init c = (ones_none c.args.a.now c.args.b.now, words-none c.args.a.now c.args.b.now)

pub overflow_add-t : goal.overflow_add-t
overflow_add-t c =
    let a = c.args in
    let o = c.loop-w in
    omega (
      arith,
      c.requires,
      sums-few a.a.now a.b.now o.w o.t o.invariant.1,
      word-most c.word_apart-t.result _ _ c.word_apart-t.ensures.1,
    )

pub loop-w-preserved : goal.loop-w-preserved
loop-w-preserved c =
    let a = c.args in
    let o = c.loop-w in (
      ones_step a.a.now a.b.now o.w o.t c.word_apart-t.result o.invariant.0 c.word_apart-t.ensures.0,
      words_step a.a.now a.b.now o.w o.t c.word_apart-t.result o.invariant.1 c.word_apart-t.ensures.1,
    )

pub returns : goal.returns
returns c =
    let a = c.args in
    let o = c.loop-w in
    let e : o.w ≡ a.words = omega arith in
    let sum = rw e at o.invariant in
    (sum.0, words-sets a.a.now a.b.now a.words o.t sum.1)
