use mathlib.Core.Path.{◌≡◌, sym, ap, ◌∙◌}
use mathlib.Core.Bool.{true, false}
use Prim.Native.Nat.{ℕ, ◌+◌, ◌<◌}
use native.Mathlib.Nat.{add-zero}
use native.Mathlib.Omega.{arith}
use borrow.Author.Count.{below_more}
use borrow.Author.Tests.{le-leb, lt-leb}
use Rattle.counting.proofs.Searches.{first-none, first-at}
use Rattle.matrix_weights.specs.Weights.{entry_at, bad_in_row}
use Rattle.matrix_weights.proofs.Weights.{bad-first, bad-next, good-below, tally-next, tally-room}
use Rattle.matrix_weights.proofs.walk_row.Goals as goal

pub returns-then-n-first : goal.returns-then-n-first
returns-then-n-first c =
    let b = c in
    let a = b.args in
    let bad : bad_in_row a.n a.list.now a.start 0 ≡ true = bad-first a.n a.list.now a.start ∙ le-leb _ _ c.if-n-first.true in (
      record {
        place = sym (first-at (bad_in_row a.n a.list.now a.start) a.rho 0 b.requires.some (λ x l. absurd (omega arith)) bad);
        tallied = rw (add-zero a.start) b.requires.tallied;
      },
      b.requires.some,
    )

pub count-requires : goal.count-requires
count-requires c =
    let first-low : let a = c.args in entry_at a.list.now a.start < 1023 = omega (arith, c.if-n-first.false, c.requires.columns) in
    let b = c in
    let h = first-low in
    (omega (arith, h), tally-room b.args.list.now b.requires.tallied (omega (arith, b.requires.some, b.requires.room)) _ (omega (arith, h)))

pub loop-k-init : goal.loop-k-init
loop-k-init c =
    let first-low : let a = c.args in entry_at a.list.now a.start < 1023 = omega (arith, c.if-n-first.false, c.requires.columns) in
    let b = c in
    let a = b.args in
    let good : bad_in_row a.n a.list.now a.start 0 ≡ false =
    bad-first a.n a.list.now a.start ∙ lt-leb a.n (entry_at a.list.now a.start) (omega (arith, c.if-n-first.false)) in
    record {
      last = ap (entry_at a.list.now) (omega arith);
      tallied = tally-next a.list.now b.requires.tallied c.count.ensures (omega arith) (omega (arith, first-low));
      good = below_more (λ (x : ℕ). bad_in_row a.n a.list.now a.start x ≡ false) 0 (λ x l. absurd (omega arith)) good;
    }

pub returns-then-bad_after : goal.returns-then-bad_after
returns-then-bad_after c =
    let a = c.args in
    let l = c.loop-k in
    let bad : bad_in_row a.n a.list.now a.start l.k ≡ true =
    bad-next a.n a.list.now a.start l.k l.before (omega arith) l.invariant.last ∙ sym c.bad_after.ensures ∙ c.if-bad_after.true in (
      record {
        place = sym (first-at (bad_in_row a.n a.list.now a.start) a.rho l.k (omega arith) l.invariant.good bad);
        tallied = l.invariant.tallied;
      },
      omega arith,
    )

pub count-requires-in-loop-k : goal.count-requires-in-loop-k
count-requires-in-loop-k c =
    let good : let a = c.args in bad_in_row a.n a.list.now a.start c.loop-k.k ≡ false = let a = c.args in
    let l = c.loop-k in
    bad-next a.n a.list.now a.start l.k l.before (omega arith) l.invariant.last ∙ sym c.bad_after.ensures ∙ c.if-bad_after.false in
    let low : let a = c.args in entry_at a.list.now (a.start + c.loop-k.k) < 1023 = let b = c in
    let a = b.args in
    omega (arith, good-below a.n a.list.now a.start c.loop-k.k (good), b.requires.columns) in
    let b = c in
    let l = c.loop-k in
    let h = low in
    (omega (arith, h), tally-room b.args.list.now l.invariant.tallied (omega (arith, b.requires.room)) _ (omega (arith, h)))

pub loop-k-preserved : goal.loop-k-preserved
loop-k-preserved c =
    let good : let a = c.args in bad_in_row a.n a.list.now a.start c.loop-k.k ≡ false = let a = c.args in
    let l = c.loop-k in
    bad-next a.n a.list.now a.start l.k l.before (omega arith) l.invariant.last ∙ sym c.bad_after.ensures ∙ c.if-bad_after.false in
    let low : let a = c.args in entry_at a.list.now (a.start + c.loop-k.k) < 1023 = let b = c in
    let a = b.args in
    omega (arith, good-below a.n a.list.now a.start c.loop-k.k (good), b.requires.columns) in
    let a = c.args in
    let l = c.loop-k in
    let e : a.start + l.k + 1 ≡ a.start + (l.k + 1) = omega arith in
    record {
      last = ap (entry_at a.list.now) (omega arith);
      tallied = rw e at (tally-next a.list.now l.invariant.tallied c.count-in-loop-k.ensures (omega arith) (omega (arith, low)));
      good = below_more (λ (x : ℕ). bad_in_row a.n a.list.now a.start x ≡ false) l.k l.invariant.good good;
    }

pub returns : goal.returns
returns c =
    let a = c.args in
    let l = c.loop-k in
    let whole : l.k ≡ a.rho = omega (arith, c.requires.some) in
    record {
      place = sym (first-none (bad_in_row a.n a.list.now a.start) a.rho (λ x h. l.invariant.good x (omega arith)));
      tallied = rw whole at l.invariant.tallied;
    }
