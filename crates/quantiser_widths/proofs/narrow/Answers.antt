-- `quantiser_widths::narrow` meets its contract: each answer follows the tests that led to it, in the order of the verdict. Assumes nothing.
use mathlib.Core.Path.{◌≡◌, sym, ap, ◌∙◌}
use Prim.Native.Nat.{◌≤◌}
use native.Mathlib.Omega.{arith}
use lib.ListN.{length}
use Rattle.counting.proofs.Searches.{first-le}
use Rattle.answers.specs.Paper.Answers.{refused}
use Rattle.quantiser_levels.proofs.Firsts.{place-or-length}
use Rattle.quantiser_widths.specs.Paper.Widths.{too_far, first_too_far}
use Rattle.quantiser_widths.proofs.Verdicts.{narrow-many, narrow_short, narrow-level, narrow-passed, narrowed-refused, narrowed-accepted}
use Rattle.quantiser_widths.proofs.narrow.Goals as goal

pub returns-then-n-gt-MOST_LEVELS : goal.returns-then-n-gt-MOST_LEVELS
returns-then-n-gt-MOST_LEVELS c =
    let a = c.args in
    narrowed-refused (narrow-many a.levels.now (length a.old.now) (omega (arith, c.if-n-gt-MOST_LEVELS.true)))

pub returns-then-old-n : goal.returns-then-old-n
returns-then-old-n c =
    let a = c.args in
    narrowed-refused (narrow_short a.levels.now (length a.old.now) (omega (arith, c.if-old-n.true)))

pub returns-then-place-n : goal.returns-then-place-n
returns-then-place-n c =
    let room : let a = c.args in (length a.levels.now ≤ 65536) × (length a.levels.now ≤ length a.old.now) = (omega (arith, c.if-n-gt-MOST_LEVELS.false), omega (arith, c.if-old-n.false)) in
    let f = c in
    let a = f.args in
    let q = f.unwrap_or-place.ensures ∙ place-or-length (first_too_far a.levels.now) (length a.levels.now) f.first_too_far.result f.first_too_far.ensures in
    let r = room in
    narrowed-refused
    (narrow-level a.levels.now (length a.old.now) r.0 r.1 (omega (arith, q, c.if-place-n.true)) ∙ ap (refused 13) (sym q))

pub narrow_into-requires : goal.narrow_into-requires
narrow_into-requires c =
    let room : let a = c.args in (length a.levels.now ≤ 65536) × (length a.levels.now ≤ length a.old.now) = (omega (arith, c.if-n-gt-MOST_LEVELS.false), omega (arith, c.if-old-n.false)) in
    let all : let ls = c.args.levels.now in first_too_far ls ≡ length ls = let f = c in
    let ls = f.args.levels.now in
    let q = f.unwrap_or-place.ensures ∙ place-or-length (first_too_far ls) (length ls) f.first_too_far.result f.first_too_far.ensures in
    omega (arith, q, c.if-place-n.false, first-le (too_far ls) (length ls)) in
    ((room).1, all)

pub returns : goal.returns
returns c =
    let room : let a = c.args in (length a.levels.now ≤ 65536) × (length a.levels.now ≤ length a.old.now) = (omega (arith, c.if-n-gt-MOST_LEVELS.false), omega (arith, c.if-old-n.false)) in
    let all : let ls = c.args.levels.now in first_too_far ls ≡ length ls = let f = c in
    let ls = f.args.levels.now in
    let q = f.unwrap_or-place.ensures ∙ place-or-length (first_too_far ls) (length ls) f.first_too_far.result f.first_too_far.ensures in
    omega (arith, q, c.if-place-n.false, first-le (too_far ls) (length ls)) in
    let e = c in
    let r = room in
    let a = e.args in
    narrowed-accepted (narrow-passed a.levels.now (length a.old.now) r.0 r.1 (all)) c.narrow_into.ensures
