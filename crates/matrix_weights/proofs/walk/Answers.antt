use mathlib.Core.Path.{◌≡◌, sym}
use Prim.Native.Nat.{◌+◌, ◌*◌}
use native.Mathlib.Nat.{suc-mul}
use native.Mathlib.Numerals.{add-one}
use native.Mathlib.Omega.{arith}
use lib.ListN.{length}
use Rattle.counting.proofs.Searches.{first-none}
use Rattle.matrix.specs.Paper.Check.{bad_entry}
use Rattle.matrix.specs.Paper.Code.{Matrix}
use Rattle.matrix.specs.Paper.Shapes.{matrix_of}
use Rattle.matrix_weights.proofs.Weights.{row_begins, row_ends, clear-before, row_first}
use Rattle.matrix_weights.proofs.walk.Goals as goal

pub returns-in-Some : goal.returns-in-Some
returns-in-Some c =
    let b = c in
    let H : Matrix = matrix_of b.args.shape b.args.list.now in
    let l = c.loop-i in
    let k = c.in-Some.k in
    let w = c.in-Some.ensures in
    let inside = row_ends H b.requires.0 l.i (omega arith) in (
      record {
        place = row_first H (l.i * H.rho) (row_begins H b.requires.0 l.i) k w.0.place l.invariant.good w.1 inside;
        tallied = w.0.tallied;
      },
      omega (arith, inside, w.1),
    )

pub loop-i-preserved : goal.loop-i-preserved
loop-i-preserved c =
    let b = c in
    let H : Matrix = matrix_of b.args.shape b.args.list.now in
    let l = c.loop-i in
    let w = c.in_default.ensures in
    let next : l.i * H.rho + H.rho ≡ (l.i + 1) * H.rho = rw (add-one l.i) (sym (suc-mul l.i H.rho)) in
    record {
      tallied = rw next at w.tallied;
      good = rw next at (clear-before H (l.i * H.rho) (row_begins H b.requires.0 l.i) H.rho w.place l.invariant.good);
    }

pub returns : goal.returns
returns c =
    let b = c in
    let H : Matrix = matrix_of b.args.shape b.args.list.now in
    let l = c.loop-i in
    let end : l.i ≡ H.m = omega arith in
    let whole : l.i * H.rho ≡ length H.list = rw end (sym b.requires.0.whole) in
    record {
      place = sym (first-none (bad_entry H) (length H.list) (λ x h. l.invariant.good x (omega (arith, whole))));
      tallied = rw whole at l.invariant.tallied;
    }
