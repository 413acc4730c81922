-- `program_ends::after_sizes` meets its contract. Assumes nothing.
use mathlib.Core.Path.{refl, sym, ap, ◌∙◌}
use mathlib.Core.List.{List, []}
use Prim.Native.Nat.{ℕ, ◌*◌}
use native.Mathlib.Omega.{arith}
use borrow.Author.Tests.{not-true, not-false}
use Rattle.matrix.specs.Paper.Code.{Matrix}
use Rattle.matrix.specs.Paper.Check.{sizes_fit}
use Rattle.matrix.specs.Paper.Shapes.{matrix_of}
use Rattle.program_input.proofs.Openings.{few}
use Rattle.program_ends.specs.Stages.{ends, the_list, goes_on}
use Rattle.program_ends.proofs.Replies.{text-alone, replied-as, replied-over, sizes-short, sizes-refused, sizes-fit}
use Rattle.program_ends.proofs.after_sizes.Goals as goal

pub returns-then-bytes-lt8 : goal.returns-then-bytes-lt8
returns-then-bytes-lt8 c =
    let p = c in
    let bs = c.args.bytes.now in
    λ l. replied-over p.put_short-end.ensures (omega arith) c.run_over.ensures.1
    (ap ends (text-alone p.put_short-end.ensures (omega arith)) ∙ sizes-short bs (omega arith)) (c.run_over.ensures.0 l)

pub returns-then-sizes_refused : goal.returns-then-sizes_refused
returns-then-sizes_refused c =
    let p = c in
    let r = p in
    let bs = r.args.bytes.now in
    let e = ap (λ (f : List ℕ → Matrix). f []) r.sizes-shape.ensures in
    let off = sym (ap sizes_fit e) ∙ not-true _ (sym r.sizes_refused.ensures ∙ p.if-sizes_refused.true) in
    λ l. replied-over p.put_refused-end.ensures (omega arith) c.run_over-then-sizes_refused.ensures.1
    (ap ends (text-alone p.put_refused-end.ensures (omega arith)) ∙ sizes-refused bs (omega arith) off) (c.run_over-then-sizes_refused.ensures.0 l)

pub entries-want-requires : goal.entries-want-requires
entries-want-requires c =
    few (matrix_of c.sizes-shape.result []) (not-false _ (sym c.sizes_refused.ensures ∙ c.if-sizes_refused.false))

pub overflow_mul-want : goal.overflow_mul-want
overflow_mul-want c =
    let f = few (matrix_of c.sizes-shape.result [])
    (not-false _ (sym c.sizes_refused.ensures ∙ c.if-sizes_refused.false)) in
    omega (arith, c.entries-want.ensures)

pub returns : goal.returns
returns c =
    let r = c in
    let bs = r.args.bytes.now in
    let e = ap (λ (f : List ℕ → Matrix). f []) r.sizes-shape.ensures in
    let on = sym (ap sizes_fit e) ∙ not-false _ (sym r.sizes_refused.ensures ∙ c.if-sizes_refused.false) in
    λ l. record {
      reply = replied-as (ap (λ (H : Matrix). goes_on (the_list H)) e ∙ sizes-fit bs (omega arith) on)
          (record { awaited = refl; want = ap (λ (k : ℕ). 2 * k) c.entries-want.ensures; text = refl; fits = omega arith });
      rest = refl;
    }
