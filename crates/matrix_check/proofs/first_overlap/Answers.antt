-- `matrix_check::first_overlap` meets its contract. Assumes nothing.
use mathlib.Core.Path.{◌≡◌, sym, ◌∙◌}
use mathlib.Core.Bool.{true}
use Rattle.counting.proofs.Searches.{never, cases}
use Rattle.matrix.specs.Paper.Shapes.{matrix_of}
use Rattle.matrix_meeting.specs.Overlaps.{has_overlap}
use Rattle.matrix_meeting.proofs.Overlaps.{overlap-some, overlap-none}
use Rattle.matrix_check.proofs.first_overlap.Goals as goal

pub exact_overlap-requires : goal.exact_overlap-requires
exact_overlap-requires c =
    let b = c in
    let H = matrix_of b.args.shape b.args.list.now in
    let some : has_overlap H ≡ true =
    cases (has_overlap H) (λ y. y) (λ n. absurd (never (sym (rw (c.pair_twice.ensures, n) at c.if-pair_twice.true)))) in
    (b.requires, overlap-some H some)

pub returns : goal.returns
returns c =
    let b = c in
    let H = matrix_of b.args.shape b.args.list.now in
    overlap-none H (sym c.pair_twice.ensures ∙ c.if-pair_twice.false)
