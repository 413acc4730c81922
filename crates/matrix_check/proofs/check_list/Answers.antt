-- `matrix_check::check_list` meets its contract: each answer is the one that has the matrix's reading. Assumes nothing.
use mathlib.Core.List.{List}
use mathlib.Core.Path.{◌≡◌, sym, ap, ◌∙◌}
use Prim.Native.Nat.{ℕ, ◌<◌}
use native.Mathlib.Decide.{dec_lt}
use native.Mathlib.Omega.{arith}
use lib.ListN.{length}
use Rattle.std.specs.Prelude.{Option, Some, None, MatchOption, unwrap_or}
use Rattle.answers.specs.Paper.Answers.{refused}
use Rattle.counting.specs.Paper.Search.{first}
use Rattle.counting.proofs.Searches.{first-le}
use Rattle.counting.proofs.Decisions.{found, missed}
use Rattle.matrix.specs.Paper.Code.{Matrix}
use Rattle.matrix.specs.Paper.Check.{bad_weight, check_of}
use Rattle.matrix.specs.Paper.PlainCheck.{entry_bad, weight_bad, weight_none}
use Rattle.matrix.specs.Paper.Shapes.{matrix_of}
use Rattle.matrix.specs.Ordered.{Sized, Ordered, WeightsFit}
use Rattle.matrix.specs.Tallies.{Weighed}
use Rattle.matrix.proofs.PlainCheck.{entries, weights, reads_only}
use Rattle.matrix.proofs.Ordered.{few}
use Rattle.matrix.proofs.Tallies.{tally-none}
use Rattle.matrix_weights.specs.Weights.{Walked, out_weight}
use Rattle.matrix_weights.proofs.Weights.{tally-weight, counted-off, counted-fit, fit-counted}
use Rattle.matrix_check.proofs.check_list.Goals as goal

-- a place, and the bound where there is none
place-or-bound : (f n : ℕ) (r : Option ℕ) → MatchOption r (f ≡ n) (λ j. (j ≡ f) × (j < n)) → unwrap_or r n ≡ f
place-or-bound f n None e = sym e
place-or-bound f n (Some j) e = e.0

-- weights that do not fit: the first that is off is the place, and n where none is, as then none is gamma
weights-refused : (H : Matrix) → Ordered H → (x : ℕ) → x ≡ first (bad_weight H) H.n → (WeightsFit H → ⊥) → refused 4 x ≡ check_of H
weights-refused H o x e unfit =
    elim (dec_lt x H.n) [
      | yes l ↦ reads_only H _ (weight_bad o.sized.sizes o.sized.whole o.clear (found (weights H) _ x e l))
      | no g ↦
          let inside = missed (weights H) H.n x e (omega arith) in
          let last : x ≡ H.n = omega (arith, e, first-le (bad_weight H) H.n) in
          ap (refused 4) last
          ∙ reads_only H _ (weight_none o.sized.sizes o.sized.whole o.clear inside (λ j l w. unfit (record { inside = inside; least = (j, l, w) })))
    ]

-- where the walk ends at the list's end no entry is bad, and the columns' weights are counted
module _ (H : Matrix) (z : Sized H) {v : List ℕ} (w : Walked H v (length H.list)) where
  ordered : Ordered H
  ordered = record { sized = z; clear = missed (entries H) (length H.list) (length H.list) w.place (omega arith) }

  weighed : Weighed H v
  weighed j l = tally-weight H v z.whole w.tallied j (omega (arith, z.sizes.n_most))

pub walk-requires : goal.walk-requires
walk-requires c = (c.requires, tally-none _)

pub overflow_cast-result : goal.overflow_cast-result
overflow_cast-result c = omega (arith, few c.requires, c.in-Some.ensures.1)

pub returns-in-Some : goal.returns-in-Some
returns-in-Some c =
    let H : Matrix = matrix_of c.args.shape c.args.list.now in
    let b = c in
    let p = c.in-Some.ensures in
    reads_only H _ (entry_bad b.requires.sizes b.requires.whole (found (entries H) _ c.in-Some.p p.0.place p.1))

pub ask_overlap-requires : goal.ask_overlap-requires
ask_overlap-requires c =
    let H : Matrix = matrix_of c.args.shape c.args.list.now in
    let w = c.in_default.ensures in
    (ordered H c.requires w, counted-fit H c.walk.new.weights (weighed H c.requires w) (sym c.weights_fit.ensures ∙ c.if-weights_fit.true))

pub returns : goal.returns
returns c =
    let H : Matrix = matrix_of c.args.shape c.args.list.now in
    let w = c.in_default.ensures in
    let v = c.walk.new.weights in
    let counted = weighed H c.requires w in
    let place = place-or-bound (first (out_weight H.gamma v) H.n) H.n c.first_off_weight.result c.first_off_weight.ensures ∙ counted-off H v counted in
    weights-refused H (ordered H c.requires w) c.unwrap_or-j.result (c.unwrap_or-j.ensures ∙ place)
    (fit-counted H v counted (sym c.weights_fit.ensures ∙ c.if-weights_fit.false))
