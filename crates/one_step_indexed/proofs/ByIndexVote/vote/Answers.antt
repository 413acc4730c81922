-- `vote` of `one_step_indexed::ByIndex` meets its contract: the parities of all rows, the votes of each column, the flips, and the flipped bits' checks. Assumes nothing.
use mathlib.Core.Path.{◌≡◌, refl, ◌∙◌}
use mathlib.Core.List.{List}
use Prim.Native.Nat.{ℕ}
use native.Mathlib.Omega.{arith}
use lib.ListN.{replicate}
use Rattle.counting.specs.Places.{at}
use Rattle.matrix.specs.Paper.Code.{Matrix, Word, failing}
use Rattle.matrix.specs.Paper.Shapes.{matrix_of}
use Rattle.syndrome.proofs.Parity.{checks}
use Rattle.syndrome_update.specs.Parities.{Parities, Renewed}
use Rattle.syndrome_update.proofs.KeptParities.{columns, turned-renewed, rows-renewed, word_below, failing-odd, zero-parities}
use Rattle.majority_votes.specs.Tallies.{Tallied}
use Rattle.majority_columns.proofs.Columns.{few-rows, column-tallied}
use Rattle.one_step_core.proofs.Votes.{stepped-clean, stepped-voted, voted-bits}
use Rattle.one_step_indexed.proofs.ByIndexVote.vote.Goals as goal

pub row_parities-requires : goal.row_parities-requires
row_parities-requires c =
    let lent : Matrix = matrix_of c.args.shape c.args.list.now in
    let word : List ℕ = c.args.bits.now in
    let s = c in (checks (lent) s.requires.0 (at (word)) s.requires.2, refl)

pub count_odd-before-requires : goal.count_odd-before-requires
count_odd-before-requires c =
    let lent : Matrix = matrix_of c.args.shape c.args.list.now in
    let word : List ℕ = c.args.bits.now in
    let first_parity : List ℕ = c.row_parities.new.parity in
    let parities : Parities (lent) (at (word)) (first_parity) = let s = c in
    (rows-renewed (lent) (at (word)) (replicate 1023 0) (first_parity) s.requires.0.sizes.m_most (zero-parities (lent)).bits
    c.row_parities.ensures).parities in
    (c.requires.0.sizes.m_most, (parities).bits)

pub returns-then-before-eq0 : goal.returns-then-before-eq0
returns-then-before-eq0 c =
    let lent : Matrix = matrix_of c.args.shape c.args.list.now in
    let word : List ℕ = c.args.bits.now in
    let first_parity : List ℕ = c.row_parities.new.parity in
    let parities : Parities (lent) (at (word)) (first_parity) = let s = c in
    (rows-renewed (lent) (at (word)) (replicate 1023 0) (first_parity) s.requires.0.sizes.m_most (zero-parities (lent)).bits
    c.row_parities.ensures).parities in
    let counted : c.count_odd-before.result ≡ failing (lent) (at (word)) = c.count_odd-before.ensures ∙ failing-odd (lent) _ _ (parities) in
    let o = c in
    let s = c in
    stepped-clean (lent) s.requires.0 (word) o.count_odd-before.result (counted) c.if-before-eq0.true

pub tally_columns-requires : goal.tally_columns-requires
tally_columns-requires c =
    let lent : Matrix = matrix_of c.args.shape c.args.list.now in
    let word : List ℕ = c.args.bits.now in
    let first_parity : List ℕ = c.row_parities.new.parity in
    let parities : Parities (lent) (at (word)) (first_parity) = let s = c in
    (rows-renewed (lent) (at (word)) (replicate 1023 0) (first_parity) s.requires.0.sizes.m_most (zero-parities (lent)).bits
    c.row_parities.ensures).parities in
    let r = c in
    let s = c in
    (columns (lent) s.requires.0 s.args.self.now.index.now s.requires.1, few-rows (lent) s.requires.0 s.args.self.now.index.now s.requires.1, (parities).bits, refl)

pub list_flips-flipped-requires : goal.list_flips-flipped-requires
list_flips-flipped-requires c =
    let lent : Matrix = matrix_of c.args.shape c.args.list.now in
    let word : List ℕ = c.args.bits.now in
    let flipped : List ℕ = c.flip_own.new.bits in
    let votes : List ℕ = c.tally_columns.new.votes in
    let first_parity : List ℕ = c.row_parities.new.parity in
    let parities : Parities (lent) (at (word)) (first_parity) = let s = c in
    (rows-renewed (lent) (at (word)) (replicate 1023 0) (first_parity) s.requires.0.sizes.m_most (zero-parities (lent)).bits
    c.row_parities.ensures).parities in
    let counted : c.count_odd-before.result ≡ failing (lent) (at (word)) = c.count_odd-before.ensures ∙ failing-odd (lent) _ _ (parities) in
    let tallied : Tallied (lent) (at (word)) (votes) c.count_odd-before.result = let s = c in
    column-tallied (lent) s.requires.0 s.args.self.now.index.now s.requires.1 (at (word)) (first_parity) (parities) (votes)
    c.count_odd-before.result c.tally_columns.ensures (counted) in
    let flipped_word : Word (lent) (at (flipped)) = let s = c in
    let t = c in
    voted-bits (lent) s.requires.0 (word) (votes) c.count_odd-before.result (tallied) (flipped) c.flip_own.ensures s.requires.2 in
    let f = c in
    let s = c in (
      s.requires.0.sizes.n_most,
      word_below (lent) (word) s.requires.2,
      word_below (lent) (flipped) (flipped_word),
      refl,
    )

pub turn_listed-requires : goal.turn_listed-requires
turn_listed-requires c =
    let lent : Matrix = matrix_of c.args.shape c.args.list.now in
    let word : List ℕ = c.args.bits.now in
    let first_parity : List ℕ = c.row_parities.new.parity in
    let parities : Parities (lent) (at (word)) (first_parity) = let s = c in
    (rows-renewed (lent) (at (word)) (replicate 1023 0) (first_parity) s.requires.0.sizes.m_most (zero-parities (lent)).bits
    c.row_parities.ensures).parities in
    let f = c in
    let s = c in
    let l = c.list_flips-flipped in (
      columns (lent) s.requires.0 s.args.self.now.index.now s.requires.1,
      omega (arith, l.ensures.places.few, s.requires.0.sizes.n_most),
      l.ensures.places.below,
      (parities).bits,
    )

pub returns : goal.returns
returns c =
    let lent : Matrix = matrix_of c.args.shape c.args.list.now in
    let word : List ℕ = c.args.bits.now in
    let votes : List ℕ = c.tally_columns.new.votes in
    let first_parity : List ℕ = c.row_parities.new.parity in
    let parities : Parities (lent) (at (word)) (first_parity) = let s = c in
    (rows-renewed (lent) (at (word)) (replicate 1023 0) (first_parity) s.requires.0.sizes.m_most (zero-parities (lent)).bits
    c.row_parities.ensures).parities in
    let counted : c.count_odd-before.result ≡ failing (lent) (at (word)) = c.count_odd-before.ensures ∙ failing-odd (lent) _ _ (parities) in
    let tallied : Tallied (lent) (at (word)) (votes) c.count_odd-before.result = let s = c in
    column-tallied (lent) s.requires.0 s.args.self.now.index.now s.requires.1 (at (word)) (first_parity) (parities) (votes)
    c.count_odd-before.result c.tally_columns.ensures (counted) in
    let flipped : List ℕ = c.flip_own.new.bits in
    let last_parity : List ℕ = c.turn_listed.new.parity in
    let flipped_word : Word (lent) (at (flipped)) = let s = c in
    let t = c in
    voted-bits (lent) s.requires.0 (word) (votes) c.count_odd-before.result (tallied) (flipped) c.flip_own.ensures s.requires.2 in
    let renewed : Renewed (lent) (at (flipped)) (first_parity) (last_parity) = let s = c in
    let f = c in
    let l = c.list_flips-flipped in
    turned-renewed (lent) s.requires.0 s.args.self.now.index.now s.requires.1 (at (word)) (at (flipped)) s.requires.2 (flipped_word)
    l.new.places l.result l.ensures.places (first_parity) (last_parity) (parities) c.turn_listed.ensures in
    let t = c in
    let s = c in
    let f = c in
    let v = c in
    stepped-voted (lent) s.requires.0 (word) (votes) c.count_odd-before.result (tallied) (flipped) c.count_odd-after.result
    v.if-before-eq0.false f.flip_own.ensures
    (c.count_odd-after.ensures ∙ failing-odd (lent) (at (flipped)) (last_parity) (renewed).parities)
