-- Laws of the walk: its rows are those of the list, an entry that is not bad is a column, and the tally of the whole list has the weights.
--   bad-first      == the test at the entry that begins a row
--   bad-next       == and at an entry after it, as the code asks it
--   good-below     == an entry that is not bad is a column
--   tally-next     == the column of the next entry counted once more tallies one entry more
--   tally-room     == a count of so few entries fits a cell with room for one more
--   bad-in-row     == an entry of the row that begins at p is bad in the row exactly where it is in the list
--   row_inside     == that row ends within the list
--   row_begins, row_ends   == row i begins at i * rho, and ends within the list
--   clear-before   == no entry before the row's first bad one is bad, where none before the row is
--   row_first      == and that one is the first of the list
--   tally-weight   == the tally of the whole list has the weights
--   out-test       == a weight outside its range as the code asks it
--   flag-le        == a test as a number is at most 1
--   offs-none      == no weight that is off is counted yet
--   offs-more      == one more column is looked at
--   offs-most      == no more are off than are looked at
--   off-unfit      == where one is off the weights do not fit
--   inside-fit     == else they do where one is gamma
--   counted-off    == of counted weights the first that is off is the first of a wrong weight
--   counted-least  == and one of them is gamma where a column weighs gamma
--   counted-fit    == where they pass refusal 4 the matrix does
--   fit-counted    == and only there
-- Assumes nothing.
use mathlib.Core.Path.{◌≡◌, refl, sym, ap, ◌∙◌}
use mathlib.Core.Bool.{Bool, true, false, not, ◌||◌, or-false}
use mathlib.Core.List.{List}
use Prim.Native.Nat.{ℕ, ◌+◌, ◌*◌, ◌-◌, ◌/◌, ◌%◌, ◌≤◌, ◌<◌}
use native.Mathlib.Nat.{zero-add, add-zero, suc-mul, mul-le-mul_right, div-add-mod', div-lt_iff_lt-mul, mod-add-mod, mod-eq_of_lt}
use native.Mathlib.Numerals.{add-one}
use native.Mathlib.Decide.{dec_lt}
use native.Mathlib.Omega.{arith}
use borrow.Author.Tests.{ltb-false, leb-false, not-true, not-false, lt-ltb, le-ltb, le-leb, lt-leb}
use lib.Arith.{digits_mod}
use lib.Dec.{ltb, leb, eqb}
use lib.ListN.{length, get_or, set}
use Rattle.counting.specs.Paper.Sum.{sum_below, flag, same}
use Rattle.counting.specs.Paper.Search.{any_below, first}
use Rattle.counting.proofs.Searches.{never, cases, and_left, and_right, or_left, any-cong, first_cong, first-none, first-at, first-le, first_holds, first-before, first-clear}
use Rattle.counting.proofs.Sums.{sum_bound, sum-term, sum-pos}
use Rattle.counting.proofs.Decisions.{missed, test-fails}
use Rattle.matrix.specs.Paper.Code.{Matrix, weight}
use Rattle.matrix.specs.Paper.Check.{within, bad_entry, bad_weight, no_least}
use Rattle.matrix.proofs.Rows.{weight-flat}
use Rattle.matrix.specs.Ordered.{Sized, WeightsFit}
use Rattle.matrix.proofs.Ordered.{in_list}
use Rattle.matrix.proofs.PlainCheck.{weights, none-clear, none-fails}
use Rattle.matrix.specs.Tallies.{Tally, Weighed}
use Rattle.matrix.proofs.Tallies.{tally-more, tally-le}
use Rattle.matrix_weights.specs.Weights.{list_at, entry_at, bad_in_row, out_weight, least_weight, off_weights, weights_fit}

-- a weight outside its range as the code asks it
pub out-test : (gamma w : ℕ) → (ltb w gamma || ltb 32 w) ≡ not (within gamma w 32)
out-test gamma w =
    elim (dec_lt w gamma) [
      | yes l ↦ rw (lt-ltb w gamma l, lt-leb gamma w l)
      | no g ↦
          elim (dec_lt 32 w) [
            | yes l ↦ rw (le-ltb w gamma (omega arith), lt-ltb 32 w l, le-leb gamma w (omega arith), lt-leb w 32 l)
            | no f ↦ rw (le-ltb w gamma (omega arith), le-ltb 32 w (omega arith), le-leb gamma w (omega arith), le-leb w 32 (omega arith))
          ]
    ]

-- a test as a number is at most 1
pub flag-le : (t : Bool) → flag t ≤ 1
flag-le true = omega arith
flag-le false = omega arith

-- where it is not 0 the test passes
flag-pos : (t : Bool) → 0 < flag t → t ≡ true
flag-pos true l = refl
flag-pos false l = absurd (omega arith)

module _ (gamma : ℕ) (v : List ℕ) where
  -- no weight that is off is counted yet
  pub offs-none : 0 ≡ off_weights gamma v 0
  unfolding off_weights sum_below
  offs-none = refl

  -- one more column is looked at
  pub offs-more : (j c d : ℕ) → c ≡ off_weights gamma v j → d ≡ flag (out_weight gamma v j) → c + d ≡ off_weights gamma v (j + 1)
  unfolding off_weights sum_below
  offs-more j c d e q = rw (add-one j) (omega (arith, e, q))

  -- no more are off than are looked at
  pub offs-most : (n : ℕ) → off_weights gamma v n ≤ n
  unfolding off_weights
  offs-most n = omega (arith, sum_bound n 1 {f = λ j. flag (out_weight gamma v j)} (λ j h. flag-le (out_weight gamma v j)))

  module _ (n : ℕ) where
    -- where one is off the weights do not fit
    pub off-unfit : (off_weights gamma v n ≡ 0 → ⊥) → false ≡ weights_fit gamma v n
    unfolding off_weights weights_fit
    off-unfit ne =
        let p = sum-pos n (λ j. flag (out_weight gamma v j)) (omega arith) in
        elim (dec_lt (first (out_weight gamma v) n) n) [
          | yes l ↦ rw (lt-ltb (first (out_weight gamma v) n) n l)
          | no g ↦
              absurd (never
              (sym (flag-pos (out_weight gamma v p.0) p.2) ∙ first-clear (out_weight gamma v) n (omega arith) p.0 p.1))
        ]

    -- else they do where one is gamma
    pub inside-fit : off_weights gamma v n ≡ 0 → (r : Bool) → r ≡ any_below (least_weight gamma v) n → r ≡ weights_fit gamma v n
    unfolding off_weights weights_fit
    inside-fit e r q =
        rw (first-none (out_weight gamma v) n all, le-ltb n n (omega arith)) q
      where
        all : (j : ℕ) → j < n → out_weight gamma v j ≡ false
        all j l =
            cases (out_weight gamma v j)
            (λ y. absurd (omega (arith, e, sum-term n (λ q. flag (out_weight gamma v q)) j l, ap flag y)))
            (λ o. o)

module _ (n : ℕ) (list : List ℕ) (s : ℕ) where
  -- the test at the entry that begins the row
  pub bad-first : bad_in_row n list s 0 ≡ leb n (entry_at list s)
  unfolding bad_in_row
  bad-first = rw (add-zero s) (or-false (leb n (entry_at list s)))

  -- and at an entry after it
  pub bad-next : (k before : ℕ) → 0 < k → before ≡ entry_at list (s + k - 1)
      → bad_in_row n list s k ≡ (leb n (entry_at list (s + k)) || leb (entry_at list (s + k)) before)
  unfolding bad_in_row
  bad-next k before l e = rw (lt-ltb 0 k l, e)

  -- an entry that is not bad is a column
  pub good-below : (k : ℕ) → bad_in_row n list s k ≡ false → entry_at list (s + k) < n
  unfolding bad_in_row
  good-below k e = leb-false n (entry_at list (s + k)) (or_left (leb n (entry_at list (s + k))) _ e)

module _ (list : List ℕ) where
  -- the column of the next entry counted once more tallies one entry more
  pub tally-next : {v v' : List ℕ} {p x : ℕ} → Tally (entry_at list) p v → v' ≡ set v x (get_or v x 0 + 1) → x ≡ entry_at list p → x < 1023
      → Tally (entry_at list) (p + 1) v'
  tally-next {v} {v'} {p} {x} t s e h = tally-more (entry_at list) p x v v' t e h s

  -- a count of so few entries fits a cell with room for one more
  pub tally-room : {v : List ℕ} {p : ℕ} → Tally (entry_at list) p v → p < 65535 → (j : ℕ) → j < 1023 → get_or v j 0 < 65535
  tally-room {v} {p} t l j h = omega (arith, tally-le (entry_at list) p v t j h)

module _ (H : Matrix) where
  module _ (p : ℕ) (begins : p % H.rho ≡ 0) where
    -- an entry of the row that begins at p is bad in the row exactly where it is in the list
    pub bad-in-row : (k : ℕ) → k < H.rho → bad_entry H (p + k) ≡ bad_in_row H.n H.list p k
    unfolding bad_entry bad_in_row
    bad-in-row k l =
        let place : (p + k) % H.rho ≡ k =
        sym (mod-add-mod p H.rho k) ∙ ap (λ (x : ℕ). (x + k) % H.rho) begins ∙ ap (λ (x : ℕ). x % H.rho) (zero-add k) ∙ mod-eq_of_lt l in
        rw place

    -- that row ends within the list
    pub row_inside : length H.list ≡ H.m * H.rho → 0 < H.rho → p < length H.list → p + H.rho ≤ length H.list
    row_inside whole some l =
        let i : p ≡ p / H.rho * H.rho = omega (arith, div-add-mod' p H.rho, begins) in
        let row : p / H.rho < H.m = (div-lt_iff_lt-mul some).1 (omega (arith, l, whole)) in
        omega (arith, i, whole, suc-mul (p / H.rho) H.rho, mul-le-mul_right H.rho row)

    module _ (k : ℕ) (found : k ≡ first (bad_in_row H.n H.list p) H.rho) (clear : (x : ℕ) → x < p → bad_entry H x ≡ false) where
      -- no entry before the row's first bad one is bad, where none before the row is
      pub clear-before : (x : ℕ) → x < p + k → bad_entry H x ≡ false
      clear-before x l =
          elim (dec_lt x p) [
            | yes h ↦ clear x h
            | no g ↦
                let low : x - p < H.rho = omega (arith, found, first-le (bad_in_row H.n H.list p) H.rho) in
                let at : x ≡ p + (x - p) = omega arith in
                ap (bad_entry H) at ∙ bad-in-row (x - p) low ∙ first-before (bad_in_row H.n H.list p) H.rho (x - p) (omega (arith, found))
          ]

      -- and that one is the first of the list
      pub row_first : k < H.rho → p + H.rho ≤ length H.list → p + k ≡ first (bad_entry H) (length H.list)
      row_first l inside =
          let bad = first_holds (bad_in_row H.n H.list p) H.rho (omega (arith, found)) in
          sym (first-at (bad_entry H) (length H.list) (p + k) (omega arith) clear-before (bad-in-row k l ∙ ap (bad_in_row H.n H.list p) found ∙ bad))

  -- row i begins at i * rho, and ends within the list
  pub row_begins : Sized H → (i : ℕ) → i * H.rho % H.rho ≡ 0
  row_begins z i =
      ap (λ (x : ℕ). x % H.rho) (sym (add-zero (i * H.rho))) ∙ digits_mod i (omega (arith, z.sizes.rho_least))

  pub row_ends : Sized H → (i : ℕ) → i < H.m → i * H.rho + H.rho ≤ length H.list
  row_ends z i l =
      row_inside (i * H.rho) (row_begins z i) z.whole (omega (arith, z.sizes.rho_least)) (omega (arith, in_list z i 0 l (omega (arith, z.sizes.rho_least))))

  -- the tally of the whole list has the weights
  pub tally-weight : (v : List ℕ) → length H.list ≡ H.m * H.rho → Tally (list_at H) (length H.list) v → (j : ℕ) → j < 1023 → get_or v j 0 ≡ weight H j
  tally-weight v whole t j l = t.each j l ∙ ap (λ (k : ℕ). sum_below k (λ p. same (list_at H p) j)) whole ∙ sym (weight-flat H j)

  module _ (v : List ℕ) (counted : Weighed H v) where
    -- of counted weights the first that is off is the first of a wrong weight
    pub counted-off : first (out_weight H.gamma v) H.n ≡ first (bad_weight H) H.n
    unfolding out_weight bad_weight
    counted-off =
        first_cong (out_weight H.gamma v) (bad_weight H) H.n (λ j l. ap (λ (x : ℕ). not (within H.gamma x 32)) (counted j l))

    -- and one of them is gamma where a column weighs gamma
    pub counted-least : not (any_below (least_weight H.gamma v) H.n) ≡ no_least H
    unfolding least_weight no_least
    counted-least =
        ap not
        (any-cong (least_weight H.gamma v) (λ j. eqb (weight H j) H.gamma) H.n (λ j l. ap (λ (x : ℕ). eqb x H.gamma) (counted j l)))

    -- where they pass refusal 4 the matrix does
    pub counted-fit : weights_fit H.gamma v H.n ≡ true → WeightsFit H
    unfolding weights_fit
    counted-fit e =
        let off = not-true _ (and_left (not (ltb (first (out_weight H.gamma v) H.n) H.n)) _ e) in
        let some = and_right (not (ltb (first (out_weight H.gamma v) H.n) H.n)) _ e in
        record {
          inside = missed (weights H) H.n _ counted-off (ltb-false _ H.n off);
          least = none-clear H (sym counted-least ∙ ap not some);
        }

    -- and only there
    pub fit-counted : weights_fit H.gamma v H.n ≡ false → WeightsFit H → ⊥
    unfolding weights_fit
    fit-counted e w =
        let all = counted-off ∙ first-none (bad_weight H) H.n (λ j l. test-fails (weights H) j (w.inside j l)) in
        let some : any_below (least_weight H.gamma v) H.n ≡ true = not-false _ (counted-least ∙ none-fails H w.least) in
        let fits : weights_fit H.gamma v H.n ≡ true = rw (all, le-ltb H.n H.n (omega arith)) some in
        never (sym fits ∙ e)
