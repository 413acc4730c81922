-- Laws of tallies: an array that counts, for each column, how often it came.
--   tally-none     == a cleared array has counted nothing
--   tally-more     == one number more is counted
--   tally-le       == no count is more than the numbers counted
--   tally-common   == the marks of a row at the columns of another add up to what they share
-- Assumes nothing.
use mathlib.Core.Path.{◌≡◌, sym, ap, subst, ◌∙◌}
use mathlib.Core.List.{List}
use Prim.Native.Nat.{ℕ, ◌+◌, ◌≤◌, ◌<◌}
use native.Mathlib.Nat.{mul-one}
use native.Mathlib.Numerals.{add-one}
use native.Mathlib.Decide.{ℕ_discrete}
use native.Mathlib.Omega.{arith}
use lib.ListN.{get_or, set, replicate, get_or-replicate, length-replicate, length-set}
use lib.Seq.{get_or-set_same, get_or-set_other}
use Rattle.counting.specs.Paper.Sum.{sum_below, same}
use Rattle.counting.proofs.Sums.{sum_bound, sum-cong, same-le, same-ne, same_refl}
use Rattle.matrix.specs.Paper.Code.{Matrix, entry, has, common}
use Rattle.matrix.specs.Tallies.{Tally, mark_at}
use Rattle.matrix.proofs.Rows.{common-sym}

module _ (f : ℕ → ℕ) where
  -- a cleared array has counted nothing
  pub tally-none : Tally f 0 (replicate 1023 0)
  unfolding sum_below
  tally-none = record { long = length-replicate {A = ℕ} 1023 0; each = λ j l. get_or-replicate 1023 j 0 0 l }

  -- one more is counted
  counted : (k : ℕ) (v : List ℕ) → Tally f k v → f k < 1023 → Tally f (k + 1) (set v (f k) (get_or v (f k) 0 + 1))
  unfolding sum_below
  counted k v t h =
      record {
        long = length-set v (f k) (get_or v (f k) 0 + 1) ∙ t.long;
        each = λ j l.
            rw (add-one k)
            (elim (ℕ_discrete j (f k)) [
              | yes e ↦
                  ap (λ (x : ℕ). get_or (set v (f k) (get_or v (f k) 0 + 1)) x 0) e
                  ∙ get_or-set_same v (f k) (get_or v (f k) 0 + 1) 0 (omega (arith, t.long))
                  ∙ omega (arith, ap (λ (x : ℕ). get_or v x 0) e, t.each j l, ap (same (f k)) e, same_refl (f k))
              | no ne ↦
                  get_or-set_other v (f k) j (get_or v (f k) 0 + 1) 0 ne
                  ∙ omega (arith, t.each j l, same-ne (f k) j (λ e. ne (sym e)))
            ]);
      }

  -- one number more is counted
  pub tally-more : (k x : ℕ) (v v' : List ℕ) → Tally f k v → x ≡ f k → x < 1023 → v' ≡ set v x (get_or v x 0 + 1) → Tally f (k + 1) v'
  tally-more k x v v' t e h s =
      subst (Tally f (k + 1)) (sym (s ∙ ap (λ (y : ℕ). set v y (get_or v y 0 + 1)) e)) (counted k v t (omega arith))

  -- no more than are counted
  pub tally-le : (k : ℕ) (v : List ℕ) → Tally f k v → (j : ℕ) → j < 1023 → get_or v j 0 ≤ k
  tally-le k v t j l = omega (arith, t.each j l, sum_bound k 1 {f = λ x. same (f x) j} (λ x h. same-le (f x) j), mul-one k)

-- the marks of a row at the columns of another add up to what they share
pub tally-common : (H : Matrix) (i i' : ℕ) (v : List ℕ) → Tally (entry H i) H.rho v → ((k : ℕ) → k < H.rho → entry H i' k < 1023)
    → sum_below H.rho (mark_at H i' v) ≡ common H i i'
unfolding common has mark_at
tally-common H i i' v t below = sum-cong H.rho (λ k h. t.each (entry H i' k) (below k h)) ∙ common-sym H i' i
