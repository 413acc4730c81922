-- Of an accepted matrix the index alone passes the replay.
--   own-starts  == what passes it has the index's starting places, of any ordered matrix
--   own-index   == what passes it is the index
--   index-own   == and the index does
-- Assumes nothing.
use mathlib.Core.Path.{◌≡◌, refl, sym, ap, ap₂, ◌∙◌}
use mathlib.Core.List.{List}
use Prim.Native.Nat.{ℕ, zero, suc, ◌+◌, ◌≤◌, ◌<◌}
use native.Mathlib.Numerals.{add-one}
use native.Mathlib.Decide.{dec_lt}
use native.Mathlib.Omega.{arith}
use lib.ListN.{length}
use lib.Seq.{ext_get_or}
use Rattle.counting.specs.Paper.Sum.{sum_below}
use Rattle.counting.specs.Places.{at}
use Rattle.matrix.specs.Paper.Code.{Matrix, entry, weight}
use Rattle.matrix.specs.Paper.PlainCheck.{Accepted}
use Rattle.matrix_index.specs.Paper.Index.{column_start, index_of, index_size}
use Rattle.matrix_index.specs.Filling.{row_place, place_by}
use Rattle.matrix_index.proofs.Parts.{index-long, index-start, index-row, index-covers, place_inside}
use Rattle.matrix_index.proofs.Cursors.{place-by}
use Rattle.matrix_index_replay.specs.Replay.{Own}

-- the first column starts at 0
starts_first : (H : Matrix) → column_start H 0 ≡ 0
unfolding column_start sum_below
starts_first H = refl

-- each next one where the column's ones end
starts-next : (H : Matrix) (j : ℕ) → column_start H (j + 1) ≡ column_start H j + weight H j
unfolding column_start sum_below
starts-next H j = rw (add-one j) refl

-- what passes the replay has the index's starting places
pub own-starts : (H : Matrix) (x : List ℕ) → Own H x → (j : ℕ) → j ≤ H.n → at x j ≡ column_start H j
unfolding column_start sum_below
own-starts H x o zero l = o.begins
own-starts H x o (suc j) l =
    ap (at x) (sym (add-one j)) ∙ o.parts j l ∙ ap (λ (y : ℕ). y + weight H j) (own-starts H x o j (omega arith))

module _ (H : Matrix) (a : Accepted H) (x : List ℕ) where
  -- what passes the replay is the index
  pub own-index : Own H x → x ≡ index_of H
  own-index o =
      ext_get_or 0 x (index_of H) (o.long ∙ sym (index-long H a.rows)) (λ c h. each c (omega (arith, o.long)))
    where
      -- each starting place
      start : (j : ℕ) → j ≤ H.n → at x j ≡ column_start H j
      start = own-starts H x o

      -- the place of each row
      place : (i k : ℕ) → i < H.m → k < H.rho → place_by H (at x) i k ≡ row_place H i k
      place i k l h = place-by H (at x) i k (start (entry H i k) (omega (arith, a.rows.below i k l h)))

      -- each number
      each : (c : ℕ) → c < index_size H → at x c ≡ at (index_of H) c
      each c h =
          elim (dec_lt c (suc H.n)) [
            | yes l ↦ start c (omega arith) ∙ sym (index-start H a.rows c l)
            | no g ↦
                let p = index-covers H a.rows c (omega arith) h in
                rw p.4
                (ap (at x) (sym (place p.0 p.1 p.2 p.3))
                ∙ (o.rows p.0 p.2 p.1 p.3).is
                ∙ sym (index-row H a.rows p.0 p.1 p.2 p.3))
          ]

  -- and the index does
  pub index-own : x ≡ index_of H → Own H x
  index-own e =
      record {
        long = ap length e ∙ index-long H a.rows;
        begins = start 0 (omega arith) ∙ starts_first H;
        parts = λ j l. start (j + 1) (omega arith) ∙ starts-next H j ∙ ap (λ (y : ℕ). y + weight H j) (sym (start j (omega arith)));
        rows = λ i l k h. record {
          inside = omega (arith, ap length e, index-long H a.rows, place i k l h, place_inside H a.rows i k l h);
          is = ap₂ at e (place i k l h) ∙ index-row H a.rows i k l h;
        };
      }
    where
      start : (j : ℕ) → j ≤ H.n → at x j ≡ column_start H j
      start j l = ap (λ (y : List ℕ). at y j) e ∙ index-start H a.rows j (omega arith)

      place : (i k : ℕ) → i < H.m → k < H.rho → place_by H (at x) i k ≡ row_place H i k
      place i k l h = place-by H (at x) i k (start (entry H i k) (omega (arith, a.rows.below i k l h)))
