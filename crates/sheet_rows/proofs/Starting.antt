-- Laws of the starting columns and the shifts of a block row.
--   starts_none    == before the first block there are none
--   starts_more    == the next block writes its own, and keeps it where it is set
--   few-before     == at most rho blocks of a block row are set before any of it
--   blocks-of      == by all of them and the shifts, no entry leaves 1,023
--   rows-turned    == and the rows are those of the sheet
-- Assumes nothing.
use mathlib.Core.Path.{◌≡◌, refl, sym, ap, ◌∙◌}
use mathlib.Core.List.{List}
use Prim.Native.Nat.{ℕ, suc, ◌+◌, ◌*◌, ◌≤◌, ◌<◌}
use native.Mathlib.Nat.{not-suc-le-zero}
use native.Mathlib.Numerals.{add-one}
use native.Mathlib.Decide.{ℕ_discrete}
use native.Mathlib.Omega.{arith}
use lib.ListN.{length, set, length-set}
use lib.Seq.{get_or-set_same, get_or-set_other}
use Rattle.counting.specs.Paper.Sum.{sum_below}
use Rattle.counting.specs.Paper.Joined.{chosen}
use Rattle.counting.specs.Paper.Lists.{listed, over}
use Rattle.counting.specs.Places.{at}
use Rattle.counting.proofs.Sums.{sum-part}
use Rattle.counting.proofs.Chosen.{chosen-next, chosen-new}
use Rattle.counting.proofs.Writes.{over-at}
use Rattle.sheet.specs.Paper.Sheet.{block_columns, block_size, set_at, set_in, shift_at}
use Rattle.sheet.specs.Parts.{place_at, entry_of}
use Rattle.sheet.proofs.Entries.{set-bit, place-below, shift-near}
use Rattle.sheet_bytes.specs.declared.Heading.{Heading}
use Rattle.sheet_rows.specs.Parts.{shift_from, turned_at, put_rows, SheetLent, Starts, Blocks}
use Rattle.sheet_rows.proofs.Writing.{rows-cong}
use Rattle.sheet_rows.proofs.Lent.{row-set, block_inside}

-- before the first block
pub starts_none : (bs : List ℕ) (r : ℕ) (ss : List ℕ) → length ss ≡ 33 → Starts bs r 0 ss
unfolding sum_below
starts_none bs r ss e = record { long = e; each = λ q l. absurd (not-suc-le-zero l) }

-- the next block: a clear one leaves what it wrote behind the kept ones
pub starts_more : (bs : List ℕ) (r c k v : ℕ) (ss : List ℕ) → Starts bs r c ss → k ≡ sum_below c (set_at bs r) → k ≤ 32 → v ≡ c * block_size bs
    → Starts bs r (c + 1) (set ss k v)
unfolding sum_below
starts_more bs r c k v ss s e few val =
    rw (add-one c) record {
      long = length-set ss k v ∙ s.long;
      each = λ q l.
          elim (ℕ_discrete q k) [
            | yes same ↦
                ap (at (set ss k v)) same ∙ get_or-set_same ss k v 0 (omega (arith, s.long)) ∙ val
                ∙ sym (ap (λ (x : ℕ). x * block_size bs) (ap (at (chosen (suc c) (set_at bs r))) (same ∙ e) ∙ chosen-new c (set_at bs r) (omega (arith, set-bit bs r c))))
            | no other ↦
                let l' : q < sum_below c (set_at bs r) = omega (arith, set-bit bs r c) in
                get_or-set_other ss k q v 0 other ∙ s.each q l' ∙ sym (ap (λ (x : ℕ). x * block_size bs) (chosen-next c (set_at bs r) q l'))
          ];
    }

module _ (bs : List ℕ) (h : Heading) (rho : ℕ) (t : SheetLent bs h rho) (r : ℕ) (l : r < h.rows) where
  -- at most rho blocks are set before any of them
  pub few-before : (c : ℕ) → c ≤ h.columns → sum_below c (set_at bs r) ≤ rho
  few-before c g = omega (arith, row-set bs h rho t r l, sum-part c (block_columns bs) (set_at bs r) (omega (arith, t.headed.columns)))

  module _ (ss ts ts₀ : List ℕ) (starts : Starts bs r (block_columns bs) ss) (shifts : ts ≡ over (listed rho (shift_from bs (r * rho))) ts₀) where
    -- the k-th starting column is that of the k-th set place
    start_is : (k : ℕ) → k < rho → at ss k ≡ place_at bs r k * block_size bs
    unfolding place_at
    start_is k g = starts.each k (omega (arith, row-set bs h rho t r l))

    -- and the shift is the block row's
    shift_is : (k : ℕ) → k < rho → at ts k ≡ shift_at bs (r * set_in bs 0 + k)
    unfolding shift_from
    shift_is k g =
        over-at rho (shift_from bs (r * rho)) ts₀ ts shifts 0 k g ∙ ap (λ (x : ℕ). shift_at bs (r * x + k)) t.row

    -- no entry leaves 1,023
    pub blocks-of : Blocks ss ts rho h.size
    blocks-of =
        record {
          few = t.few;
          small = omega (arith, block_inside bs h rho t 0 (omega (arith, t.sheet.columns_some, t.headed.columns)));
          start = λ k g.
              let b = block_inside bs h rho t (place_at bs r k)
              (omega (arith, t.headed.columns, place-below bs t.sheet r k (omega (arith, t.headed.rows)) (omega (arith, t.row)))) in
              omega (arith, start_is k g, ap (λ (x : ℕ). place_at bs r k * x) t.headed.size, b);
          shift = λ k g.
              omega (arith, shift_is k g, t.headed.size, shift-near bs t.sheet r k (omega (arith, t.headed.rows)) (omega (arith, t.row)));
        }

    -- the entries are those of the sheet's rows
    entry-turned : (i k : ℕ) → k < rho → turned_at ss ts h.size i k ≡ entry_of bs r i k
    unfolding turned_at entry_of
    entry-turned i k g = rw (start_is k g, shift_is k g, t.headed.size) refl

    -- and so are the rows
    pub rows-turned : (p : ℕ) (x y : List ℕ) → y ≡ put_rows p rho (turned_at ss ts h.size) h.size x → y ≡ put_rows p rho (entry_of bs r) h.size x
    rows-turned p x y e =
        e ∙ rows-cong p rho (turned_at ss ts h.size) (entry_of bs r) h.size x (λ i k a b. entry-turned i k b)
