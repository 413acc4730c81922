-- What is turned over makes the parities of one word those of another, and they tell its failing checks.
--   columns           == the index of an accepted matrix has a part for each column
--   count-is          == how many rows a column has in it
--   column-rows       == in it a row stands at a column as often as it has the column
--   turned-renewed    == the parities of one word turned over where the other differs are those of the other
--   rows-renewed      == the parities of all rows, written over an array of parities, are those of the word
--   word_below        == a word has bits below n
--   failing-places    == the rows that are listed by their parities are the failing checks
--   failing-odd       == as many parities are 1 as checks fail
--   zero-parities     == the parities of a word of zeros are zeros
--   zero_word         == a word of zeros is a word
-- Assumes nothing.
use mathlib.Core.Path.{◌≡◌, sym, ap, ap₂, ◌∙◌}
use mathlib.Core.List.{List}
use mathlib.Core.Logic.{inl, inr}
use Prim.Native.Nat.{ℕ, suc, ◌+◌, ◌*◌, ◌-◌, ◌%◌, ◌≤◌, ◌<◌}
use native.Mathlib.Nat.{mul_comm, eq-zero-or-pos}
use native.Mathlib.Numerals.{add-one}
use native.Mathlib.Omega.{arith}
use lib.ListN.{replicate, length-replicate}
use Rattle.counting.specs.Paper.Sum.{sum_below, unequal}
use Rattle.counting.specs.Paper.Lists.{listed, over}
use Rattle.counting.specs.Places.{at, among}
use Rattle.counting.proofs.Sums.{sum-cong, sum-zero, same-ne}
use Rattle.counting.proofs.Writes.{zeros, over-long, over-rest}
use Rattle.matrix.specs.Paper.Code.{Matrix, entry, has, weight, Word, fails, failing}
use Rattle.matrix.specs.Paper.PlainCheck.{Accepted}
use Rattle.matrix.proofs.Rows.{row-sum}
use Rattle.matrix.proofs.Linear.{fails-differ}
use Rattle.matrix_index.specs.Paper.Index.{index_of}
use Rattle.matrix_index.proofs.Parts.{index-long}
use Rattle.matrix_index.proofs.Filling.{size_small, size-past}
use Rattle.matrix_index.proofs.Columns.{index-next, index-most, index_below, index-among}
use Rattle.syndrome.specs.Places.{row_fails, Places, PlacesListed}
use Rattle.syndrome.proofs.Parity.{parity-at, parity-bit}
use Rattle.syndrome.proofs.Lists.{listed-cong, places-sum}
use Rattle.syndrome_update.specs.Parities.{Bits, BitsBelow, ParitiesTurned, differing, column_rows, listed_rows, Columns, Parities, Renewed}
use Rattle.syndrome_update.proofs.Turns.{turned-bits}

-- a word has bits below n
pub word_below : (H : Matrix) (z : List ℕ) → Word H (at z) → BitsBelow H.n z
unfolding Word BitsBelow
word_below H z w = w

module _ (H : Matrix) (a : Accepted H) where
  -- how many rows a column has in the index
  pub count-is : (j : ℕ) → j < H.n → at (index_of H) (j + 1) - at (index_of H) j ≡ weight H j
  count-is j l = omega (arith, ap (at (index_of H)) (add-one j), index-next H a.rows j l)

  -- the index as parts
  own-columns : Columns (index_of H) H.n
  own-columns =
      record {
        few = a.sizes.n_most;
        long = omega (arith, index-long H a.rows, size-past H a);
        rises = λ j l. omega (arith, ap (at (index_of H)) (add-one j), index-next H a.rows j l);
        part = λ j l. record {
          room = omega (arith, count-is j l, index-most H a.rows j l, index-long H a.rows);
          short = omega (arith, count-is j l, index-most H a.rows j l, size_small H a);
          below = λ q h.
              let e : H.n + 1 + at (index_of H) j + q ≡ suc H.n + (at (index_of H) j + q) = omega arith in
              omega (arith, ap (at (index_of H)) e, index_below H a.rows j l q (omega (arith, count-is j l)), a.sizes.m_most);
        };
      }

  -- in it a row stands at a column as often as it has the column
  pub column-rows : (j i : ℕ) → j < H.n → i < H.m → column_rows (index_of H) H.n j i ≡ has H i j
  unfolding column_rows
  column-rows j i l h =
      ap₂ (λ (from count : ℕ). among (index_of H) (from + at (index_of H) j) count i) (add-one H.n) (count-is j l)
      ∙ index-among H a.rows j l i h

  -- and a row past the checks at none
  none-past : (j i : ℕ) → j < H.n → H.m ≤ i → column_rows (index_of H) H.n j i ≡ 0
  unfolding column_rows among
  none-past j i l past =
      sum-zero (at (index_of H) (j + 1) - at (index_of H) j) (λ q h.
      same-ne (at (index_of H) (H.n + 1 + at (index_of H) j + q)) i (λ e. omega (arith, e, there q (omega (arith, count-is j l)))))
    where
      there : (q : ℕ) → q < weight H j → at (index_of H) (H.n + 1 + at (index_of H) j + q) < H.m
      there q h =
          let e : H.n + 1 + at (index_of H) j + q ≡ suc H.n + (at (index_of H) j + q) = omega arith in
          omega (arith, ap (at (index_of H)) e, index_below H a.rows j l q h)

  module _ (x : List ℕ) (own : x ≡ index_of H) where
    -- the index of an accepted matrix has a part for each column
    pub columns : Columns x H.n
    columns = rw own own-columns

    module _ (z c : ℕ → ℕ) (wz : Word H z) (wc : Word H c) (l : List ℕ) (t : ℕ) (d : Places (differing z c) H.n l t) where
      -- the parity of one check
      turned-fails : (i : ℕ) → i < H.m → (fails H z i + listed_rows x H.n l t i) % 2 ≡ fails H c i
      unfolding fails listed_rows differing
      turned-fails i h =
          omega (
            arith,
            fails-differ H z c a.rows wz wc i h,
            row-sum H a.rows i h change,
            places-sum (differing z c) H.n l t d (λ j. column_rows x H.n j i),
            sum-cong H.n turns,
          )
        where
          change : ℕ → ℕ
          change j = unequal (z j) (c j)

          turns : (j : ℕ) → j < H.n → has H i j * change j ≡ change j * column_rows x H.n j i
          turns j g =
              mul_comm (has H i j) (change j)
              ∙ ap (λ (y : ℕ). change j * y) (sym (column-rows j i g h) ∙ ap (λ (y : List ℕ). column_rows y H.n j i) (sym own))

      -- a row past the checks stands at no column
      turned-past : (i : ℕ) → H.m ≤ i → listed_rows x H.n l t i ≡ 0
      unfolding listed_rows
      turned-past i past =
          sum-zero t (λ q h. ap (λ (y : List ℕ). column_rows y H.n (at l q) i) own ∙ none-past (at l q) i (d.below q h) past)

      -- the parities of all checks, and the cells past them
      pub turned-renewed : (p p' : List ℕ) → Parities H z p → ParitiesTurned (listed_rows x H.n l t) p p' → Renewed H c p p'
      turned-renewed p p' k u =
          record {
            parities = record {
              bits = turned-bits (listed_rows x H.n l t) p p' u;
              each = λ i h. u.each i ∙ ap (λ (y : ℕ). (y + listed_rows x H.n l t i) % 2) (k.each i h) ∙ turned-fails i h;
            };
            rest = λ i past. omega (arith, u.each i, turned-past i past, k.bits.bit i);
          }

-- the parities of all rows, written over an array of parities
pub rows-renewed : (H : Matrix) (z : ℕ → ℕ) (p p' : List ℕ) → H.m ≤ 1023 → Bits p
    → p' ≡ over (listed H.m (row_fails H.list H.rho z)) p → Renewed H z p p'
rows-renewed H z p p' few b e =
    record {
      parities = record {
        bits = record {
          long = over-long H.m (row_fails H.list H.rho z) p p' e (omega (arith, b.long)) ∙ b.long;
          bit = λ i. elim (eq-zero-or-pos (H.m - i)) [
            | inl past ↦ omega (arith, rest i (omega arith), b.bit i)
            | inr h ↦ parity-bit H z p p' e i (omega arith)
          ];
        };
        each = parity-at H z p p' e;
      };
      rest = rest;
    }
  where
    rest : (i : ℕ) → H.m ≤ i → at p' i ≡ at p i
    rest i past = over-rest H.m (row_fails H.list H.rho z) p p' e 0 i past

-- as many parities are 1 as checks fail
pub failing-odd : (H : Matrix) (z : ℕ → ℕ) (p : List ℕ) → Parities H z p → sum_below H.m (at p) ≡ failing H z
unfolding failing
failing-odd H z p k = sum-cong H.m k.each

-- the rows that are listed by their parities are the failing checks
pub failing-places : (H : Matrix) (z : ℕ → ℕ) (p : List ℕ) → Parities H z p → (l₀ l : List ℕ) (t : ℕ) → PlacesListed (at p) H.m l₀ l t
    → Places (fails H z) H.m l t
failing-places H z p k l₀ l t q = (listed-cong (at p) (fails H z) H.m l₀ l t k.each q).places

-- the parities of a word of zeros
pub zero-parities : (H : Matrix) → Parities H (at (replicate 1023 0)) (replicate 1023 0)
unfolding fails
zero-parities H =
    record {
      bits = record { long = length-replicate {A = ℕ} 1023 0; bit = λ i. omega (arith, zeros 1023 i) };
      each = λ i h. zeros 1023 i ∙ sym (ap (λ (y : ℕ). y % 2) (sum-zero H.rho (λ k l. zeros 1023 (entry H i k))));
    }

-- which is a word
pub zero_word : (H : Matrix) → Word H (at (replicate 1023 0))
unfolding Word
zero_word H j l = omega (arith, zeros 1023 j)
