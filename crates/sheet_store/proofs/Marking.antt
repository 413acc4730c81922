-- Laws of the map while the blocks of the first rows' ones are set in it.
--   row_in        == the first row of a block row is a row of the matrix
--   block_in      == the block of each of its ones is one of the grid
--   place_in      == so its place is one of the map
--   place_is      == the place as the code adds it up
--   place-small   == which is a small number
--   place-fits    == and stands in the map's bytes
--   place-new     == none of the ones before it stands in that block
--   marked-none   == before the first one the map is clear
--   marked_step   == setting the place of the next one marks it
--   marked_row    == a block row with all of its ones marked is done
--   marked_all    == once all block rows are, the map is that of the sheet
-- Assumes nothing.
use mathlib.Core.Path.{◌≡◌, sym, ap, ◌∙◌}
use mathlib.Core.List.{List}
use Prim.Native.Nat.{ℕ, ◌+◌, ◌*◌, ◌-◌, ◌/◌, ◌%◌, ◌^◌, ◌≤◌, ◌<◌}
use native.Mathlib.Nat.{zero-div, div-lt_iff_lt-mul}
use native.Mathlib.Numerals.{add-one}
use native.Mathlib.Decide.{ℕ_discrete}
use native.Mathlib.Omega.{arith}
use lib.Arith.{digits_lt}
use lib.ListN.{length, replicate, length-replicate}
use Rattle.counting.specs.Paper.Sum.{sum_below, same}
use Rattle.counting.specs.Digits.{binary_digit}
use Rattle.counting.proofs.Sums.{sum-zero, same_refl, same-ne}
use Rattle.counting.proofs.Ascending.{ascending-lt}
use Rattle.counting.proofs.Writes.{zeros}
use Rattle.packed_word.specs.Paper.Packed.{bit_at, bytes_for, pack, Bytes}
use Rattle.packed_word.specs.Steps.{SetBit}
use Rattle.packed_word.proofs.Packed.{pack-cong, pack-bit_at, clear-spare}
use Rattle.matrix.specs.Paper.Code.{Matrix, entry}
use Rattle.matrix.specs.Paper.PlainCheck.{Accepted}
use Rattle.sheet.specs.Paper.MatrixSheet.{in_block}
use Rattle.sheet.specs.Parts.{Grid, first_entry}
use Rattle.sheet_store.specs.Storing.{place_of, marks, Marked}
use Rattle.sheet_store.proofs.Whole.{few-places}

-- before the first one the map is clear
pub marked-none : (H : Matrix) (Z : ℕ) (w : List ℕ) → w ≡ replicate (bytes_for (H.m / Z * (H.n / Z))) 0 → Marked H Z 0 0 w
unfolding marks bit_at sum_below
marked-none H Z w e =
    record {
      long = ap length e ∙ length-replicate {A = ℕ} (bytes_for (H.m / Z * (H.n / Z))) 0;
      bits = λ p.
          ap (λ (x : List ℕ). bit_at x p) e
          ∙ ap (λ (x : ℕ). binary_digit x (7 - p % 8)) (zeros (bytes_for (H.m / Z * (H.n / Z))) (p / 8))
          ∙ ap (λ (x : ℕ). x % 2) (zero-div (2 ^ (7 - p % 8)));
    }

-- a block row with all of its ones marked is done
pub marked_row : (H : Matrix) (Z r : ℕ) (w : List ℕ) → Marked H Z r H.rho w → Marked H Z (r + 1) 0 w
unfolding marks sum_below
marked_row H Z r w u = rw (add-one r) record { long = u.long; bits = λ p. omega (arith, u.bits p) }

module _ (H : Matrix) (Z : ℕ) (a : Accepted H) (g : Grid H Z) where
  -- the first row of a block row is a row of the matrix
  pub row_in : (r : ℕ) → r < H.m / Z → r * Z < H.m
  row_in r l = omega (arith, digits_lt {q = r} {m = H.m / Z} {r = 0} {c = Z} l g.some, g.high)

  module _ (r k : ℕ) (l : r < H.m / Z) (h : k < H.rho) where
    -- the block of each of its ones is one of the grid
    pub block_in : entry H (r * Z) k / Z < H.n / Z
    block_in = (div-lt_iff_lt-mul {k = Z} {x = entry H (r * Z) k} {y = H.n / Z} g.some).1 (omega (arith, a.rows.below (r * Z) k (row_in r l) h, g.wide))

    -- so its place is one of the map
    pub place_in : place_of H Z r k < H.m / Z * (H.n / Z)
    unfolding place_of
    place_in = digits_lt {q = r} {m = H.m / Z} {r = entry H (r * Z) k / Z} {c = H.n / Z} l block_in

    module _ (c : ℕ) (e : c ≡ entry H (r * Z) k) where
      -- the place as the code adds it up
      pub place_is : r * (H.n / Z) + c / Z ≡ place_of H Z r k
      unfolding place_of
      place_is = ap (λ (x : ℕ). r * (H.n / Z) + x / Z) e

      -- which is a small number
      pub place-small : r * (H.n / Z) + c / Z < 1046529
      place-small = omega (arith, place_is, place_in, few-places H.m H.n Z a.sizes.m_most a.sizes.n_most)

      -- and stands in the map's bytes
      pub place-fits : (r * (H.n / Z) + c / Z) / 8 < bytes_for (H.m / Z * (H.n / Z))
      place-fits = omega (arith, place_is, place_in)

  -- the blocks of a block row ascend
  later-block : (r i k : ℕ) → r < H.m / Z → i < k → k < H.rho → place_of H Z r i < place_of H Z r k
  unfolding place_of first_entry
  later-block r i k l b h =
      omega (arith, ascending-lt (λ x. entry H (r * Z) x / Z) H.rho (λ x m. g.apart r x l m) i k b h)

  -- and stand before those of the next
  later-row : (q r i k : ℕ) → q < r → r < H.m / Z → i < H.rho → k < H.rho → place_of H Z q i < place_of H Z r k
  unfolding place_of
  later-row q r i k b l m h =
      omega (arith, digits_lt {q = q} {m = r} {r = entry H (q * Z) i / Z} {c = H.n / Z} b (block_in q i (omega arith) m))

  module _ (r k : ℕ) (l : r < H.m / Z) (h : k < H.rho) where
    -- none of the ones before it stands in that block
    pub place-new : marks H Z r k (place_of H Z r k) ≡ 0
    unfolding marks
    place-new = omega (arith, rows, row)
      where
        rows : sum_below r (λ q. sum_below H.rho (λ i. same (place_of H Z q i) (place_of H Z r k))) ≡ 0
        rows =
            sum-zero r (λ q b. sum-zero H.rho (λ i m.
            same-ne (place_of H Z q i) (place_of H Z r k) (λ e. omega (arith, later-row q r i k b l m h))))

        row : sum_below k (λ i. same (place_of H Z r i) (place_of H Z r k)) ≡ 0
        row = sum-zero k (λ i b. same-ne (place_of H Z r i) (place_of H Z r k) (λ e. omega (arith, later-block r i k l b h)))

    -- setting the place of the next one marks it
    pub marked_step : (w w' : List ℕ) → Marked H Z r k w → SetBit w w' (place_of H Z r k) → Marked H Z r (k + 1) w'
    unfolding marks sum_below
    marked_step w w' u s =
        rw (add-one k)
        record {
          long = s.long ∙ u.long;
          bits = λ p.
              elim (ℕ_discrete p (place_of H Z r k)) [
                | yes e ↦ rw e (omega (arith, s.here, place-new, same_refl (place_of H Z r k)))
                | no ne ↦ omega (arith, s.there p ne, u.bits p, same-ne (place_of H Z r k) p (λ e. ne (sym e)))
              ];
        }

  -- past the map's places nothing is marked
  spare-none : (p : ℕ) → H.m / Z * (H.n / Z) ≤ p → marks H Z (H.m / Z) 0 p ≡ 0
  unfolding marks sum_below
  spare-none p b =
      omega (
        arith,
        sum-zero (H.m / Z) {f = λ q. sum_below H.rho (λ i. same (place_of H Z q i) p)} (λ q l. sum-zero H.rho (λ i m.
            same-ne (place_of H Z q i) p (λ e. omega (arith, place_in q i l m)))),
      )

  -- all ones are those of the blocks
  marks-all : (p : ℕ) → marks H Z (H.m / Z) 0 p ≡ in_block H Z p
  unfolding marks in_block place_of sum_below
  marks-all p = omega arith

  -- once all block rows are done the map is that of the sheet
  pub marked_all : (w : List ℕ) → Bytes w → Marked H Z (H.m / Z) 0 w → w ≡ pack (H.m / Z * (H.n / Z)) (in_block H Z)
  marked_all w small u =
      let J : ℕ = H.m / Z * (H.n / Z) in
      sym (pack-bit_at J w small u.long (clear-spare J w (λ p b m. u.bits p ∙ spare-none p b)))
      ∙ pack-cong J (bit_at w) (in_block H Z) (λ p m. u.bits p ∙ marks-all p)
