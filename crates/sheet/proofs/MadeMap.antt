-- The map of the sheet of a grid of blocks: one set place for each one of a block row's first row.
--   in_rows       == a place below J w lies in one of J rows of w places
--   Blocks H Z    == a grid of blocks that has some, with the first rows' column numbers below n
--   ones_in        == how many ones of block row r's first row lie in block column c
--   place_in      == each of them lies in a block column
--   ones-once     == at most one in each
--   in-block      == at place r K + c of the map stands that number
--   bits_of       == the map consists of bits
--   set-of        == so the sheet has a block set where the first row has a one
--   row_of        == each block row has rho set places
--   places_of     == and all of them J rho
--   place-of      == the k-th of a block row is the block column of the k-th one
--   spare_of      == the spare places of the map are clear
-- Assumes nothing.
use mathlib.Core.Path.{◌≡◌, sym, ap, ◌∙◌}
use mathlib.Core.List.{List}
use Prim.Native.Nat.{ℕ, ◌+◌, ◌*◌, ◌/◌, ◌≤◌, ◌<◌}
use native.Mathlib.Nat.{div-lt_iff_lt-mul, mul-one}
use native.Mathlib.Omega.{arith}
use lib.Arith.{digits_lt}
use Rattle.counting.specs.Paper.Sum.{sum_below, same}
use Rattle.counting.specs.Paper.Joined.{chosen}
use Rattle.counting.specs.Places.{at}
use Rattle.counting.proofs.Sums.{sum-cong, sum-mul, sum-swap, sum-pick, sum-const, sum-within, same-sym}
use Rattle.counting.proofs.Ascending.{ascending-once}
use Rattle.counting.proofs.Writes.{get_or-listed}
use Rattle.counting.proofs.Chosen.{chosen-cong, chosen-again}
use Rattle.counting.proofs.Residues.{same_digits}
use Rattle.packed_word.specs.Paper.Packed.{bytes_for}
use Rattle.packed_word.proofs.Packed.{bit_at-pack, spare-pack}
use Rattle.matrix.specs.Paper.Code.{Matrix}
use Rattle.sheet.specs.Paper.Sheet.{map_bit, set_at, set_in, set_places}
use Rattle.sheet.specs.Paper.MatrixSheet.{in_block, sheet_of}
use Rattle.sheet.specs.Parts.{place_at, first_entry, Grid}
use Rattle.sheet.proofs.MadeBytes.{made-rows, made-columns, map_of}

-- a place below J w lies in one of J rows of w places
pub in_rows : (J w p : ℕ) → p < J * w → (r : ℕ) × (k : ℕ) × (r < J) × (k < w) × (p ≡ r * w + k)
in_rows J w p l =
    let f = sum-within J (λ _. w) p (omega (arith, sum-const J w)) in
    (f.0, f.1, f.2, f.3, omega (arith, f.4, sum-const f.0 w))

-- a grid of blocks that has some, with the first rows' column numbers below n
pub record Blocks (H : Matrix) (Z : ℕ) : Type 0 where
  pub grid : Grid H Z
  pub rows_some : 0 < H.m / Z
  pub columns_some : 0 < H.n / Z
  pub below : (r k : ℕ) → r < H.m / Z → k < H.rho → first_entry H Z r k < H.n

-- how many ones of block row r's first row lie in block column c
abbrev pub ones_in : Matrix → ℕ → ℕ → ℕ → ℕ
ones_in H Z r c = sum_below H.rho (λ k. same (first_entry H Z r k / Z) c)

module _ (H : Matrix) (Z : ℕ) (b : Blocks H Z) where
  -- each of them lies in a block column
  pub place_in : (r k : ℕ) → r < H.m / Z → k < H.rho → first_entry H Z r k / Z < H.n / Z
  place_in r k l h =
      (div-lt_iff_lt-mul {k = Z} {x = first_entry H Z r k} {y = H.n / Z} b.grid.some).1 (omega (arith, b.below r k l h, b.grid.wide))

  -- at most one in each
  pub ones-once : (r c : ℕ) → r < H.m / Z → ones_in H Z r c ≤ 1
  ones-once r c l = ascending-once (λ k. first_entry H Z r k / Z) H.rho (λ k. b.grid.apart r k l) c

  -- at place r K + c of the map stands that number: no other block row has that place
  pub in-block : (r c : ℕ) → r < H.m / Z → c < H.n / Z → in_block H Z (r * (H.n / Z) + c) ≡ ones_in H Z r c
  unfolding in_block first_entry
  in-block r c l h =
      sum-cong (H.m / Z)
      (λ q m.
      sum-cong H.rho (λ k n. same_digits (H.n / Z) q r (first_entry H Z q k / Z) c (place_in q k m n) h)
      ∙ sum-mul H.rho (same q r) (λ k. same (first_entry H Z q k / Z) c)
      ∙ ap (λ (x : ℕ). x * ones_in H Z q c) (same-sym q r))
      ∙ sum-pick (H.m / Z) (λ q. ones_in H Z q c) r l

  -- the map consists of bits
  pub bits_of : (p : ℕ) → p < H.m / Z * (H.n / Z) → in_block H Z p < 2
  bits_of p l =
      let f = in_rows (H.m / Z) (H.n / Z) p l in
      omega (arith, ap (in_block H Z) f.4, in-block f.0 f.1 f.2 f.3, ones-once f.0 f.1 f.2)

  -- so the sheet has a block set where the first row has a one
  pub set-of : (r c : ℕ) → r < H.m / Z → c < H.n / Z → set_at (sheet_of H Z) r c ≡ ones_in H Z r c
  unfolding set_at
  set-of r c l h =
      let p : ℕ = r * (H.n / Z) + c in
      let here : p < H.m / Z * (H.n / Z) = digits_lt {q = r} {m = H.m / Z} {r = c} {c = H.n / Z} l h in
      ap (λ (x : ℕ). map_bit (sheet_of H Z) (r * x + c)) (made-columns H Z)
      ∙ map_of H Z p (omega arith)
      ∙ bit_at-pack (H.m / Z * (H.n / Z)) (in_block H Z) bits_of p here
      ∙ in-block r c l h

  -- each one lies in one block column
  one_block : (r k : ℕ) → r < H.m / Z → k < H.rho → sum_below (H.n / Z) (same (first_entry H Z r k / Z)) ≡ 1
  one_block r k l h =
      sum-cong (H.n / Z) (λ c m. sym (mul-one (same (first_entry H Z r k / Z) c)))
      ∙ sum-pick (H.n / Z) (λ _. 1) (first_entry H Z r k / Z) (place_in r k l h)

  -- each block row has rho set places
  pub row_of : (r : ℕ) → r < H.m / Z → set_in (sheet_of H Z) r ≡ H.rho
  unfolding set_in
  row_of r l =
      ap (λ (x : ℕ). sum_below x (set_at (sheet_of H Z) r)) (made-columns H Z)
      ∙ sum-cong (H.n / Z) (λ c h. set-of r c l h)
      ∙ sum-swap (H.n / Z) H.rho (λ c k. same (first_entry H Z r k / Z) c)
      ∙ sum-cong H.rho (λ k h. one_block r k l h)
      ∙ sum-const H.rho 1
      ∙ mul-one H.rho

  -- and all of them J rho
  pub places_of : set_places (sheet_of H Z) ≡ H.m / Z * H.rho
  unfolding set_places
  places_of =
      ap (λ (x : ℕ). sum_below x (set_in (sheet_of H Z))) (made-rows H Z) ∙ sum-cong (H.m / Z) row_of ∙ sum-const (H.m / Z) H.rho

  -- the k-th of a block row is the block column of the k-th one
  pub place-of : (r k : ℕ) → r < H.m / Z → k < H.rho → place_at (sheet_of H Z) r k ≡ first_entry H Z r k / Z
  unfolding place_at
  place-of r k l h =
      ap (λ (x : ℕ). at (chosen x (set_at (sheet_of H Z) r)) k) (made-columns H Z)
      ∙ ap (λ (x : List ℕ). at x k)
      (chosen-cong (H.n / Z) (set_at (sheet_of H Z) r) (ones_in H Z r) (λ c m. set-of r c l m)
      ∙ chosen-again (H.n / Z) H.rho (λ q. first_entry H Z r q / Z) (λ q m. place_in r q l m) (λ q m. b.grid.apart r q l m))
      ∙ get_or-listed H.rho (λ q. first_entry H Z r q / Z) k 0 h

  -- the spare places of the map are clear
  pub spare_of : (p : ℕ) → H.m / Z * (H.n / Z) ≤ p → p < 8 * bytes_for (H.m / Z * (H.n / Z)) → map_bit (sheet_of H Z) p ≡ 0
  spare_of p l h = map_of H Z p h ∙ spare-pack (H.m / Z * (H.n / Z)) (in_block H Z) bits_of p l
