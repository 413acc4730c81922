-- Rows as parts of the list of column numbers, and lists of places.
--   Part l from count        == count column numbers of l from a place on, each the place of a bit
--   BitsAt l from count z    == the word z has bits at them
--   ones_at l from count z   == the sum of those bits
--   Checks l m rho z         == l holds m rows of rho column numbers each, and the word z has bits there
--   row_fails l rho z i      == the parity of the bits at row i of such a list
--   Places f m l t           == the first t of l are the places below m at which f is 1, each once
--   places_over f m l        == l with the places below m written over it, each where the next one at which f is 1 belongs
--   PlacesListed f m l l' t  == l' is that, in every cell, and t the number of these places
-- Assumes nothing.
use Rattle.std.specs.Prelude.{◌≡◌, List, ℕ, zero, suc, ◌+◌, ◌*◌, ◌%◌, ◌<◌, ◌≤◌, length, set}
use Rattle.counting.specs.Paper.Sum.{sum_below, same}
use Rattle.counting.specs.Places.{at}

-- a part of a list of column numbers, or of an index: no longer than the largest index there is
pub record Part (l : List ℕ) (from count : ℕ) : Type 0 where
  pub room : from + count ≤ length l
  pub short : from + count ≤ 33760
  pub below : (k : ℕ) → k < count → at l (from + k) < 1023

-- bits at the column numbers of a part
abbrev pub BitsAt : List ℕ → ℕ → ℕ → (ℕ → ℕ) → Type 0
BitsAt l from count z = (k : ℕ) → k < count → z (at l (from + k)) < 2

-- how many of these bits are 1
unfoldable pub ones_at : List ℕ → ℕ → ℕ → (ℕ → ℕ) → ℕ
ones_at l from count z = sum_below count (λ k. z (at l (from + k)))

-- the rows of a list, each a part of it
pub record Checks (l : List ℕ) (m rho : ℕ) (z : ℕ → ℕ) : Type 0 where
  pub few : m ≤ 1023
  pub part : (i : ℕ) → i < m → Part l (i * rho) rho
  pub bits : (i : ℕ) → i < m → BitsAt l (i * rho) rho z

-- whether the check of row i fails, by the list alone
unfoldable pub row_fails : List ℕ → ℕ → (ℕ → ℕ) → ℕ → ℕ
row_fails l rho z i = ones_at l (i * rho) rho z % 2

-- a list of places, kept at the front of an array
pub record Places (f : ℕ → ℕ) (m : ℕ) (l : List ℕ) (t : ℕ) : Type 0 where
  pub long : length l ≡ 1023
  pub few : t ≤ m
  pub below : (q : ℕ) → q < t → at l q < m
  pub each : (x : ℕ) → x < m → sum_below t (λ q. same (at l q) x) ≡ f x
  pub total : t ≡ sum_below m f

-- place i is written behind the places before it at which f is 1; where f is 0 at it, the next one is written over it
unfoldable pub places_over : (ℕ → ℕ) → ℕ → List ℕ → List ℕ
places_over f zero l = l
places_over f (suc i) l = set (places_over f i l) (sum_below i f) i

-- the list l becomes l', whose first t cells are the places in their order
pub record PlacesListed (f : ℕ → ℕ) (m : ℕ) (l l' : List ℕ) (t : ℕ) : Type 0 where
  pub cells : l' ≡ places_over f m l
  pub places : Places f m l' t
