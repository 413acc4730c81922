-- The parities of all checks, kept from one word to the next.
--   Bits p                   == an array of parities, 0 or 1 each
--   BitsBelow n z            == an array with bits at its first n places
--   ParitiesTurned f p p'    == the parity at each place i is turned over f i times
--   differing a b j          == 1 where the words a and b differ at place j, else 0
--   FlipsListed f n l l' t   == l becomes l', whose first t cells are the places below n at which f is 1; the cells past the next one stay
--   column_rows x n j i      == how often row i stands among the rows of column j in the index x
--   listed_rows x n l t i    == the same in the columns that the first t places of l are
--   Columns x n              == the index x holds a part for each column below n
--   Parities H z p           == p holds the parity of each check of the word z
--   Renewed H z p p'         == p becomes p', the parities of the word z; the cells past the checks stay
-- Assumes nothing.
use Rattle.std.specs.Prelude.{ℕ, ◌+◌, ◌-◌, ◌%◌, ◌≤◌, ◌<◌, ◌≡◌, List, length}
use Rattle.counting.specs.Paper.Sum.{sum_below, unequal}
use Rattle.counting.specs.Places.{at, among}
use Rattle.matrix.specs.Paper.Code.{Matrix, fails}
use Rattle.syndrome.specs.Places.{Part, Places}

pub record Bits (p : List ℕ) : Type 0 where
  pub long : length p ≡ 1023
  pub bit : (i : ℕ) → at p i < 2

unfoldable pub BitsBelow : ℕ → List ℕ → Type 0
BitsBelow n z = (j : ℕ) → j < n → at z j < 2

pub record ParitiesTurned (f : ℕ → ℕ) (p p' : List ℕ) : Type 0 where
  pub long : length p' ≡ 1023
  pub each : (i : ℕ) → at p' i ≡ (at p i + f i) % 2

unfoldable pub differing : (ℕ → ℕ) → (ℕ → ℕ) → ℕ → ℕ
differing a b j = unequal (a j) (b j)

-- the cell behind the places may hold one that was looked at and not counted
pub record FlipsListed (f : ℕ → ℕ) (n : ℕ) (l l' : List ℕ) (t : ℕ) : Type 0 where
  pub places : Places f n l' t
  pub rest : (q : ℕ) → t < q → at l' q ≡ at l q

unfoldable pub column_rows : List ℕ → ℕ → ℕ → ℕ → ℕ
column_rows x n j i = among x (n + 1 + at x j) (at x (j + 1) - at x j) i

unfoldable pub listed_rows : List ℕ → ℕ → List ℕ → ℕ → ℕ → ℕ
listed_rows x n l t i = sum_below t (λ q. column_rows x n (at l q) i)

-- the starting places rise, and the rows of each column are a part of the index
pub record Columns (x : List ℕ) (n : ℕ) : Type 0 where
  pub few : n ≤ 1023
  pub long : n < length x
  pub rises : (j : ℕ) → j < n → at x j ≤ at x (j + 1)
  pub part : (j : ℕ) → j < n → Part x (n + 1 + at x j) (at x (j + 1) - at x j)

pub record Parities (H : Matrix) (z : ℕ → ℕ) (p : List ℕ) : Type 0 where
  pub bits : Bits p
  pub each : (i : ℕ) → i < H.m → at p i ≡ fails H z i

pub record Renewed (H : Matrix) (z : ℕ → ℕ) (p p' : List ℕ) : Type 0 where
  pub parities : Parities H z p'
  pub rest : (i : ℕ) → H.m ≤ i → at p' i ≡ at p i
