-- Votes of listed checks by their rows as sets of columns.
--   listed_votes n x l from k j   == how many of k listed sets, from a place of the list on, have column j of n
--   first_bytes n bs j            == byte j of the first n, and 0 past them
--   BytesCount x l from k bs      == byte j is in how many of them column j stands
--   VotesFew H l t                == the first t of l are rows of the matrix, and no bit has more than 63 votes of theirs
-- Assumes nothing.
use Rattle.std.specs.Prelude.{◌≡◌, cond, List, ℕ, ◌<◌, ◌≤◌, ltb, length}
use Rattle.counting.specs.Places.{at}
use Rattle.matrix.specs.Paper.Code.{Matrix}
use Rattle.matrix_rows.specs.Rows.{word_of, place_of}
use Rattle.majority_votes.specs.Tallies.{of_rows, ListedRows}
use Rattle.majority_planes.specs.Planes.{sets_count}

unfoldable pub listed_votes : ℕ → List ℕ → List ℕ → ℕ → ℕ → ℕ → ℕ
listed_votes n x l from k j = cond (ltb j n) (sets_count x l from k (word_of j) (place_of j)) 0

unfoldable pub first_bytes : ℕ → List ℕ → ℕ → ℕ
first_bytes n bs j = cond (ltb j n) (at bs j) 0

pub record BytesCount (x l : List ℕ) (from k : ℕ) (bs : List ℕ) : Type 0 where
  pub long : length bs ≡ 1024
  pub each : (j : ℕ) → j < 1024 → at bs j ≡ sets_count x l from k (word_of j) (place_of j)

pub record VotesFew (H : Matrix) (l : List ℕ) (t : ℕ) : Type 0 where
  pub parts : ListedRows H.list H.rho l t
  pub below : (q : ℕ) → q < t → at l q < H.m
  pub few : (j : ℕ) → of_rows H.list H.rho l t j ≤ 63
