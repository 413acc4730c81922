-- What is promised of a call that takes matrix and index, whatever it asks after both.
--   OwnAlike H           == with the matrix's own index it asks what the call without an index asks
--   MatrixFirst H        == a matrix that is refused is refused with its own number, whatever the index
--   TenElse H            == with any other list it is refused by 10
--   TenOnly H            == and by 10 only then, where the rest gives no 10
-- proofs/Claims.antt proves all four for every matrix. Assumes nothing.
use Rattle.std.specs.Prelude.{ℕ, ◌≡◌, List}
use Rattle.answers.specs.Paper.Answers.{Verdict, accepted, refused, and_then}
use Rattle.matrix.specs.Paper.Code.{Matrix}
use Rattle.matrix.specs.Paper.Check.{check_of}
use Rattle.matrix_index.specs.Paper.Index.{index_of}
use Rattle.matrix_index_check.specs.Paper.Call.{indexed_verdict}

-- "with the same answers as without it"
abbrev pub OwnAlike : Matrix → Type 0
OwnAlike H = (rest : Verdict) → indexed_verdict H (index_of H) rest ≡ and_then (check_of H) rest

-- 10 is asked of an accepted matrix only
abbrev pub MatrixFirst : Matrix → Type 0
MatrixFirst H = (x : List ℕ) (rest : Verdict) (k p : ℕ) → check_of H ≡ refused k p → indexed_verdict H x rest ≡ refused k p

-- "an index that is not exactly the matrix's own"
abbrev pub TenElse : Matrix → Type 0
TenElse H = (x : List ℕ) (rest : Verdict) → check_of H ≡ accepted → (x ≡ index_of H → ⊥) → indexed_verdict H x rest ≡ refused 10 0

-- no other list is refused so
abbrev pub TenOnly : Matrix → Type 0
TenOnly H =
    (x : List ℕ) (rest : Verdict) (p : ℕ) → ((q : ℕ) → rest ≡ refused 10 q → ⊥) → indexed_verdict H x rest ≡ refused 10 p
    → (check_of H ≡ accepted) × (x ≡ index_of H → ⊥)
