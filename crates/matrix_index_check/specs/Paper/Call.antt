-- The index as a call: what it says and leaves. (Document 02, card 1.)
--   indexed_verdict H x rest    == what a call asks that takes matrix and index: 1 to 5, then 10, then the rest
--   IndexAnswered H old new v   == what building the index of H says, and what it leaves in the buffer, refused calls too
-- Assumes nothing.
use Rattle.std.specs.Prelude.{ℕ, ◌≡◌, List, length}
use Rattle.answers.specs.Paper.Answers.{Verdict, and_then, written}
use Rattle.matrix.specs.Paper.Code.{Matrix}
use Rattle.matrix.specs.Paper.Check.{check_of}
use Rattle.matrix_index.specs.Paper.Index.{index_of, own_verdict, index_verdict}

-- "A lent index is trusted only after it has been found to be the one of that matrix"; 10 "comes right after 5"
unfoldable pub indexed_verdict : Matrix → List ℕ → Verdict → Verdict
indexed_verdict H x rest = and_then (check_of H) (and_then (own_verdict H x) rest)

pub record IndexAnswered (H : Matrix) (old new : List ℕ) (v : Verdict) : Type 0 where
  pub says : v ≡ index_verdict H (length old)
  pub index : new ≡ written (index_verdict H (length old)) (index_of H) old
