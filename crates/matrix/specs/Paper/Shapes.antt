-- The matrix that a call is lent: its sizes and its list.
--   matrix_of s list   == the matrix of both
-- Assumes nothing.
use Rattle.std.specs.Prelude.{ℕ, List}
use Rattle.matrix.specs.Paper.Code.{Matrix, matrix}
use Rattle.matrix.specs.declared.Shape.{Shape}

-- the matrix of the sizes and the list
abbrev pub matrix_of : Shape → List ℕ → Matrix
matrix_of s list = matrix s.n s.m s.rho s.gamma list
