-- Lists one after another, and lists of numbers compared.
--   joined k f      == the lists f 0, f 1, .. f (k - 1) one after another
--   chosen k f      == the numbers below k in ascending order, each as often as f says
--   same_list a b    == whether two lists of numbers are equal
-- Assumes nothing.
use Rattle.std.specs.Prelude.{ℕ, zero, suc, Bool, true, false, ◌&&◌, List, [], ◌∷◌, ◌++◌, eqb, replicate}

-- the first k lists of f as one list
unfoldable pub joined : {A : Type 0} → ℕ → (ℕ → List A) → List A
joined zero f = []
joined (suc k) f = joined k f ++ f k

-- the numbers below k, each as often as f says
unfoldable pub chosen : ℕ → (ℕ → ℕ) → List ℕ
chosen k f = joined k (λ c. replicate (f c) c)

-- whether two lists of numbers are equal, place by place
unfoldable pub same_list : List ℕ → List ℕ → Bool
same_list [] [] = true
same_list [] (y ∷ b) = false
same_list (x ∷ a) [] = false
same_list (x ∷ a) (y ∷ b) = eqb x y && same_list a b
