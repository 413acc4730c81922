-- Text put into a lent buffer.
--   Room text at out          == there is room for the text at place `at` of the buffer
--   Put text at old new next  == the buffer old, with exactly this text at place `at`, is new, and the text ends before `next`
--   PutWithin k text ..       == the same, of at most k bytes
-- Assumes nothing.
use Rattle.std.specs.Prelude.{◌≡◌, List, ℕ, ◌+◌, ◌≤◌, length}
use Rattle.std.proofs.lemmas.List.Edits.{sets}

abbrev pub Room : List ℕ → ℕ → List ℕ → Type 0
Room text at out = at + length text ≤ length out

pub record Put (text : List ℕ) (at : ℕ) (old new : List ℕ) (next : ℕ) : Type 0 where
  pub bytes : new ≡ sets old at text
  pub ends : next ≡ at + length text

pub record PutWithin (most : ℕ) (text : List ℕ) (at : ℕ) (old new : List ℕ) (next : ℕ) : Type 0 where
  pub put : Put text at old new next
  pub within : next ≤ at + most
