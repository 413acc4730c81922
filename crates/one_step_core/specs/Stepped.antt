-- One vote on an unpacked word, and the whole call.
--   Stepped H z z' rounds f     == the array z becomes z', the word after the vote, with its rounds and its failing checks
--   VoteLent H w old                == what the refusals leave: an accepted matrix, a word, a buffer with room for it
--   HandBackLent n w z old      == bits z of a word, its received bytes w, and a buffer with room for it
--   HandedBack n w z ..         == the bits packed over the buffer, and the report of a vote with its rounds and its failing checks
--   Voted H w old new s         == what the core says and writes
-- Assumes nothing.
use Rattle.std.specs.Prelude.{ℕ, ◌*◌, ◌≤◌, ◌<◌, ◌≡◌, false, List, length}
use Rattle.counting.specs.Paper.Lists.{over}
use Rattle.counting.specs.Places.{at}
use Rattle.answers.specs.Paper.Answers.{Said, report, outcome_by}
use Rattle.packed_word.specs.Paper.Packed.{bit_at, bytes_for, pack, spare_set, distance}
use Rattle.matrix.specs.Paper.Code.{Matrix, failing}
use Rattle.matrix.specs.Paper.PlainCheck.{Accepted}
use Rattle.majority_logic.specs.Paper.OneStep.{step_word, step_rounds, one_step_report, one_step_word}

pub record Stepped (H : Matrix) (z z' : List ℕ) (rounds f : ℕ) : Type 0 where
  pub each : (j : ℕ) → j < H.n → at z' j ≡ step_word H (at z) j
  pub rest : (j : ℕ) → H.n ≤ j → at z' j ≡ at z j
  pub rounds_are : rounds ≡ step_rounds H (at z)
  pub failing_are : f ≡ failing H (step_word H (at z))

pub record VoteLent (H : Matrix) (w old : List ℕ) : Type 0 where
  pub matrix : Accepted H
  pub long : length w ≡ bytes_for H.n
  pub spare : spare_set H.n w ≡ false
  pub room : bytes_for H.n ≤ length old

pub record HandBackLent (n : ℕ) (w z old : List ℕ) : Type 0 where
  pub few : n ≤ 1023
  pub long : length w ≡ bytes_for n
  pub bits : (j : ℕ) → j < n → at z j < 2
  pub room : bytes_for n ≤ length old

pub record HandedBack (n : ℕ) (w : List ℕ) (z : ℕ → ℕ) (rounds f : ℕ) (old new : List ℕ) (s : Said) : Type 0 where
  pub says : s ≡ report (outcome_by f) rounds f (distance (8 * bytes_for n) (bit_at (pack n z)) (bit_at w))
  pub word : new ≡ over (pack n z) old

pub record Voted (H : Matrix) (w old new : List ℕ) (s : Said) : Type 0 where
  pub says : s ≡ one_step_report H (bit_at w)
  pub word : new ≡ over (one_step_word H w) old
