-- One call: what a refused one and an accepted one leave, and that the words they leave are bits.
--   refused-open-keeps, refused-step-keeps   == a refused call leaves everything, and says its refusal
--   accepted-opens, accepted-steps           == an accepted one says and leaves what its definition gives
--   opening-wrote                            == the levels that an accepted opening wrote are those of its samples, n of them
--   start-bits, round-bits                   == the words that opening and a round leave are bits
-- Assumes nothing.
use mathlib.Core.Path.{◌≡◌, sym, ap, ◌∙◌}
use mathlib.Core.List.{List}
use Prim.Native.Nat.{ℕ, ◌<◌}
use lib.IntN.{ℤ}
use lib.Ieee.{Float}
use lib.ListN.{take}
use Rattle.counting.specs.Paper.Lists.{listed, over}
use Rattle.counting.proofs.Writes.{length-listed, take-over}
use Rattle.answers.specs.Paper.Answers.{accepted, refused, refusal}
use Rattle.matrix.specs.Paper.Code.{Matrix}
use Rattle.quantiser_levels.specs.Paper.Samples.{Setting}
use Rattle.quantiser_settings.proofs.Ranges.{hard-bit-at}
use Rattle.iterative_rounds.specs.Paper.Rounds.{State, level_after, round_of}
use Rattle.iterative_core.specs.Paper.Iterative.{start_of}
use Rattle.iterative_levels.proofs.Levels.{above-bit}
use Rattle.session_asking.specs.Paper.Asked.{Held, open_verdict, step_verdict}
use Rattle.session.specs.Paper.Steps.{opened_left, open_of, wrote_levels, stepped_left, step_of}

-- a refused call leaves everything, and says its refusal
pub refused-open-keeps : (H : Matrix) (S : Setting) (xs : List Float) (h : Held) (k x : ℕ) → open_verdict H S xs h ≡ refused k x
    → open_of H S xs h ≡ record { said = refusal k x; held = h }
unfolding open_of
refused-open-keeps H S xs h k x e = rw e

pub refused-step-keeps : (H : Matrix) (w : List ℕ) (o : List ℤ) (h : Held) (k x : ℕ) → step_verdict H w o h ≡ refused k x
    → step_of H w o h ≡ record { said = refusal k x; held = h }
unfolding step_of
refused-step-keeps H w o h k x e = rw e

-- what an accepted one leaves
pub accepted-opens : (H : Matrix) (S : Setting) (xs : List Float) (h : Held) → open_verdict H S xs h ≡ accepted → open_of H S xs h ≡ opened_left H S xs h
unfolding open_of
accepted-opens H S xs h e = rw e

pub accepted-steps : (H : Matrix) (w : List ℕ) (o : List ℤ) (h : Held) → step_verdict H w o h ≡ accepted → step_of H w o h ≡ stepped_left H w o h
unfolding step_of
accepted-steps H w o h e = rw e

-- the levels that an accepted opening wrote
pub opening-wrote : (H : Matrix) (S : Setting) (xs : List Float) (h : Held) → open_verdict H S xs h ≡ accepted
    → wrote_levels H (open_of H S xs h) ≡ listed H.n (start_of S xs).R
opening-wrote H S xs h e =
    let R : ℕ → ℤ = (start_of S xs).R in
    ap (wrote_levels H) (accepted-opens H S xs h e)
    ∙ ap (λ (k : ℕ). take k (over (listed H.n R) h.levels)) (sym (length-listed H.n R))
    ∙ take-over (listed H.n R) h.levels

-- the bits of the states that calls write
pub start-bits : (S : Setting) (xs : List Float) (j : ℕ) → (start_of S xs).z j < 2
unfolding start_of
start-bits S xs j = hard-bit-at xs j

pub round-bits : (H : Matrix) (L : ℕ) (s : State) (j : ℕ) → (round_of H L s).z j < 2
unfolding round_of
round-bits H L s j = above-bit (level_after H L s j)
