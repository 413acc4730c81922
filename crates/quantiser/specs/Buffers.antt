-- What filling the lent buffers asks and does. Old buffers are ls, bs and w, new ones ls', bs' and w'.
--   Roomy xs ls bs            == the samples are finite, and each has its level and its cell
--   Stored f b k ls ls' ..    == the levels f and the bits b are written at the first k places, and the other cells stay
--   FilledBy s xs ls ls' ..   == the levels by the scale s and the hard bits of all samples are stored
--   Fillable S xs ls          == the setting fits, the samples are finite, at most 1,023 and not more than the levels
--   Filled S xs ls ls' ..     == the levels are written over the old ones, and the hard bits one to a cell
-- Assumes nothing.
use Rattle.std.specs.Prelude.{◌≡◌, true, List, ℕ, ◌*◌, ◌^◌, ◌≤◌, ◌<◌, ℤ, Float, length}
use Rattle.counting.specs.Paper.Lists.{listed, over}
use Rattle.counting.specs.Places.{at}
use Rattle.quantiser_levels.specs.Paper.Samples.{Setting, setting_fits, levels_of, hard_bit, first_not_finite}
use Rattle.quantiser_levels.specs.Scale.{level_at}
use Rattle.quantiser_levels.specs.declared.Scale.{Scale}

pub record Roomy (xs : List Float) (ls : List ℤ) (bs : List ℕ) : Type 0 where
  pub each_finite : first_not_finite xs ≡ length xs
  pub room : length xs ≤ length ls
  pub cells : length xs ≤ length bs

pub record Stored (f : ℕ → ℤ) (b : ℕ → ℕ) (k : ℕ) (ls ls' : List ℤ) (bs bs' : List ℕ) : Type 0 where
  pub levels : ls' ≡ over (listed k f) ls
  pub broad : length ls' ≡ length ls
  pub long : length bs' ≡ length bs
  pub each : (j : ℕ) → j < k → at bs' j ≡ b j
  pub rest : (j : ℕ) → k ≤ j → at bs' j ≡ at bs j

abbrev pub FilledBy : Scale → List Float → List ℤ → List ℤ → List ℕ → List ℕ → Type 0
FilledBy s xs ls ls' bs bs' = Stored (level_at s.gain s.top (s.sig * 2 ^ s.shift) xs) (hard_bit xs) (length xs) ls ls' bs bs'

pub record Fillable (S : Setting) (xs : List Float) (ls : List ℤ) : Type 0 where
  pub setting : setting_fits S ≡ true
  pub each_finite : first_not_finite xs ≡ length xs
  pub few : length xs ≤ 1023
  pub room : length xs ≤ length ls

pub record Filled (S : Setting) (xs : List Float) (ls ls' : List ℤ) (bs bs' : List ℕ) : Type 0 where
  pub levels : ls' ≡ over (levels_of S xs) ls
  pub long : length bs' ≡ 1023
  pub each : (j : ℕ) → j < length xs → at bs' j ≡ hard_bit xs j
  pub rest : (j : ℕ) → length xs ≤ j → at bs' j ≡ at bs j
