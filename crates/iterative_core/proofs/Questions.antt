-- What is asked of the setting and the samples, by its tests.
--   says-setting   == refusal 6 where the setting is out of range
--   says-lengths   == else refusal 7 where the lengths are wrong
--   says-sample    == else refusal 8 at the first sample that is not finite
--   says-finite    == else nothing is refused
-- Assumes nothing.
use mathlib.Core.Path.{◌≡◌}
use mathlib.Core.Bool.{true, false}
use mathlib.Core.List.{List}
use Prim.Native.Nat.{ℕ, ◌≤◌, ◌<◌}
use borrow.Author.Tests.{lt-ltb, le-ltb}
use lib.Ieee.{Float}
use lib.ListN.{length}
use Rattle.answers.specs.Paper.Answers.{accepted, refused, wrong_lengths}
use Rattle.packed_word.specs.Paper.Packed.{bytes_for}
use Rattle.quantiser_levels.specs.Paper.Samples.{Setting, setting_fits, first_not_finite}
use Rattle.iterative_core.specs.Paper.Iterative.{samples_verdict}

module _ (n : ℕ) (S : Setting) (xs : List Float) (bytes room : ℕ) where
  -- refusal 6 where the setting is out of range
  pub says-setting : setting_fits S ≡ false → refused 6 0 ≡ samples_verdict n S xs bytes room
  unfolding samples_verdict
  says-setting e = rw e

  module _ (fits : setting_fits S ≡ true) where
    -- else refusal 7 where the lengths are wrong
    pub says-lengths : wrong_lengths (length xs) n bytes (bytes_for n) room n ≡ true → refused 7 0 ≡ samples_verdict n S xs bytes room
    unfolding samples_verdict
    says-lengths e = rw (fits, e)

    module _ (lengths : wrong_lengths (length xs) n bytes (bytes_for n) room n ≡ false) where
      -- else refusal 8 at the first sample that is not finite
      pub says-sample : (x : ℕ) → x ≡ first_not_finite xs → x < length xs → refused 8 x ≡ samples_verdict n S xs bytes room
      unfolding samples_verdict
      says-sample x e l = rw (fits, lengths, ← e, lt-ltb x (length xs) l)

      -- else nothing is refused
      pub says-finite : (x : ℕ) → x ≡ first_not_finite xs → length xs ≤ x → accepted ≡ samples_verdict n S xs bytes room
      unfolding samples_verdict
      says-finite x e l = rw (fits, lengths, ← e, le-ltb x (length xs) l)
