-- What opening and a step ask, in statements and not in tests.
--   Openable H S xs h   == refusals 1 to 8: what each of them asks holds
--   Usable r            == refusals 20 and 21
--   Steppable H w o h   == refusals 20, 21, 1 to 5, 22, 7, 9 and 23: what each of them asks holds
--   OpenedFree H w h    == of the levels lent as those of the opening a step asks the number alone
-- proofs/Questions.antt shows that a call is accepted exactly then, and the last. Assumes nothing.
use Rattle.std.specs.Prelude.{ℕ, ◌≤◌, ◌<◌, ◌≡◌, false, List, T, ℤ, pos, nat_abs, Float, length, get_or}
use Rattle.std.specs.Float.{nan}
use Rattle.std.specs.Float.Ieee.Scale.{finite}
use Rattle.packed_word.specs.Paper.Packed.{bytes_for, spare_set}
use Rattle.matrix.specs.Paper.Code.{Matrix}
use Rattle.matrix.specs.Paper.PlainCheck.{Accepted}
use Rattle.quantiser_levels.specs.Paper.Samples.{Setting, most_bits, largest}
use Rattle.quantiser_settings.specs.Paper.Ranges.{InRange}
use Rattle.session_record.specs.Paper.Record.{Record, working}
use Rattle.session_asking.specs.Paper.Asked.{Held, step_verdict}

pub record Openable (H : Matrix) (S : Setting) (xs : List Float) (h : Held) : Type 0 where
  pub matrix : Accepted H
  pub setting : InRange S
  pub samples : length xs ≡ H.n
  pub bytes : bytes_for H.n ≤ length h.word
  pub room : H.n ≤ length h.levels
  pub finite_all : (j : ℕ) → j < length xs → T (finite (get_or xs j nan))

pub record Usable (r : Record) : Type 0 where
  pub works : r.state ≡ working
  pub least : 2 ≤ r.bits
  pub most : r.bits ≤ most_bits
  pub limit : r.limit ≤ 255
  pub left : r.k < r.limit

pub record Steppable (H : Matrix) (w : List ℕ) (o : List ℤ) (h : Held) : Type 0 where
  pub usable : Usable h.rec
  pub matrix : Accepted H
  pub same_n : H.n ≡ h.rec.n
  pub same_m : H.m ≡ h.rec.m
  pub same_rho : H.rho ≡ h.rec.rho
  pub same_gamma : H.gamma ≡ h.rec.gamma
  pub opened : length o ≡ H.n
  pub received : length w ≡ bytes_for H.n
  pub bytes : bytes_for H.n ≤ length h.word
  pub room : H.n ≤ length h.levels
  pub clear : spare_set H.n w ≡ false
  pub word_clear : spare_set H.n h.word ≡ false
  pub within : (j : ℕ) → j < H.n → nat_abs (get_or h.levels j (pos 0)) ≤ largest h.rec.bits

-- "what they hold is never refused"
abbrev pub OpenedFree : Matrix → List ℕ → Held → Type 0
OpenedFree H w h = (o o' : List ℤ) → length o ≡ length o' → step_verdict H w o h ≡ step_verdict H w o' h
