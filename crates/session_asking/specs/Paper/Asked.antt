-- What opening and a step of a session ask. (Document 01, "Refused for the session"; document 02, card 6.)
--   Held               == the record, the word and the levels, as the caller keeps them
--   lent r word levels == these three, as a call is lent them
--   open_verdict, step_verdict   == what opening and a step ask, in their order
--   not_opened n o     == the levels lent as those of the opening are not exactly n: refusal 7 too
--   unusable, ended    == refusals 20 and 21
--   other_sizes        == refusal 22
--   beyond             == refusal 23
--   held_of s word levels    == a session, a word and levels, as a call is lent them
-- Assumes nothing.
use Rattle.std.specs.Prelude.{ℕ, Bool, not, ◌&&◌, ◌||◌, List, eqb, leb, ltb, ℤ, pos, nat_abs, Float, length, get_or}
use Rattle.counting.specs.Paper.Search.{any_below}
use Rattle.answers.specs.Paper.Answers.{Verdict, accepted, refuse_when, and_then}
use Rattle.packed_word.specs.Paper.Packed.{spare_set}
use Rattle.matrix.specs.Paper.Code.{Matrix}
use Rattle.matrix.specs.Paper.Check.{check_of}
use Rattle.syndrome.specs.Paper.Failing.{word_verdict}
use Rattle.quantiser_levels.specs.Paper.Samples.{Setting, largest, ranges_fit}
use Rattle.iterative_core.specs.Paper.Iterative.{iterative_verdict}
use Rattle.session_record.specs.Paper.Record.{Record, working, decoded, failed}
use Rattle.session_record.specs.Paper.Sessions.{record_of}
use Rattle.session_record.specs.declared.Session.{Session}

-- "the record, word and levels": the caller's own, lent to each call
pub record Held : Type 0 where
  pub rec : Record
  pub word : List ℕ
  pub levels : List ℤ

-- a record, lent with a word and levels
abbrev pub lent : Record → List ℕ → List ℤ → Held
lent r word levels = record { rec = r; word = word; levels = levels }

-- "Opening asks 1 to 8"
unfoldable pub open_verdict : Matrix → Setting → List Float → Held → Verdict
open_verdict H S xs h = iterative_verdict H S xs (length h.word) (length h.levels)

-- refusal 20: "the record is empty; or it is working with b or the round limit out of range or k not below the round limit"
unfoldable pub unusable : Record → Bool
unusable r =
    not (eqb r.state working || (eqb r.state decoded || eqb r.state failed))
    || (eqb r.state working && (not (ranges_fit r.bits r.limit) || leb r.limit r.k))

-- refusal 21: "the record is decoded or failed"
unfoldable pub ended : Record → Bool
ended r = eqb r.state decoded || eqb r.state failed

-- refusal 22: "sizes other than the record's"
unfoldable pub other_sizes : Matrix → Record → Bool
other_sizes H r =
    not (eqb H.n r.n && (eqb H.m r.m && (eqb H.rho r.rho && eqb H.gamma r.gamma)))

-- refusal 23: "a spare place set in the current word, or a level beyond ±L among the first n"
unfoldable pub beyond : Matrix → Record → Held → Bool
beyond H r h =
    spare_set H.n h.word || any_below (λ j. ltb (largest r.bits) (nat_abs (get_or h.levels j (pos 0)))) H.n

-- "the levels the opening wrote; a wrong length of those is 7, and what they hold is never refused"
unfoldable pub not_opened : ℕ → List ℤ → Bool
not_opened n o = not (eqb (length o) n)

-- "A step asks in this order: 20, 21, 1 to 5, 22, 7, 9, 23": the lengths of 7 are those of the opening's levels o, the received word w and
-- the written buffers
unfoldable pub step_verdict : Matrix → List ℕ → List ℤ → Held → Verdict
step_verdict H w o h =
    refuse_when 20 (unusable h.rec)
    (refuse_when 21 (ended h.rec)
    (and_then (check_of H)
    (refuse_when 22 (other_sizes H h.rec)
    (refuse_when 7 (not_opened H.n o)
    (and_then (word_verdict H.n w (length h.word) (length h.levels))
    (refuse_when 23 (beyond H h.rec h) accepted))))))

abbrev pub held_of : Session → List ℕ → List ℤ → Held
held_of s word levels = lent (record_of s) word levels
