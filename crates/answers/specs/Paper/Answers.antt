-- Answers in document 01's numbers. No type of the program is named here.
--   Verdict             == accepted, or refused with a number and a place
--   refuse_if t k x v   == refusal k at place x where the test t passes, else v
--   refuse_when k t v   == refusal k at place 0 where the test t passes, else v
--   refuse_at k x b v   == refusal k at place x where x lies below its bound b, else v
--   and_then v w        == v's refusal, else what w says
--   wrong_lengths ..    == refusal 7: what is lent has not the length wanted, or a written buffer is shorter than needed
--   Said                == a whole answer: a refusal; outcome, rounds, failing and changed; a count of failing checks; a number of stored bytes; an acceptance
--   outcome_by f        == decoded where no check fails, else failed
--   after v s           == the answer s where the verdict v accepts, else v's refusal
--   written v new old   == what a call leaves in a lent buffer: old overwritten by new where v accepts, else old
-- Assumes nothing.
use Rattle.std.specs.Prelude.{ℕ, Bool, true, false, not, cond, ◌||◌, List, eqb, ltb}
use Rattle.counting.specs.Paper.Lists.{over}

-- "Refused for the input": a number and a place
pub data Verdict : Type 0 where
  accepted : Verdict
  refused : ℕ → ℕ → Verdict

-- refusal k at place x where the test passes, else v
abbrev pub refuse_if : Bool → ℕ → ℕ → Verdict → Verdict
refuse_if true k x v = refused k x
refuse_if false k x v = v

-- a refusal without a place of its own
abbrev pub refuse_when : ℕ → Bool → Verdict → Verdict
refuse_when k t v = refuse_if t k 0 v

-- a refusal at the first place of a search, which is the bound where nothing is found
abbrev pub refuse_at : ℕ → ℕ → ℕ → Verdict → Verdict
refuse_at k x b v = refuse_if (ltb x b) k x v

-- what is asked first and what is asked next
abbrev pub and_then : Verdict → Verdict → Verdict
and_then accepted w = w
and_then (refused k x) w = refused k x

-- refusal 7 by lengths: "samples not exactly n, a received word not exactly its bytes, or a written buffer shorter than needed".
-- Exactly `wanted` are lent; of two written buffers, `bytes` of `need` and `room` of `cells` (just enough where the call does not write it).
abbrev pub wrong_lengths : ℕ → ℕ → ℕ → ℕ → ℕ → ℕ → Bool
wrong_lengths lent wanted bytes need room cells = not (eqb lent wanted) || (ltb bytes need || ltb room cells)

-- "An answer holds": outcome (0 decoded, 1 failed, 2 working), rounds, failing, changed.
-- The count of failing checks answers its number, a call that stores a sheet the bytes it wrote, the matrix check and the quantiser that they
-- accept; the count of changed bits a report with all else 0
pub data Said : Type 0 where
  refusal : ℕ → ℕ → Said
  report : ℕ → ℕ → ℕ → ℕ → Said
  count : ℕ → Said
  stored : ℕ → Said
  acceptance : Said

-- 0 decoded, 1 failed
abbrev pub outcome_by : ℕ → ℕ
outcome_by f = cond (eqb f 0) 0 1

-- an accepted call answers, a refused one says its refusal
abbrev pub after : Verdict → Said → Said
after accepted s = s
after (refused k x) s = refusal k x

-- "No refused call writes to a buffer"; cells beyond the needed ones stay
module _ {A : Type 0} where
  abbrev pub written : Verdict → List A → List A → List A
  written accepted new old = over new old
  written (refused k x) new old = old
