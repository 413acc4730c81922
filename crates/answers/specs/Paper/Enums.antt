-- Which number and values of document 01 each case of an answer is.
--   refusal_number, refusal_place                           == of a refusal
--   outcome_of                                              == of an outcome: 0 decoded, 1 failed, 2 working
--   verdict_of, report_of, said_of, counted_of, stored_of   == of a check, a report, a call that reports, a count of failing checks, a stored sheet
-- Assumes nothing.
use Rattle.std.specs.Prelude.{ℕ, Result, Ok, Err}
use Rattle.answers.specs.Paper.Answers.{Verdict, accepted, refused, Said, refusal, report, count, stored}
use Rattle.answers.specs.declared.Outcome.{Outcome}
use Rattle.answers.specs.declared.Outcome.TheVariants.{Decoded, Failed, Working}
use Rattle.answers.specs.declared.Report.{Report}
use Rattle.answers.specs.declared.Refusal.{Refusal}
use Rattle.answers.specs.declared.Refusal.TheVariants.{Sizes, Length, Entry, Weight, Overlap, Setting, Buffer, Sample, Spare, Index, Sheet, NoSheet, Level}
use Rattle.answers.specs.declared.Refusal.TheVariants.{Record, Ended, OtherSizes, Beyond}

abbrev pub refusal_number : Refusal → ℕ
refusal_number Sizes = 1
refusal_number Length = 2
refusal_number (Entry p) = 3
refusal_number (Weight j) = 4
refusal_number (Overlap i) = 5
refusal_number Setting = 6
refusal_number Buffer = 7
refusal_number (Sample j) = 8
refusal_number Spare = 9
refusal_number Index = 10
refusal_number Sheet = 11
refusal_number NoSheet = 12
refusal_number (Level j) = 13
refusal_number Record = 20
refusal_number Ended = 21
refusal_number OtherSizes = 22
refusal_number Beyond = 23

abbrev pub refusal_place : Refusal → ℕ
refusal_place Sizes = 0
refusal_place Length = 0
refusal_place (Entry p) = p
refusal_place (Weight j) = j
refusal_place (Overlap i) = i
refusal_place Setting = 0
refusal_place Buffer = 0
refusal_place (Sample j) = j
refusal_place Spare = 0
refusal_place Index = 0
refusal_place Sheet = 0
refusal_place NoSheet = 0
refusal_place (Level j) = j
refusal_place Record = 0
refusal_place Ended = 0
refusal_place OtherSizes = 0
refusal_place Beyond = 0

abbrev pub outcome_of : Outcome → ℕ
outcome_of Decoded = 0
outcome_of Failed = 1
outcome_of Working = 2

-- a check says accepted, or the refusal's number and place
abbrev pub verdict_of : Result Unit Refusal → Verdict
verdict_of (Ok u) = accepted
verdict_of (Err f) = refused (refusal_number f) (refusal_place f)

-- a report's four numbers
abbrev pub report_of : Report → Said
report_of p = report (outcome_of p.outcome) p.rounds p.failing p.changed

-- a call that reports says its report, or the refusal's number and place
abbrev pub said_of : Result Report Refusal → Said
said_of (Ok p) = report_of p
said_of (Err f) = refusal (refusal_number f) (refusal_place f)

-- a count says its number, or the refusal's number and place
abbrev pub counted_of : Result ℕ Refusal → Said
counted_of (Ok k) = count k
counted_of (Err f) = refusal (refusal_number f) (refusal_place f)

-- a call that stores says how many bytes it wrote, or the refusal's number and place
abbrev pub stored_of : Result ℕ Refusal → Said
stored_of (Ok k) = stored k
stored_of (Err f) = refusal (refusal_number f) (refusal_place f)
