-- Opening and a step as calls: what they say and leave. (Document 01, "Rounds one at a time".)
--   Leaves l ..                == the answer, the session and the buffers after a call are those of l
-- Assumes nothing.
use Rattle.answers.specs.declared.Report.{Report}
use Rattle.answers.specs.declared.Refusal.{Refusal}
use Rattle.std.specs.Prelude.{ℕ, ◌≡◌, List, ℤ, Result}
use Rattle.answers.specs.Paper.Enums.{said_of}
use Rattle.session_record.specs.Paper.Sessions.{record_of}
use Rattle.session.specs.Paper.Steps.{Left}
use Rattle.session_record.specs.declared.Session.{Session}

pub record Leaves (l : Left) (answer : Result Report Refusal) (session : Session) (word' : List ℕ) (levels' : List ℤ) : Type 0 where
  pub says : said_of answer ≡ l.said
  pub rec : record_of session ≡ l.held.rec
  pub word : word' ≡ l.held.word
  pub levels : levels' ≡ l.held.levels
