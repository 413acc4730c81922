-- `ffi_codes::turn_out` meets its contract: a report's record is written, a refusal keeps the cells. Assumes nothing.
use mathlib.Core.Path.{sym, ap, ◌∙◌}
use Rattle.std.proofs.Common.{Result}
use Rattle.answers.specs.declared.Report.{Report}
use Rattle.answers.specs.declared.Refusal.{Refusal}
use Rattle.answers.specs.Paper.Enums.{said_of}
use Rattle.session_record.specs.Paper.Sessions.{record_of}
use Rattle.ffi_codes.specs.Records.{cells_of, written_by}
use Rattle.ffi_codes.proofs.turn_out.Goals as goal

pub returns-in-Ok : goal.returns-in-Ok
returns-in-Ok c =
    let a = c.args in
    c.session_out.ensures
    ∙ ap (λ (x : Result Report Refusal). written_by (said_of x) (cells_of (record_of a.turn.session)) a.cells.now)
    (sym c.in-Ok.is)
