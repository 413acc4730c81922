-- `session_opening::open_value` meets its contract: a refused opening hands everything back. Assumes nothing.
use mathlib.Core.Path.{◌≡◌, sym, ap, ◌∙◌}
use Rattle.answers.specs.Paper.Enums.{verdict_of, refusal_number, refusal_place}
use Rattle.matrix.specs.Paper.Code.{Matrix}
use Rattle.matrix.specs.Paper.Shapes.{matrix_of}
use Rattle.quantiser_settings.specs.Paper.Settings.{setting_of}
use Rattle.session_record.specs.Paper.Sessions.{record_of}
use Rattle.session_asking.specs.Paper.Asked.{Held, lent, open_verdict}
use Rattle.session_asking.specs.Paper.Asked.{held_of}
use Rattle.session.specs.RoundParts.{blank}
use Rattle.session_asking.proofs.Questions.{accepted-open}
use Rattle.session.proofs.Answers.{leaves-opened, leaves-unopened}
use Rattle.session_opening.proofs.open_value.Goals as goal

pub open_accepted-requires : goal.open_accepted-requires
unfolding open_verdict
open_accepted-requires c =
    let lent_matrix : Matrix = matrix_of c.args.shape c.args.list.now in
    let held : Held = held_of c.args.session c.args.word.now c.args.levels.now in
    let verdict : open_verdict (lent_matrix) (setting_of c.args.setting) c.args.samples.now (held) ≡ verdict_of c.ask_open-asked.result = sym c.ask_open-asked.ensures in
    let t = c in
    let k = t in
    let s = c in
    accepted-open (lent_matrix) (setting_of s.args.setting) s.args.samples.now (lent blank s.args.word.now s.args.levels.now)
    (verdict ∙ ap verdict_of t.in-Ok.is)

pub returns-in-Ok : goal.returns-in-Ok
unfolding open_verdict
returns-in-Ok c =
    let lent_matrix : Matrix = matrix_of c.args.shape c.args.list.now in
    let held : Held = held_of c.args.session c.args.word.now c.args.levels.now in
    let verdict : open_verdict (lent_matrix) (setting_of c.args.setting) c.args.samples.now (held) ≡ verdict_of c.ask_open-asked.result = sym c.ask_open-asked.ensures in
    let r = c in
    let t = r in
    let k = t in
    let s = c in
    leaves-opened (lent_matrix) (setting_of s.args.setting) s.args.samples.now (held) _ _ _ _ (verdict ∙ ap verdict_of t.in-Ok.is)
    r.open_accepted.ensures

pub returns-in-Err : goal.returns-in-Err
unfolding open_verdict
returns-in-Err c =
    let lent_matrix : Matrix = matrix_of c.args.shape c.args.list.now in
    let held : Held = held_of c.args.session c.args.word.now c.args.levels.now in
    let verdict : open_verdict (lent_matrix) (setting_of c.args.setting) c.args.samples.now (held) ≡ verdict_of c.ask_open-asked.result = sym c.ask_open-asked.ensures in
    let a = c in
    let k = a in
    let s = c in
    leaves-unopened (lent_matrix) (setting_of s.args.setting) s.args.samples.now (held) _ _ (refusal_number a.in-Err.f) (refusal_place a.in-Err.f)
    (verdict ∙ ap verdict_of a.in-Err.is) c.refuse.ensures.1 (ap record_of c.refuse.ensures.0)
