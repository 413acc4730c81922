-- `firmware_decoding::decode` meets its contract: a refusal by 1 or 2 keeps all three buffers, else what follows on the list. Assumes nothing.
use mathlib.Core.Path.{◌≡◌, refl, sym, ap, ◌∙◌}
use mathlib.Core.List.{[]}
use lib.ListN.{length}
use Rattle.answers.specs.Paper.Answers.{Verdict, and_then}
use Rattle.answers.specs.Paper.Enums.{refusal_number, refusal_place}
use Rattle.answers.proofs.Verdicts.{handed_on}
use Rattle.byte_numbers.specs.Paper.Numbers.{entries_in}
use Rattle.matrix.specs.Paper.Code.{Matrix}
use Rattle.matrix.specs.Paper.Check.{check_of}
use Rattle.matrix.specs.Paper.Shapes.{matrix_of}
use Rattle.quantiser_settings.specs.Paper.Settings.{setting_of}
use Rattle.firmware_asking.specs.Paper.Asked.{bytes_verdict, face_verdict}
use Rattle.firmware_asking.specs.Asking.{list_verdict}
use Rattle.firmware_asking.proofs.Questions.{face-asks, few_bytes, list-alone}
use Rattle.firmware_decoding.proofs.Answers.{answered-by, answered-stops, answered-next}
use Rattle.firmware_decoding.proofs.decode.Goals as goal

pub on_read-requires : goal.on_read-requires
on_read-requires c =
    let t = c in
    let k = t in
    let s = k in
    few_bytes (matrix_of s.args.shape []) (length s.args.list.now) (sym t.in_ok-ask_list.ensures)

pub returns : goal.returns
returns c =
    let lent : Matrix = matrix_of c.args.shape (entries_in c.args.list.now) in
    let first : Verdict = list_verdict (matrix_of c.args.shape []) (length c.args.list.now) in
    let next : Verdict = and_then (check_of (lent))
    (bytes_verdict c.args.shape.n (setting_of c.args.setting) c.args.samples.now (length c.args.word.now) (length c.args.levels.now)
    (length c.args.report.now)) in
    let asks : face_verdict (lent) c.args.list.now (setting_of c.args.setting) c.args.samples.now (length c.args.word.now) (length c.args.levels.now) (length c.args.report.now) ≡ and_then (first) (next) = face-asks (lent) c.args.list.now (setting_of c.args.setting) c.args.samples.now (length c.args.word.now) (length c.args.levels.now)
    (length c.args.report.now) refl
    ∙ ap (λ (v : Verdict). and_then v (next)) (list-alone c.args.shape (entries_in c.args.list.now) (length c.args.list.now)) in
    let r = c in
    let t = r in
    let k = t in
    let s = k in
    answered-by (asks) (answered-next (first) (next) (sym t.in_ok-ask_list.ensures) r.on_read.ensures)

pub returns-in_err-ask_list : goal.returns-in_err-ask_list
returns-in_err-ask_list c =
    let lent : Matrix = matrix_of c.args.shape (entries_in c.args.list.now) in
    let first : Verdict = list_verdict (matrix_of c.args.shape []) (length c.args.list.now) in
    let next : Verdict = and_then (check_of (lent))
    (bytes_verdict c.args.shape.n (setting_of c.args.setting) c.args.samples.now (length c.args.word.now) (length c.args.levels.now)
    (length c.args.report.now)) in
    let asks : face_verdict (lent) c.args.list.now (setting_of c.args.setting) c.args.samples.now (length c.args.word.now) (length c.args.levels.now) (length c.args.report.now) ≡ and_then (first) (next) = face-asks (lent) c.args.list.now (setting_of c.args.setting) c.args.samples.now (length c.args.word.now) (length c.args.levels.now)
    (length c.args.report.now) refl
    ∙ ap (λ (v : Verdict). and_then v (next)) (list-alone c.args.shape (entries_in c.args.list.now) (length c.args.list.now)) in
    let a = c in
    let k = a in
    let s = k in
    let e = handed_on _ _ c.from_residual.ensures.1 in
    rw e (answered-by (asks)
    (answered-stops (lent) (setting_of s.args.setting) s.args.samples.now s.args.word.now s.args.levels.now s.args.report.now
    (first) (next) (refusal_number a.in_err-ask_list.field-0.0) (refusal_place a.in_err-ask_list.field-0.0) (sym a.in_err-ask_list.ensures)))
