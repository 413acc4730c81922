-- `firmware::mlgd_decode` meets its contract: what is answered by the setting that stands for the lent one, and its returned number. Assumes nothing.
use Rattle.quantiser_settings.specs.Paper.Settings.{setting_of}
use Rattle.firmware_asking.specs.Paper.Asked.{face_matrix, face_setting}
use Rattle.firmware.proofs.Answers.{answered-stands, answered-faced}
use Rattle.firmware.proofs.Rule.{face-promised}
use Rattle.firmware.proofs.mlgd_decode.Goals as goal

pub returns : goal.returns
returns c =
    let p = (let d = c in
    let t = d in
    let a = c.args in
    let f =
    answered-faced
    (answered-stands (face_matrix a.n a.m a.rho a.gamma a.list.now) a.list.now (face_setting a.bits a.limit a.kind a.step)
    (setting_of t.setting_by-setting.result) t.setting_by-setting.ensures d.decode-answer.ensures) c.result.ensures in
    face-promised a.n a.m a.rho a.gamma a.list.now (face_setting a.bits a.limit a.kind a.step) _ _ _ _ _ _ _ _ f) in
    record { answer = p.0; iterative = p.1.0; flipping_rule = p.1.1.0; ample_limit = p.1.1.1 }
