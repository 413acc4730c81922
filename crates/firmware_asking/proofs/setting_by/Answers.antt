-- `firmware_asking::setting_by` meets its contract: what stands for the step stands for the setting. Assumes nothing.
use Rattle.firmware_asking.proofs.Settings.{pattern-stands, step-or_zero, stands-through}
use Rattle.firmware_asking.proofs.setting_by.Goals as goal

pub returns : goal.returns
returns c =
    let a = c.args in
    let x = c.unwrap_or in
    stands-through (pattern-stands a.bits a.limit a.kind a.p x.result (step-or_zero a.p c.step_of.ensures x.ensures)) c.setting_of.ensures
