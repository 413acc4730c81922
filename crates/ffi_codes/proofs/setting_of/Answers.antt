-- `ffi_codes::setting_of` meets its contract: for a third kind the step 0 stands. Assumes nothing.
use native.Mathlib.Omega.{arith}
use Rattle.ffi_codes.proofs.StandIns.{stands-none}
use Rattle.ffi_codes.proofs.setting_of.Goals as goal

pub returns-in_default : goal.returns-in_default
returns-in_default c = let a = c.args in stands-none a.bits a.limit a.kind a.step (omega arith)
