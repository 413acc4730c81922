-- `sheet_bytes::is_sheet` meets its contract: fewer than six bytes are no sheet. Assumes nothing.
use native.Mathlib.Omega.{arith}
use Rattle.sheet_bytes.proofs.Faults.{short-refused}
use Rattle.sheet_bytes.proofs.is_sheet.Goals as goal

pub returns-then-bytes-lt6 : goal.returns-then-bytes-lt6
returns-then-bytes-lt6 c = short-refused c.args.bytes.now (omega arith)
