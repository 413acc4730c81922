-- `ffi_codes::stored_code` meets its contract: each case by what it ensures. Assumes nothing.
use mathlib.Core.Path.{sym, ap, ◌∙◌}
use Prim.Native.Nat.{ℕ}
use Rattle.std.proofs.Common.{Result}
use Rattle.answers.specs.declared.Refusal.{Refusal}
use Rattle.answers.specs.Paper.Enums.{stored_of}
use Rattle.ffi_codes.specs.Codes.{code_of}
use Rattle.ffi_codes.proofs.stored_code.Goals as goal

pub returns-in-Ok : goal.returns-in-Ok
returns-in-Ok c = ap (λ (a : Result ℕ Refusal). code_of (stored_of a)) (sym c.in-Ok.is)

pub returns-in-Err : goal.returns-in-Err
returns-in-Err c = c.refusal_code.ensures ∙ ap (λ (a : Result ℕ Refusal). code_of (stored_of a)) (sym c.in-Err.is)
