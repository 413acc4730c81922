-- `ffi::mlgd_step` meets its contract: the cells are a record, and the step's answer and cells are the definition's. Assumes nothing.
use mathlib.Core.Path.{sym, subst}
use mathlib.Core.List.{List}
use Prim.Native.Nat.{ℕ}
use lib.IntN.{ℤ}
use Rattle.matrix.specs.Paper.Code.{Matrix, matrix}
use Rattle.session_record.specs.Paper.Record.{Record}
use Rattle.session.specs.Paper.Call.{Leaves}
use Rattle.session_asking.specs.Paper.Asked.{Held}
use Rattle.session.specs.Paper.Steps.{Left, step_of}
use Rattle.session_asking.specs.Paper.Asked.{lent}
use Rattle.ffi_codes.specs.Codes.{Small}
use Rattle.ffi_codes.specs.Records.{record_in}
use Rattle.ffi.proofs.Sessions.{step_small, called, on-record, no_record}
use Rattle.ffi.proofs.mlgd_step.Goals as goal

pub returns-then-cells-ne-RECORD_CELLS : goal.returns-then-cells-ne-RECORD_CELLS
returns-then-cells-ne-RECORD_CELLS c = no_record _ _ c.args.cells.now c.if-cells-ne-RECORD_CELLS.true

pub turn_code-requires : goal.turn_code-requires
turn_code-requires c = (
  c.if-cells-ne-RECORD_CELLS.false,
  subst Small (sym c.step_copy-turn.ensures.says) (step_small _ _ _ _),
)

pub returns : goal.returns
returns c =
    let a = c.args in
    let s = c.session_in-s in
    let t = c.step_copy-turn in
    let H : Matrix = matrix a.n a.m a.rho a.gamma a.list.now in
    let w : List ℕ = a.word.now in
    let ls : List ℤ = a.levels.now in
    let h : Held = lent (record_in a.cells.now) w ls in
    let l : Left = step_of H a.received.now a.opened.now h in
    let w-last : List ℕ = t.new.word in
    let ls-last : List ℤ = t.new.levels in
    let v : Leaves l t.result.answer t.result.session w-last ls-last =
    subst (λ (r : Record). Leaves (step_of H a.received.now a.opened.now (lent r w ls)) t.result.answer t.result.session w-last ls-last)
    s.ensures t.ensures in
    let r = c.turn_code in
    on-record l h r.result a.cells.now r.new.cells w-last ls-last
    c.if-cells-ne-RECORD_CELLS.false
    (called l t.result.answer t.result.session r.result a.cells.now r.new.cells w-last ls-last v r.ensures.0 r.ensures.1)
