-- `ffi::mlgd_open` meets its contract: the cells are a record, and the opening's answer and cells are the definition's. Assumes nothing.
use mathlib.Core.Path.{◌≡◌, sym, ap, subst, ◌∙◌}
use mathlib.Core.List.{List}
use Prim.Native.Nat.{ℕ}
use lib.IntN.{ℤ}
use Rattle.matrix.specs.Paper.Code.{Matrix, matrix}
use Rattle.session_record.specs.Paper.Record.{Record}
use Rattle.session_record.specs.Paper.Sessions.{record_of}
use Rattle.session.specs.Paper.Call.{Leaves}
use Rattle.session_asking.specs.Paper.Asked.{Held}
use Rattle.session.specs.Paper.Steps.{Left, open_of}
use Rattle.session_asking.specs.Paper.Asked.{lent}
use Rattle.ffi_codes.specs.Codes.{Small}
use Rattle.ffi_codes.specs.Records.{record_in}
use Rattle.quantiser_levels.specs.Paper.Samples.{Setting}
use Rattle.quantiser_settings.specs.Paper.Settings.{setting_of}
use Rattle.quantiser_settings.specs.Numbers.{setting_by}
use Rattle.ffi.proofs.Sessions.{open-small, open-alike, called, on-record, no_record}
use Rattle.ffi.proofs.mlgd_open.Goals as goal

pub returns-then-cells-ne-RECORD_CELLS : goal.returns-then-cells-ne-RECORD_CELLS
returns-then-cells-ne-RECORD_CELLS c = no_record _ _ c.args.cells.now c.if-cells-ne-RECORD_CELLS.true

pub turn_code-requires : goal.turn_code-requires
turn_code-requires c = (
  c.if-cells-ne-RECORD_CELLS.false,
  subst Small (sym c.open_copy-turn.ensures.says) (open-small _ _ _ _),
)

pub returns : goal.returns
returns c =
    let b = c in
    let a = b.args in
    let s = c.session_in-s in
    let t = c.open_copy-turn in
    let H : Matrix = matrix a.n a.m a.rho a.gamma a.list.now in
    let w : List ℕ = a.word.now in
    let ls : List ℤ = a.levels.now in
    let e = c.setting_of-setting in
    let S : Setting = setting_by a.bits a.limit a.kind a.step in
    let T : Setting = setting_of e.result in
    let h : Held = lent (record_in a.cells.now) w ls in
    let q : open_of H T a.samples.now (lent (record_of s.result) w ls) ≡ open_of H S a.samples.now h =
    ap (λ (r : Record). open_of H T a.samples.now (lent r w ls)) s.ensures ∙ open-alike H S T e.ensures a.samples.now h in
    let v : Leaves (open_of H S a.samples.now h) t.result.answer t.result.session t.new.word t.new.levels =
    subst (λ (l : Left). Leaves l t.result.answer t.result.session t.new.word t.new.levels) q t.ensures in
    let r = c.turn_code in
    on-record (open_of H S a.samples.now h) h r.result a.cells.now r.new.cells t.new.word t.new.levels
    c.if-cells-ne-RECORD_CELLS.false
    (called (open_of H S a.samples.now h) t.result.answer t.result.session r.result a.cells.now r.new.cells
    t.new.word t.new.levels v r.ensures.0 r.ensures.1)
