-- `program_ends::after_setting` meets its contract. Assumes nothing.
use mathlib.Core.Path.{◌≡◌, refl, sym, ap, ◌∙◌}
use Prim.Native.Nat.{ℕ, ◌*◌}
use native.Mathlib.Omega.{arith}
use lib.ListN.{take}
use lib.Seq.{length-take-le}
use Rattle.counting.specs.Paper.Lists.{over}
use Rattle.matrix.specs.Paper.Code.{Matrix}
use Rattle.matrix.specs.Paper.Shapes.{matrix_of}
use Rattle.quantiser_settings.specs.Paper.Settings.{setting_of}
use Rattle.program_tables.specs.Tables.{tables_of}
use Rattle.program_tables.proofs.Tables.{tables-short}
use Rattle.program_input.specs.Paper.Input.{setting_in}
use Rattle.program_input.specs.Paper.Opening.{Opening, opening, opening_verdict, Decodable}
use Rattle.program_input.specs.Runs.{opened_of}
use Rattle.program_input.proofs.Openings.{decodable}
use Rattle.program_ends.specs.Stages.{ends}
use Rattle.program_ends.proofs.Replies.{text-alone, replied-as, replied-over, setting-short, setting-whole, opened-reply, opened-tables}
use Rattle.program_ends.proofs.after_setting.Goals as goal

pub returns-then-bytes-lt7 : goal.returns-then-bytes-lt7
returns-then-bytes-lt7 c =
    let lent : ℕ → Matrix = λ k. matrix_of c.args.shape (take k c.args.list.now) in
    let whole : Matrix = lent (c.args.shape.m * c.args.shape.rho) in
    let p = c in
    let s = p in
    let H = whole in
    let bs = s.args.bytes.now in
    let short = setting-short H bs (omega arith) in (
      replied-over p.put_short-end.ensures (omega (arith, s.requires.room)) c.run_over.ensures.1
          (ap ends (text-alone p.put_short-end.ensures (omega (arith, s.requires.room))) ∙ short) (c.run_over.ensures.0 _),
      opened-tables H bs s.args.tables.now short,
    )

pub slice_bounds-begin-end : goal.slice_bounds-begin-end
slice_bounds-begin-end c =
    let e = c in
    let s = c in
    sym (length-take-le e.entries-count.result s.args.list.now (omega (arith, s.requires.readable, s.requires.list, e.entries-count.ensures)))

pub slice_bounds-build-end : goal.slice_bounds-build-end
slice_bounds-build-end c =
    let e = c in
    let s = c in
    sym (length-take-le e.entries-count.result s.args.list.now (omega (arith, s.requires.readable, s.requires.list, e.entries-count.ensures)))

pub build-requires : goal.build-requires
build-requires c =
    let lent : ℕ → Matrix = λ k. matrix_of c.args.shape (take k c.args.list.now) in
    let accepted : Decodable (lent c.entries-count.result) (setting_of c.in-Ok.setting) = let e = c in
    decodable (lent e.entries-count.result) (setting_in c.args.bytes.now) _ c.begin-opened.ensures
    (ap opened_of c.in-Ok.is) in
    let e = c in
    let a = accepted in
    (a.matrix, a.setting, omega (arith, tables-short (lent e.entries-count.result) a.matrix, c.requires.tables))

pub at_blocks-requires : goal.at_blocks-requires
at_blocks-requires c =
    let lent : ℕ → Matrix = λ k. matrix_of c.args.shape (take k c.args.list.now) in
    let accepted : Decodable (lent c.entries-count.result) (setting_of c.in-Ok.setting) = let e = c in
    decodable (lent e.entries-count.result) (setting_in c.args.bytes.now) _ c.begin-opened.ensures
    (ap opened_of c.in-Ok.is) in
    let a = (accepted).matrix in (a.sizes.n_least, a.sizes.n_most)

pub returns-in-Ok : goal.returns-in-Ok
returns-in-Ok c =
    let lent : ℕ → Matrix = λ k. matrix_of c.args.shape (take k c.args.list.now) in
    let whole : Matrix = lent (c.args.shape.m * c.args.shape.rho) in
    let begins : Opening = let S = setting_in c.args.bytes.now in opening (opening_verdict (whole) S) S in
    let found : opened_of c.begin-opened.result ≡ begins = let s = c in
    let S = setting_in s.args.bytes.now in
    c.begin-opened.ensures ∙ ap (λ (k : ℕ). opening (opening_verdict (lent k) S) S) c.entries-count.ensures in
    let o = c in
    let e = c in
    let s = c in
    let list = s.args.list.now in
    let x = s.args.tables.now in
    let H = whole in
    let bs = s.args.bytes.now in
    let opens = opened-reply H (found) (ap opened_of o.in-Ok.is) ∙ setting-whole H bs (omega arith) in (
      record {
        reply = replied-as opens
            (record {
              awaited = c.at_blocks.ensures.0 list;
              want = c.at_blocks.ensures.1;
              text = ap (λ (k : ℕ). take k s.args.out.now) c.at_blocks.ensures.2;
              fits = omega (arith, c.at_blocks.ensures.2);
            });
        rest = refl;
      },
      c.build.ensures ∙ ap (λ (k : ℕ). over (tables_of (lent k) (setting_of o.in-Ok.setting)) x) e.entries-count.ensures
          ∙ opened-tables H bs x opens,
    )

pub returns-in-Err : goal.returns-in-Err
returns-in-Err c =
    let lent : ℕ → Matrix = λ k. matrix_of c.args.shape (take k c.args.list.now) in
    let whole : Matrix = lent (c.args.shape.m * c.args.shape.rho) in
    let begins : Opening = let S = setting_in c.args.bytes.now in opening (opening_verdict (whole) S) S in
    let found : opened_of c.begin-opened.result ≡ begins = let s = c in
    let S = setting_in s.args.bytes.now in
    c.begin-opened.ensures ∙ ap (λ (k : ℕ). opening (opening_verdict (lent k) S) S) c.entries-count.ensures in
    let p = c in
    let o = c in
    let s = c in
    let H = whole in
    let bs = s.args.bytes.now in
    let opens = opened-reply H (found) (ap opened_of o.in-Err.is) ∙ setting-whole H bs (omega arith) in (
      replied-over p.put_refused-end.ensures (omega (arith, s.requires.room)) c.run_over-in-Err.ensures.1
          (ap ends (text-alone p.put_refused-end.ensures (omega (arith, s.requires.room))) ∙ opens) (c.run_over-in-Err.ensures.0 s.args.list.now),
      opened-tables H bs s.args.tables.now opens,
    )
