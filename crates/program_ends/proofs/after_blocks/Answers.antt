-- `program_ends::after_blocks` meets its contract. Assumes nothing.
use mathlib.Core.Path.{◌≡◌, sym, ap, ◌∙◌, subst}
use mathlib.Core.List.{List}
use Prim.Native.Nat.{ℕ, ◌+◌, ◌*◌, ◌≤◌}
use native.Mathlib.Omega.{arith}
use lib.ListN.{length, take}
use lib.Seq.{length-take-le}
use Rattle.matrix.specs.Paper.Code.{Matrix}
use Rattle.matrix.specs.Paper.Shapes.{matrix_of}
use Rattle.matrix.proofs.Rows.{few-entries}
use Rattle.program_tables.specs.Tables.{tables_of}
use Rattle.quantiser_levels.specs.Paper.Samples.{Setting}
use Rattle.quantiser_settings.specs.Paper.Settings.{setting_of}
use Rattle.program_turns.specs.Turns.{bytes_at_once}
use Rattle.program_lines.specs.Loans.{Countable}
use Rattle.program_lines.specs.Paper.Blocks.{chunk_text}
use Rattle.program_lines.proofs.BlockLines.{chunk-ends}
use Rattle.program_ends.specs.Stages.{blocks_from, ends}
use Rattle.program_ends.proofs.Replies.{text-alone, replied-over, tables-front, countable, blocks_last, blocks_more}
use Rattle.program_ends.proofs.after_blocks.Goals as goal

pub entries-count-requires : goal.entries-count-requires
entries-count-requires c = few-entries _ c.requires.readable.0.matrix.sizes

pub slice_bounds-chunk-end : goal.slice_bounds-chunk-end
slice_bounds-chunk-end c =
    let e = c in
    let s = c in
    sym (length-take-le e.entries-count.result s.args.list.now
    (omega (arith, s.requires.list, e.entries-count.ensures, few-entries _ s.requires.readable.0.matrix.sizes)))

pub slice_bounds-chunk-end-2 : goal.slice_bounds-chunk-end-2
slice_bounds-chunk-end-2 c =
    let e = c in
    let s = c in
    let a = s.requires.readable.0.matrix.sizes in
    sym (length-take-le (2050 + (17 * s.args.shape.n + 16 * s.args.shape.m)) s.args.tables.now (omega (arith, s.requires.tables, a.n_most, a.m_most)))

pub chunk-end-requires : goal.chunk-end-requires
chunk-end-requires c =
    let lent : ℕ → Matrix = λ k. matrix_of c.args.shape (take k c.args.list.now) in
    let by : Setting = setting_of c.args.setting in
    let whole : Matrix = lent (c.args.shape.m * c.args.shape.rho) in
    let printable : Countable (lent c.entries-count.result) (by) c.args.number c.args.bytes.now 0 c.args.out.now = let s = c in
    let bs = s.args.bytes.now in
    let o = c.at_once-some.ensures in
    let came = subst (λ (k : ℕ). length bs ≤ k * (4 * s.args.shape.n)) (sym o.count) s.requires.came in
    subst (λ (k : ℕ). Countable (lent k) (by) s.args.number bs 0 s.args.out.now) (sym c.entries-count.ensures)
    (countable (whole) (by) s.requires.readable.0 o came s.requires.room) in
    let e = c in
    let s = c in
    let x = s.args.tables.now in (
      printable,
      subst (λ (k : ℕ). take (2050 + (17 * s.args.shape.n + 16 * s.args.shape.m)) x ≡ tables_of (lent k) (by)) (sym e.entries-count.ensures) (tables-front (whole) (by) x s.requires.held),
    )

pub run_over-requires : goal.run_over-requires
run_over-requires c =
    let lent : ℕ → Matrix = λ k. matrix_of c.args.shape (take k c.args.list.now) in
    let by : Setting = setting_of c.args.setting in
    let whole : Matrix = lent (c.args.shape.m * c.args.shape.rho) in
    let printable : Countable (lent c.entries-count.result) (by) c.args.number c.args.bytes.now 0 c.args.out.now = let s = c in
    let bs = s.args.bytes.now in
    let o = c.at_once-some.ensures in
    let came = subst (λ (k : ℕ). length bs ≤ k * (4 * s.args.shape.n)) (sym o.count) s.requires.came in
    subst (λ (k : ℕ). Countable (lent k) (by) s.args.number bs 0 s.args.out.now) (sym c.entries-count.ensures)
    (countable (whole) (by) s.requires.readable.0 o came s.requires.room) in
    let k = c in
    let e = k in
    let s = c in
    chunk-ends (lent e.entries-count.result) (by) s.args.number s.args.bytes.now 0 s.args.out.now (printable) k.chunk-end.ensures

pub returns-then-bytes-want : goal.returns-then-bytes-want
returns-then-bytes-want c =
    let lent : ℕ → Matrix = λ k. matrix_of c.args.shape (take k c.args.list.now) in
    let by : Setting = setting_of c.args.setting in
    let whole : Matrix = lent (c.args.shape.m * c.args.shape.rho) in
    let printable : Countable (lent c.entries-count.result) (by) c.args.number c.args.bytes.now 0 c.args.out.now = let s = c in
    let bs = s.args.bytes.now in
    let o = c.at_once-some.ensures in
    let came = subst (λ (k : ℕ). length bs ≤ k * (4 * s.args.shape.n)) (sym o.count) s.requires.came in
    subst (λ (k : ℕ). Countable (lent k) (by) s.args.number bs 0 s.args.out.now) (sym c.entries-count.ensures)
    (countable (whole) (by) s.requires.readable.0 o came s.requires.room) in
    let lines : List ℕ = chunk_text (whole) (by) c.args.number c.args.bytes.now in
    let text : take c.chunk-end.result c.chunk-end.new.out ≡ lines = let e = c in
    let s = c in
    text-alone c.chunk-end.ensures (omega (arith, (printable).room))
    ∙ ap (λ (k : ℕ). chunk_text (lent k) (by) s.args.number s.args.bytes.now) e.entries-count.ensures in
    let k = c in
    let e = k in
    let s = c in
    replied-over k.chunk-end.ensures (omega (arith, (printable).room)) c.run_over.ensures.1
    (ap ends (text) ∙ blocks_last (whole) (by) s.args.number s.args.bytes.now (rw (← e.at_once-some.ensures.count) (omega arith)))
    (c.run_over.ensures.0 s.args.list.now)

pub returns : goal.returns
returns c =
    let lent : ℕ → Matrix = λ k. matrix_of c.args.shape (take k c.args.list.now) in
    let by : Setting = setting_of c.args.setting in
    let whole : Matrix = lent (c.args.shape.m * c.args.shape.rho) in
    let printable : Countable (lent c.entries-count.result) (by) c.args.number c.args.bytes.now 0 c.args.out.now = let s = c in
    let bs = s.args.bytes.now in
    let o = c.at_once-some.ensures in
    let came = subst (λ (k : ℕ). length bs ≤ k * (4 * s.args.shape.n)) (sym o.count) s.requires.came in
    subst (λ (k : ℕ). Countable (lent k) (by) s.args.number bs 0 s.args.out.now) (sym c.entries-count.ensures)
    (countable (whole) (by) s.requires.readable.0 o came s.requires.room) in
    let lines : List ℕ = chunk_text (whole) (by) c.args.number c.args.bytes.now in
    let text : take c.chunk-end.result c.chunk-end.new.out ≡ lines = let e = c in
    let s = c in
    text-alone c.chunk-end.ensures (omega (arith, (printable).room))
    ∙ ap (λ (k : ℕ). chunk_text (lent k) (by) s.args.number s.args.bytes.now) e.entries-count.ensures in
    let k = c in
    let e = k in
    let s = c in
    let i = s.args.number in
    let bs = s.args.bytes.now in
    let o = e.at_once-some.ensures in
    let b = c.at_blocks.ensures in
    replied-over k.chunk-end.ensures (omega (arith, (printable).room)) b.2 (blocks_more (whole) (by) i bs (rw (← o.count) (omega arith)))
    (record {
      awaited = b.0 s.args.list.now ∙ ap (λ (x : ℕ). blocks_from (whole) (by) (i + x)) o.count;
      want = b.1 ∙ ap (λ (x : ℕ). bytes_at_once s.args.shape.n (i + x)) o.count;
      text = ap (λ (x : ℕ). take x k.chunk-end.new.out) b.2 ∙ text;
      fits = omega (arith, b.2, chunk-ends (lent e.entries-count.result) (by) i bs 0 s.args.out.now (printable) k.chunk-end.ensures);
    })
