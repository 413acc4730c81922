use mathlib.Core.Path.{ap, ◌∙◌}
use native.Mathlib.Omega.{arith}
use Rattle.std.specs.Slice.Iter.{chunks_exact_rest, chunks_exact_size}
use Rattle.matrix.specs.Paper.Shapes.{matrix_of}
use Rattle.quantiser_settings.specs.Paper.Settings.{setting_of}
use Rattle.program_lines.proofs.BlockLines.{lined-none, lined-more, lined-all}
use Rattle.program_lines.proofs.lines.Goals as goal

pub loop-samples-init : goal.loop-samples-init
loop-samples-init c =
    let a = c.args in
    let begun = c.into_iter-samples-iterator.ensures.into_iter_gives in
    let items = c.chunks_exact-samples-items.ensures in (
      ap chunks_exact_size begun ∙ items.size,
      lined-none (matrix_of a.shape a.list.now) (setting_of a.setting) a.number a.bytes.now a.at a.out.now
          (ap chunks_exact_rest begun ∙ items.rest),
    )

pub loop-samples-preserved : goal.loop-samples-preserved
loop-samples-preserved c =
    let a = c.args in
    let l = c.loop-samples.invariant in
    let step = c.in-Some.ensures.steps in (
      step.0 ∙ l.0,
      lined-more (matrix_of a.shape a.list.now) (setting_of a.setting) a.number a.bytes.now a.at a.out.now c.requires.0 l.1
          _ _ step.1.0 (step.1.1 ∙ l.0) c.block-end.ensures,
    )

pub returns : goal.returns
returns c =
    let a = c.args in
    let l = c.loop-samples.invariant in
    lined-all (matrix_of a.shape a.list.now) (setting_of a.setting) a.number a.bytes.now a.at a.out.now c.requires.0 l.1
    (omega (arith, l.0, c.in-None.ensures.steps.1.0))
