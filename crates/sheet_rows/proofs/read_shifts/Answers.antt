-- `sheet_rows::read_shifts`: the numbers that the block row's part of the bytes holds are its shifts.
use mathlib.Core.Path.{refl, ap, ◌∙◌}
use mathlib.Core.List.{List}
use Prim.Native.Nat.{ℕ}
use native.Mathlib.Omega.{arith}
use Rattle.counting.specs.Paper.Lists.{over}
use Rattle.sheet_rows.proofs.Lent.{shifts-there, shifts-read}
use Rattle.sheet_rows.proofs.read_shifts.Goals as goal

pub slice_bounds-entries-end : goal.slice_bounds-entries-end
slice_bounds-entries-end c =
    let a = c.args in
    omega (arith, c.map_bytes.ensures, shifts-there a.bytes.now a.h a.rho c.requires.0 a.r c.requires.1)

pub returns : goal.returns
returns c =
    let a = c.args in
    c.entries.ensures
    ∙ ap (λ (l : List ℕ). over l a.shifts.now) (shifts-read a.bytes.now a.h a.rho c.requires.0 a.r c.map_bytes.result _ c.requires.1 c.map_bytes.ensures refl)
