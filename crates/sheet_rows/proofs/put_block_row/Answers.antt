-- `sheet_rows::put_block_row`: by the starting columns and the shifts that are read, the rows that are written are the sheet's.
use Prim.Native.Nat.{◌+◌, ◌*◌, ◌≤◌}
use native.Mathlib.Omega.{arith}
use lib.ListN.{length}
use Rattle.sheet_rows.proofs.Lent.{row_inside}
use Rattle.sheet_rows.proofs.Starting.{blocks-of, rows-turned}
use Rattle.sheet_rows.proofs.put_block_row.Goals as goal

pub put_block-requires : goal.put_block-requires
put_block-requires c =
    let inside : c.args.r * (c.args.h.size * c.args.rho) + c.args.h.size * c.args.rho ≤ length c.args.list.now = omega (arith, c.requires.2, row_inside c.args.bytes.now c.args.h c.args.rho c.requires.0 c.args.r c.requires.1) in
    let s = c in (
      blocks-of s.args.bytes.now s.args.h s.args.rho s.requires.0 s.args.r s.requires.1 _ _ _
          c.read_starts.ensures
          c.read_shifts.ensures,
      inside,
    )

pub returns : goal.returns
returns c =
    let s = c in
    rows-turned s.args.bytes.now s.args.h s.args.rho s.requires.0 s.args.r s.requires.1 _ _ _
    c.read_starts.ensures
    c.read_shifts.ensures _ _ _ c.put_block.ensures
