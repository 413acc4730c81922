-- `quantiser_table::narrowed` meets its contract. Assumes nothing.
use Prim.Native.Nat.{◌*◌, ◌^◌}
use native.Mathlib.Omega.{arith}
use Rattle.quantiser_table.proofs.Rising.{between-upper}
use Rattle.quantiser_table.proofs.narrowed.Goals as goal

pub returns : goal.returns
returns c =
    let z = c in
    let s = z.args.scale in (
      between-upper s.gain s.top (s.sig * 2 ^ s.shift) z.args.c (omega arith) (omega (arith, c.magnitude_at.ensures)) z.requires.1,
      omega arith,
      λ h l. omega arith,
    )
