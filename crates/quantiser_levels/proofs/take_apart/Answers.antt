-- `quantiser_levels::take_apart` meets its contract: the fields of the pattern are those of the float (`proofs/Floats.antt`). Assumes nothing.
use mathlib.Core.Path.{◌≡◌, sym, subst}
use native.Mathlib.Omega.{arith}
use lib.Dec.{T}
use lib.Ieee.{Float, binary32, fits, of_bits, to_bits}
use lib.Ieee.Bits.{to_bits-lt, of_bits-to_bits}
use lib.Ieee.Scale.{finite}
use Rattle.quantiser_levels.proofs.Floats.{moved, finite-no-nan, low-apart, high-apart}
use Rattle.quantiser_levels.proofs.take_apart.Goals as goal

pub float_to_bits-bits : goal.float_to_bits-bits
float_to_bits-bits c = finite-no-nan c.args.x c.requires

pub overflow_cast-bits : goal.overflow_cast-bits
overflow_cast-bits c =
    let held : T (fits binary32 c.args.x) = subst T (sym c.well_formed.0.1) tt in
    omega (arith, to_bits-lt binary32 c.args.x (held))

pub returns-then-field-eq0 : goal.returns-then-field-eq0
returns-then-field-eq0 c =
    let held : T (fits binary32 c.args.x) = subst T (sym c.well_formed.0.1) tt in
    let back : of_bits binary32 (to_bits binary32 c.args.x) ≡ c.args.x = of_bits-to_bits binary32 c.args.x (held) in
    moved (back) (low-apart (to_bits binary32 c.args.x) c.if-field-eq0.true)

pub returns : goal.returns
returns c =
    let held : T (fits binary32 c.args.x) = subst T (sym c.well_formed.0.1) tt in
    let back : of_bits binary32 (to_bits binary32 c.args.x) ≡ c.args.x = of_bits-to_bits binary32 c.args.x (held) in
    let z = c in
    moved (back)
    (high-apart (to_bits binary32 z.args.x) (subst (λ (x : Float). T (finite x)) (sym (back)) z.requires) c.if-field-eq0.false)
