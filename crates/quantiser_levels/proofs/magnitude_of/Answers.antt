-- `quantiser_levels::magnitude_of` meets its contract: only the difference of the two shifts counts, and of that at most 27 places
-- (`proofs/Nearest.antt`). Assumes nothing.
use mathlib.Core.Path.{sym, ap₂, ◌∙◌}
use Prim.Native.Nat.{ℕ, min, ◌*◌, ◌^◌, ◌≤◌}
use native.Mathlib.Omega.{arith}
use Rattle.quantiser_levels.specs.Paper.Samples.{nearest_whole}
use Rattle.quantiser_levels.proofs.Nearest.{product, shifted, sample-shl, sample-lt, step-shl, step-lt, step-pos}
use Rattle.quantiser_levels.proofs.magnitude_of.Goals as goal

pub overflow_mul-n : goal.overflow_mul-n
overflow_mul-n c = omega (arith, product c.requires.0 c.requires.1)

pub capped-requires : goal.capped-requires
capped-requires c =
    let p = c.requires in
    let up = c.places in
    let down = c.places-2 in
    let u : up.result ≤ 27 = omega (arith, up.ensures) in
    let d : down.result ≤ 27 = omega (arith, down.ensures) in
    omega (
      arith,
      sample-shl p.0 p.1 up.result u,
      sample-lt p.0 p.1 up.result u,
      step-shl p.0 p.1 down.result d,
      step-lt p.0 p.1 down.result d,
      step-pos p.0 p.1 down.result d,
    )

pub returns : goal.returns
returns c =
    let z = c in
    let p = z.requires in
    let s = z.args.s in
    let y = z.args.y in
    let up = c.places in
    let down = c.places-2 in
    let u : up.result ≤ 27 = omega (arith, up.ensures) in
    let d : down.result ≤ 27 = omega (arith, down.ensures) in
    c.capped.ensures
    ∙ ap₂ (λ (a b : ℕ). min s.top (nearest_whole a b)) (sample-shl p.0 p.1 up.result u) (step-shl p.0 p.1 down.result d)
    ∙ ap₂ (λ (a b : ℕ). min s.top (nearest_whole (s.gain * y.sig * 2 ^ a) (s.sig * 2 ^ b))) up.ensures down.ensures
    ∙ sym (shifted p.0 p.1 s.shift)
