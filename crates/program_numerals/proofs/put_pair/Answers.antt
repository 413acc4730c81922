-- `program_numerals::put_pair` meets its contract: one digit after the other. Assumes nothing.
use mathlib.Core.Path.{ap₂}
use mathlib.Core.List.{[], ◌∷◌}
use Prim.Native.Nat.{ℕ}
use Rattle.program_numerals.specs.Paper.Numerals.{hex}
use Rattle.program_numerals.proofs.Puts.{put_as, put_then}
use Rattle.program_numerals.proofs.put_pair.Goals as goal

pub returns : goal.returns
unfolding hex
returns c =
    let second = c in
    let first = second in
    put_as (ap₂ (λ (a b : ℕ). a ∷ b ∷ []) first.digit.ensures second.digit-2.ensures)
    (put_then first.put_byte-end.ensures second.put_byte.ensures)
