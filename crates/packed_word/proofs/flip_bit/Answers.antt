-- `packed_word::flip_bit` meets its contract: the byte with the shifted 1 xor-ed in has one digit turned over, and no other changed. Assumes nothing.
use mathlib.Core.Path.{◌≡◌}
use Prim.Native.Nat.{ℕ, ◌*◌, ◌-◌, ◌%◌, ◌^◌}
use native.Mathlib.Omega.{arith}
use Rattle.packed_word.proofs.Masks.{shl_one}
use Rattle.packed_word.proofs.Stores.{bit-flipped}
use Rattle.packed_word.proofs.flip_bit.Goals as goal

pub returns : goal.returns
returns c =
    let j : ℕ = c.args.j in
    let e : 1 * 2 ^ (7 - j % 8) % 256 ≡ 2 ^ (7 - j % 8) = shl_one (7 - j % 8) (omega arith) in
    rw e (bit-flipped c.args.w.now j c.requires)
