-- `majority_bytes::put_word`: the bytes of the word stand behind those before them.
use mathlib.Core.Path.{◌∙◌}
use Prim.Native.Nat.{◌+◌, ◌-◌}
use native.Mathlib.Omega.{arith}
use Rattle.majority_bytes.proofs.Bytes.{put-long, put-before, put-bytes}
use Rattle.majority_bytes.proofs.put_word.Goals as goal

pub returns : goal.returns
returns c =
    let a = c.args in
    let k = a.from + 8 - a.from in
    let ys = c.copy_from_slice.new.self in
    let e = c.copy_from_slice.ensures.after ∙ c.to_le_bytes.ensures in (
      put-long a.x a.from (k) a.bytes.now ys (omega arith) c.requires.0 c.requires.1 (e),
      put-before a.x a.from (k) a.bytes.now ys (omega arith) c.requires.0 c.requires.1 (e),
      put-bytes a.x a.from (k) a.bytes.now ys (omega arith) c.requires.0 c.requires.1 (e),
    )
