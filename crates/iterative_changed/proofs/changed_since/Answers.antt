-- `iterative_changed::changed_since` meets its contract: both words are unpacked, the received one is marked. Assumes nothing.
use mathlib.Core.Path.{◌∙◌}
use lib.ListN.{replicate}
use Rattle.iterative_changed.proofs.Marks.{unpacked-bits, packed-changed}
use Rattle.iterative_changed.proofs.changed_since.Goals as goal

pub turned-requires : goal.turned-requires
turned-requires c =
    let u = c in
    (c.requires.0, unpacked-bits _ _ _ _ u.unpack-2.ensures)

pub returns : goal.returns
returns c =
    let m = c in
    let v = m in
    let u = v in
    let s = u in
    c.turned.ensures
    ∙ packed-changed s.args.n s.args.opened.now _ _ _ _ _ _ (replicate 1023 0) _ u.unpack.ensures v.unpack-2.ensures m.mark.ensures
