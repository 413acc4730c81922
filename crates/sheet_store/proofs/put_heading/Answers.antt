-- `sheet_store::put_heading` meets its contract: three numbers one after the other. Assumes nothing.
use mathlib.Core.Path.{◌∙◌}
use Rattle.sheet_store.proofs.put_heading.Goals as goal

pub returns : goal.returns
returns c =
    let w3 = c.put16-3 in
    let w2 = c.put16-2 in
    let w1 = c.put16 in
    w3.ensures ∙ rw (w2.ensures, w1.ensures)
