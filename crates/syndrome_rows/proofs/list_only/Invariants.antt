-- `syndrome_rows::list_only`. The loop's invariant: the checks in the words looked at are listed.
use Prim.Native.Nat.{◌*◌}
use Rattle.syndrome.specs.Places.{Places}
use Rattle.syndrome_words.specs.Sets.{only_in}
use Rattle.syndrome_rows.proofs.list_only.Given as goal

abbrev pub invariant-loop-w : goal.invariant-loop-w
invariant-loop-w l = Places (only_in l.a l.b) (64 * l.w) l.rows l.t
