-- Laws of the 16-bit numbers that stand in bytes.
--   length-entries   == how many there are
--   entries-front    == the numbers at the front of the array that they were read into
-- Assumes nothing.
use mathlib.Core.Path.{◌≡◌, sym, ap, ◌∙◌}
use mathlib.Core.List.{List}
use Prim.Native.Nat.{ℕ, ◌/◌}
use lib.ListN.{length, take}
use Rattle.counting.specs.Paper.Lists.{over}
use Rattle.counting.proofs.Writes.{length-listed, take-over}
use Rattle.byte_numbers.specs.Paper.Numbers.{entry_in, entries_in}

-- two bytes a number
pub length-entries : (bs : List ℕ) → length (entries_in bs) ≡ length bs / 2
unfolding entries_in
length-entries bs = length-listed (length bs / 2) (entry_in bs)

-- the numbers at the front of the array that they were read into
pub entries-front : (k : ℕ) (bs old : List ℕ) {new : List ℕ} → new ≡ over (entries_in bs) old → k ≡ length bs / 2 → take k new ≡ entries_in bs
entries-front k bs old e h =
    ap (take k) e ∙ ap (λ (x : ℕ). take x (over (entries_in bs) old)) (h ∙ sym (length-entries bs)) ∙ take-over (entries_in bs) old
