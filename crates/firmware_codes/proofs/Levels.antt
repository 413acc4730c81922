-- Laws of the levels while their bytes are written.
--   levels-none   == no level is written yet
--   levels-next   == one level more is
--   levels-all    == and all are the levels' bytes at the front of the buffer
--   bytes-long    == there are two bytes a level
-- Assumes nothing.
use mathlib.Core.Path.{◌≡◌, refl, sym, ap, ◌∙◌}
use mathlib.Core.List.{List}
use Prim.Native.Nat.{ℕ, ◌+◌, ◌*◌, ◌≤◌}
use native.Mathlib.Nat.{zero-add, mul_comm}
use native.Mathlib.Omega.{arith}
use lib.IntN.{ℤ, pos}
use lib.ListN.{length, get_or}
use lib.Seq.{sets}
use Rattle.counting.specs.Paper.Lists.{over}
use Rattle.counting.specs.Paper.Joined.{joined}
use Rattle.counting.proofs.Joined.{length-rows}
use Rattle.byte_numbers.specs.Paper.Numbers.{bytes16}
use Rattle.byte_numbers.proofs.Joining.{sets-none, sets-next, sets_over}
use Rattle.firmware_codes.specs.Paper.Codes.{level_number, level_bytes}

-- the two bytes of the level at place j
abbrev pub bytes_at : List ℤ → ℕ → List ℕ
bytes_at ls j = bytes16 (level_number (get_or ls j (pos 0)))

-- two bytes a level
pub bytes-long : (ls : List ℤ) → length (level_bytes ls) ≡ 2 * length ls
unfolding level_bytes
bytes-long ls = length-rows (length ls) 2 (bytes_at ls) (λ i l. refl) ∙ mul_comm (length ls) 2

module _ (ls : List ℤ) (old : List ℕ) where
  -- no level is written yet
  pub levels-none : old ≡ sets old 0 (joined 0 (bytes_at ls))
  levels-none = sets-none (bytes_at ls) old 0

  -- one level more is
  pub levels-next : (j x : ℕ) (new next : List ℕ) → x ≡ level_number (get_or ls j (pos 0)) → new ≡ sets old 0 (joined j (bytes_at ls))
      → next ≡ sets new (2 * j) (bytes16 x) → next ≡ sets old 0 (joined (j + 1) (bytes_at ls))
  levels-next j x new next e now then =
      sets-next (bytes_at ls) old 0 2 (λ i. refl) j (2 * j) (sym (zero-add (2 * j))) new next now
      (then ∙ ap (λ (y : ℕ). sets new (2 * j) (bytes16 y)) e)

  -- and all are the levels' bytes at the front of the buffer
  pub levels-all : (new : List ℕ) → 2 * length ls ≤ length old → new ≡ sets old 0 (joined (length ls) (bytes_at ls)) → new ≡ over (level_bytes ls) old
  unfolding level_bytes
  levels-all new h e = e ∙ sets_over (level_bytes ls) old (omega (arith, bytes-long ls))
