-- The marks of a decoder's start count what is changed at its end.
--   mark-zero, mark-other      == a mark is 2 where the level is 0, the bit where it is not
--   turned_bit                 == whether a mark is the other bit is a bit
--   marks-changed              == as many marks are the other bit as places are changed that count
--   unpacked-bits              == an unpacked word is made of bits
--   packed-changed             == the same of two packed words
--   turned-places              == the turned places are bits
--   packed-long, ones-turned   == packed, they have the bytes of a word, and as many ones as marks are the other bit
-- Assumes nothing.
use mathlib.Core.Path.{◌≡◌, refl, sym, ap, ap₂, ◌∙◌}
use mathlib.Core.Bool.{Bool, true, false, cond}
use mathlib.Core.List.{List}
use Prim.Native.Nat.{ℕ, ◌+◌, ◌-◌, ◌*◌, ◌/◌, ◌%◌, ◌^◌, ◌<◌}
use native.Mathlib.Nat.{zero-div}
use native.Mathlib.Decide.{ℕ_discrete, dec_lt}
use native.Mathlib.Omega.{arith}
use lib.IntN.{ℤ, pos}
use lib.ListN.{length, get_or, take, replicate, length-take, get_or-eq_default}
use lib.Seq.{get_or-take}
use Rattle.counting.specs.Paper.Sum.{same, unequal}
use Rattle.counting.specs.Paper.Lists.{listed, over}
use Rattle.counting.specs.Places.{at}
use Rattle.counting.proofs.Sums.{sum-cong, same_refl, same-ne, same-le, differ-eq, differ-ne}
use Rattle.counting.proofs.Writes.{take-over, zeros, over-at}
use Rattle.packed_word.specs.Paper.Packed.{bit_at, bytes_for, pack, distance}
use Rattle.packed_word.specs.Steps.{Unpacked}
use Rattle.packed_word.proofs.Packed.{bit-bit, length-pack, bit_at-pack, spare-pack}
use Rattle.packed_word.proofs.Distances.{distance-spare}
use Rattle.iterative_changed.specs.Paper.Changed.{decided, decided_in, changed, level_at}
use Rattle.iterative_changed.specs.Marks.{mark_of, marked_by, turned_at, turned_below}
use Rattle.iterative_changed.proofs.Changes.{zero-undecided, other-decided, changed-cong}

-- ---- one mark

-- a mark is 2 where the level is 0
pub mark-zero : (r : ℤ) (z : ℕ) → r ≡ pos 0 → mark_of r z ≡ 2
unfolding mark_of
mark-zero r z e = ap (λ (t : Bool). cond t z 2) (ap decided e ∙ zero-undecided)

-- and the bit where it is not
pub mark-other : (r : ℤ) (z : ℕ) → (r ≡ pos 0 → ⊥) → mark_of r z ≡ z
unfolding mark_of
mark-other r z ne = ap (λ (t : Bool). cond t z 2) (other-decided r ne)

-- ---- all of them

-- whether a mark is the other bit is a bit
pub turned_bit : (m z : ℕ → ℕ) (j : ℕ) → turned_at m z j < 2
turned_bit m z j = omega (arith, same-le (m j) (1 - z j))

-- a bit is the other one where it differs
other-bit : (z r : ℕ) → z < 2 → r < 2 → same r (1 - z) ≡ unequal z r
other-bit z r hz hr =
    elim (ℕ_discrete z r) [
      | yes e ↦ same-ne r (1 - z) (λ q. omega arith) ∙ omega (arith, differ-eq z r e)
      | no ne ↦ ap (same r) (let q : 1 - z ≡ r = omega arith in q) ∙ same_refl r ∙ omega (arith, differ-ne z r ne)
    ]

-- one mark
one-mark : (t : Bool) (z r : ℕ) → z < 2 → r < 2 → same (cond t r 2) (1 - z) ≡ cond t (unequal z r) 0
one-mark true z r hz hr = other-bit z r hz hr
one-mark false z r hz hr = same-ne 2 (1 - z) (λ q. omega arith)

module _ (n : ℕ) (o : List ℤ) (r z : ℕ → ℕ) (old marks : List ℕ) (e : marks ≡ over (listed n (marked_by o r)) old) where
  -- as many marks are the other bit as places are changed that count
  pub marks-changed : ((j : ℕ) → j < n → r j < 2) → ((j : ℕ) → j < n → z j < 2)
      → turned_below n (at marks) z ≡ changed n (decided_in (level_at o)) z r
  unfolding turned_below changed mark_of
  marks-changed hr hz =
      sum-cong n (λ j l.
      ap (λ (x : ℕ). same x (1 - z j)) (over-at n (marked_by o r) old marks e 0 j l) ∙ one-mark (decided (level_at o j)) (z j) (r j) (hz j l) (hr j l))

-- ---- packed words

-- an unpacked word is made of bits
pub unpacked-bits : (n : ℕ) (w old new : List ℕ) → Unpacked n w old new → (j : ℕ) → j < n → at new j < 2
unpacked-bits n w old new u j l = omega (arith, u.each j l, bit-bit w j)

-- the marks of a packed word count what is changed in another
pub packed-changed : (n : ℕ) (o : List ℤ) (received word old_hard hard old_bits bits old marks : List ℕ)
    → Unpacked n received old_hard hard → Unpacked n word old_bits bits → marks ≡ over (listed n (marked_by o (at hard))) old
    → turned_below n (at marks) (at bits) ≡ changed n (decided_in (level_at o)) (bit_at word) (bit_at received)
packed-changed n o received word old_hard hard old_bits bits old marks u v e =
    marks-changed n o (at hard) (at bits) old marks e (unpacked-bits n received old_hard hard u) (unpacked-bits n word old_bits bits v)
    ∙ changed-cong n (λ j l. refl) v.each u.each

-- ---- the turned places, packed

-- zeros have no ones
no_ones : (k b j : ℕ) → bit_at (take b (replicate {A = ℕ} k 0)) j ≡ 0
unfolding bit_at
no_ones k b j = ap (λ (x : ℕ). x / 2 ^ (7 - j % 8) % 2) (zero-byte (j / 8)) ∙ ap (λ (x : ℕ). x % 2) (zero-div (2 ^ (7 - j % 8)))
  where
    zero-byte : (q : ℕ) → get_or {A = ℕ} (take b (replicate k 0)) q 0 ≡ 0
    zero-byte q =
        elim (dec_lt q b) [
          | yes l ↦ get_or-take b (replicate k 0) q 0 l ∙ zeros k q
          | no g ↦ get_or-eq_default (take b (replicate k 0)) 0 (omega (arith, length-take b (replicate {A = ℕ} k 0)))
        ]

-- a bit differs from 0 where it is 1
bit-apart : (x : ℕ) → x < 2 → unequal x 0 ≡ x
bit-apart x h = elim (ℕ_discrete x 0) [ yes e ↦ omega (arith, differ-eq x 0 e) | no ne ↦ omega (arith, differ-ne x 0 ne) ]

module _ (n : ℕ) (m z : ℕ → ℕ) (old places : List ℕ) (e : places ≡ over (listed n (turned_at m z)) old) where
  each : (j : ℕ) → j < n → at places j ≡ turned_at m z j
  each j l = over-at n (turned_at m z) old places e 0 j l

  -- the turned places are bits
  pub turned-places : (j : ℕ) → j < n → at places j < 2
  turned-places j l = omega (arith, each j l, turned_bit m z j)

  module _ (room packed : List ℕ) (q : packed ≡ over (pack n (at places)) room) where
    front : take (bytes_for n) packed ≡ pack n (at places)
    front =
        ap (take (bytes_for n)) q ∙ ap (λ (b : ℕ). take b (over (pack n (at places)) room)) (sym (length-pack n (at places)))
        ∙ take-over (pack n (at places)) room

    -- packed, they have the bytes of a word
    pub packed-long : length (take (bytes_for n) packed) ≡ bytes_for n
    packed-long = ap length front ∙ length-pack n (at places)

    -- and as many ones as marks are the other bit
    pub ones-turned : (k : ℕ) → distance (8 * bytes_for n) (bit_at (take (bytes_for n) packed)) (bit_at (take (bytes_for n) (replicate k 0))) ≡ turned_below n m z
    unfolding distance turned_below
    ones-turned k =
        let none : ℕ → ℕ = bit_at (take (bytes_for n) (replicate k 0)) in
        let w : List ℕ = pack n (at places) in
        let long : n + (8 * bytes_for n - n) ≡ 8 * bytes_for n = omega arith in
        ap (λ (x : List ℕ). distance (8 * bytes_for n) (bit_at x) none) front
        ∙ ap (λ (x : ℕ). distance x (bit_at w) none) (sym long)
        ∙ distance-spare n (8 * bytes_for n - n) (bit_at w) none (λ j l h. spare-pack n (at places) turned-places j l ∙ sym (no_ones k (bytes_for n) j))
        ∙ sum-cong n (λ j l.
        ap₂ unequal (bit_at-pack n (at places) turned-places j l ∙ each j l) (no_ones k (bytes_for n) j) ∙ bit-apart (turned_at m z j) (turned_bit m z j))
