-- Demand 3, the flipping rule, stated on bytes. (Document 01, "One-step voting".)
--   IsWord n w            == w is the bytes of a word of n bits, spare places zero
--   Sent H c              == c is the bytes of a codeword
--   WithinHalf H c w      == w is the codeword c changed within the half
--   flips H c w           == how many bits were flipped
--   Restored H c w ..     == decoded with the codeword sent, the counts and the bytes of it
--   FlippingRule          == what one-step voting answers and writes for such a word
--   DistinctReceived H    == two different codewords so changed never give one received word
--   FarApart H            == two different codewords differ in more than gamma places
-- proofs/FlippingRule.antt proves the last three for every matrix that the check accepts. Assumes nothing.
use Rattle.std.specs.Prelude.{◌≡◌, false, cond, List, ℕ, ◌/◌, ◌≤◌, ◌<◌, eqb, length}
use Rattle.counting.specs.Paper.Lists.{over}
use Rattle.answers.specs.Paper.Answers.{accepted, Said, report}
use Rattle.packed_word.specs.Paper.Packed.{bit_at, bytes_for, spare_set, Bytes, distance}
use Rattle.matrix.specs.Paper.Code.{Matrix, failing}
use Rattle.matrix.specs.Paper.Check.{check_of}

-- "(n + 7) / 8 bytes .. The spare low places of the last byte are zero"
pub record IsWord (n : ℕ) (w : List ℕ) : Type 0 where
  pub bytes : Bytes w
  pub long : length w ≡ bytes_for n
  pub spare : spare_set n w ≡ false

-- "Any of its codewords may be the one sent"
pub record Sent (H : Matrix) (c : List ℕ) : Type 0 where
  pub word : IsWord H.n c
  pub clean : failing H (bit_at c) ≡ 0

-- the number of flipped bits
abbrev pub flips : Matrix → List ℕ → List ℕ → ℕ
flips H c w = distance H.n (bit_at w) (bit_at c)

-- "changed within the half": at most gamma / 2 of bits 0 to n - 1 are flipped, the spare places stay zero
pub record WithinHalf (H : Matrix) (c w : List ℕ) : Type 0 where
  pub sent : Sent H c
  pub word : IsWord H.n w
  pub few : flips H c w ≤ H.gamma / 2

-- "decoded, failing 0, changed the number of flipped bits, rounds 0 when none was flipped, else 1. The word written is the codeword sent"
pub record Restored (H : Matrix) (c w old new : List ℕ) (s : Said) : Type 0 where
  pub says : s ≡ report 0 (cond (eqb (flips H c w) 0) 0 1) 0 (flips H c w)
  pub word : new ≡ over c old

-- s is said of the received word w, and the buffer old becomes new: every codeword changed to w within the half is restored
abbrev pub FlippingRule : Matrix → List ℕ → List ℕ → List ℕ → Said → Type 0
FlippingRule H w old new s =
    (c : List ℕ) → check_of H ≡ accepted → WithinHalf H c w → bytes_for H.n ≤ length old → Restored H c w old new s

-- "two different codewords .. each changed within the half, never give the same received word"
abbrev pub DistinctReceived : Matrix → Type 0
DistinctReceived H =
    (c c' w w' : List ℕ) → check_of H ≡ accepted → WithinHalf H c w → WithinHalf H c' w' → (c ≡ c' → ⊥) → w ≡ w' → ⊥

-- two different codewords differ in at least γ + 1 places
abbrev pub FarApart : Matrix → Type 0
FarApart H =
    (c c' : List ℕ) → check_of H ≡ accepted → Sent H c → Sent H c' → (c ≡ c' → ⊥) → H.gamma < distance H.n (bit_at c) (bit_at c')
