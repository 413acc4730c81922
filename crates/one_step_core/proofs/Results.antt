-- The report and the word of an accepted call.
--   packed-word    == the bits after the vote, packed, are the word of the definition
--   stepped-bits   == the bits after the vote are bits
--   hand-back-lent == what the call is lent, as what is handed back is
--   voted-call     == what is handed back is the call's
--   written-long   == the written bytes are as many as the received ones
--   handed-back    == what is packed, counted and reported is what is handed back
-- Assumes nothing.
use mathlib.Core.Path.{◌≡◌, refl, sym, ap, ap₂, ◌∙◌}
use mathlib.Core.List.{List}
use Prim.Native.Nat.{ℕ, ◌+◌, ◌*◌, ◌-◌, ◌<◌}
use native.Mathlib.Omega.{arith}
use lib.ListN.{length, take}
use Rattle.counting.specs.Paper.Lists.{over}
use Rattle.counting.specs.Places.{at}
use Rattle.counting.proofs.Writes.{take-over}
use Rattle.answers.specs.Paper.Answers.{Said, report, outcome_by}
use Rattle.packed_word.specs.Paper.Packed.{bit_at, bytes_for, pack, distance}
use Rattle.packed_word.specs.Steps.{Unpacked}
use Rattle.packed_word.proofs.Packed.{bit-bit, length-pack, bit_at-pack, spare-pack, pack-cong, spare-clear}
use Rattle.packed_word.proofs.Distances.{distance-cong, distance-spare}
use Rattle.matrix.specs.Paper.Code.{Matrix, Word, failing}
use Rattle.matrix.proofs.Rows.{failing-cong}
use Rattle.majority_logic.specs.Paper.OneStep.{step_word, step_rounds, one_step_report, one_step_word}
use Rattle.majority_logic.proofs.Agreement.{step_word-cong, step_rounds-cong}
use Rattle.majority_logic.proofs.Correction.{step_word-bit}
use Rattle.one_step_core.specs.Stepped.{Stepped, VoteLent, HandBackLent, HandedBack, Voted}

module _ (H : Matrix) (w old : List ℕ) (l : VoteLent H w old) where
  received-word : Word H (bit_at w)
  unfolding Word
  received-word j h = bit-bit w j

  -- as many places differ in all bytes as in the code's bits
  changed-is : distance (8 * bytes_for H.n) (bit_at (one_step_word H w)) (bit_at w) ≡ distance H.n (step_word H (bit_at w)) (bit_at w)
  unfolding one_step_word Word
  changed-is =
      let z : ℕ → ℕ = step_word H (bit_at w) in
      let b : (j : ℕ) → j < H.n → z j < 2 = step_word-bit H (bit_at w) received-word in
      let e : 8 * bytes_for H.n ≡ H.n + (8 * bytes_for H.n - H.n) = omega arith in
      ap (λ (k : ℕ). distance k (bit_at (pack H.n z)) (bit_at w)) e
      ∙ distance-spare H.n (8 * bytes_for H.n - H.n) (bit_at (pack H.n z)) (bit_at w)
      (λ j g h. spare-pack H.n z b j g ∙ sym (spare-clear H.n w l.spare j g (omega arith)))
      ∙ distance-cong H.n (bit_at-pack H.n z b) (λ j h. refl)

  -- the report and the word by what the steps of the call leave
  module _ (zeros bits new : List ℕ) (rounds f : ℕ) (u : Unpacked H.n w zeros bits) (s : Stepped H bits new rounds f) where
    stepped-word : (j : ℕ) → j < H.n → at new j ≡ step_word H (bit_at w) j
    stepped-word j h = s.each j h ∙ step_word-cong H l.matrix.rows (at bits) (bit_at w) u.each j h

    -- the bits after the vote, packed, are the word of the definition
    pub packed-word : pack H.n (at new) ≡ one_step_word H w
    unfolding one_step_word
    packed-word = pack-cong H.n (at new) (step_word H (bit_at w)) stepped-word

    -- the bits after the vote are bits
    pub stepped-bits : (j : ℕ) → j < H.n → at new j < 2
    unfolding Word
    stepped-bits j h = omega (arith, stepped-word j h, step_word-bit H (bit_at w) received-word j h)

    failing-is : f ≡ failing H (step_word H (bit_at w))
    failing-is =
        s.failing_are
        ∙ failing-cong H l.matrix.rows (step_word H (at bits)) (step_word H (bit_at w))
        (step_word-cong H l.matrix.rows (at bits) (bit_at w) u.each)

    rounds-is : rounds ≡ step_rounds H (bit_at w)
    rounds-is = s.rounds_are ∙ step_rounds-cong H l.matrix.rows (at bits) (bit_at w) u.each

    -- what the call is lent, as what is handed back is
    pub hand-back-lent : HandBackLent H.n w new old
    hand-back-lent = record { few = l.matrix.sizes.n_most; long = l.long; bits = stepped-bits; room = l.room }

    -- what is handed back is the call's
    pub voted-call : (out : List ℕ) (said : Said) → HandedBack H.n w (at new) rounds f old out said → Voted H w old out said
    unfolding one_step_report
    voted-call out said h =
        let c : distance (8 * bytes_for H.n) (bit_at (pack H.n (at new))) (bit_at w) ≡ distance H.n (step_word H (bit_at w)) (bit_at w) =
        ap (λ (x : List ℕ). distance (8 * bytes_for H.n) (bit_at x) (bit_at w)) packed-word ∙ changed-is in
        record { says = h.says ∙ rw (failing-is, rounds-is, c) refl; word = h.word ∙ ap (λ (x : List ℕ). over x old) packed-word }

-- ---- what is packed, and counted of it

module _ (n : ℕ) (z : ℕ → ℕ) (old out : List ℕ) (o : out ≡ over (pack n z) old) where
  -- the front of the buffer is the packed bits
  front : take (bytes_for n) out ≡ pack n z
  front = ap₂ (λ (x : ℕ) (y : List ℕ). take x y) (sym (length-pack n z)) o ∙ take-over (pack n z) old

  -- the written bytes are as many as the received ones
  pub written-long : length (take (bytes_for n) out) ≡ bytes_for n
  written-long = ap length front ∙ length-pack n z

  -- so the report is that of the packed bits
  pub handed-back : (w : List ℕ) (rounds f changed : ℕ) (said : Said)
      → changed ≡ distance (8 * length (take (bytes_for n) out)) (bit_at (take (bytes_for n) out)) (bit_at w) → said ≡ report (outcome_by f) rounds f changed
      → HandedBack n w z rounds f old out said
  handed-back w rounds f changed said d e =
      let c : changed ≡ distance (8 * bytes_for n) (bit_at (pack n z)) (bit_at w) =
      d ∙ ap (λ (x : List ℕ). distance (8 * length x) (bit_at x) (bit_at w)) front
      ∙ ap (λ (x : ℕ). distance (8 * x) (bit_at (pack n z)) (bit_at w)) (length-pack n z) in
      record { says = e ∙ rw c refl; word = o }
