-- What opening and a step ask, part by part.
--   spare-front                      == the spare places of a word lie in its own bytes
--   says-known, says-lent            == a step's first part refuses; else its second part speaks
--   says-opened                      == the second part: the opening's levels are not as many as the code's bits
--   says-word, says-beyond           == else the received word is refused; else refusal 23 speaks
--   says-open-matrix, says-samples   == of opening, the matrix is refused; else setting and samples speak
-- Assumes nothing.
use mathlib.Core.Path.{◌≡◌, refl, sym, ap, ◌∙◌}
use mathlib.Core.Bool.{Bool, true, false}
use mathlib.Core.List.{List}
use Prim.Native.Nat.{ℕ, ◌+◌, ◌*◌, ◌-◌, ◌/◌, ◌%◌, ◌^◌, ◌<◌}
use native.Mathlib.Omega.{arith}
use borrow.Author.Tests.{eq-eqb, ne_eqb}
use lib.Dec.{eqb}
use lib.IntN.{ℤ}
use lib.Ieee.{Float}
use lib.ListN.{length, take}
use lib.Seq.{get_or-take}
use Rattle.counting.proofs.Searches.{any-cong}
use Rattle.answers.specs.Paper.Answers.{Verdict, accepted, refused, refuse_when, and_then}
use Rattle.packed_word.specs.Paper.Packed.{bit_at, bytes_for, spare_set}
use Rattle.matrix.specs.Paper.Code.{Matrix}
use Rattle.matrix.specs.Paper.Check.{check_of}
use Rattle.syndrome.specs.Paper.Failing.{word_verdict}
use Rattle.quantiser_levels.specs.Paper.Samples.{Setting}
use Rattle.iterative_core.specs.Paper.Iterative.{samples_verdict, iterative_verdict}
use Rattle.session_asking.specs.Paper.Asked.{Held, unusable, ended, other_sizes, not_opened, beyond, step_verdict}
use Rattle.session_asking.specs.Parts.{known_verdict, lent_verdict}

-- ---- the spare places of a word, by its bytes alone

bit-front : (w : List ℕ) (k j : ℕ) → j / 8 < k → bit_at (take k w) j ≡ bit_at w j
unfolding bit_at
bit-front w k j l = ap (λ (x : ℕ). x / 2 ^ (7 - j % 8) % 2) (get_or-take k w (j / 8) 0 l)

-- the spare places of a word lie in its own bytes
pub spare-front : (n : ℕ) (w : List ℕ) → spare_set n (take (bytes_for n) w) ≡ spare_set n w
unfolding spare_set
spare-front n w =
    any-cong (λ i. eqb (bit_at (take (bytes_for n) w) (n + i)) 1) (λ i. eqb (bit_at w (n + i)) 1) (8 * bytes_for n - n)
    (λ i l. ap (λ (x : ℕ). eqb x 1) (bit-front w (bytes_for n) (n + i) (omega arith)))

-- ---- what a step asks

-- the chain of refusals, in the two parts in which it is asked
chain : (a b : Bool) (v : Verdict) (c : Bool) (x : Verdict) → refuse_when 20 a (refuse_when 21 b (and_then v (refuse_when 22 c x)))
    ≡ and_then (and_then (and_then (refuse_when 20 a accepted) (refuse_when 21 b accepted)) (and_then v (refuse_when 22 c accepted))) x
chain true b v c x = refl
chain false true v c x = refl
chain false false (refused k y) c x = refl
chain false false accepted true x = refl
chain false false accepted false x = refl

module _ (H : Matrix) (w : List ℕ) (o : List ℤ) (h : Held) where
  asked_is : step_verdict H w o h ≡ and_then (known_verdict H h.rec) (lent_verdict H w o h)
  unfolding step_verdict known_verdict lent_verdict
  asked_is = chain (unusable h.rec) (ended h.rec) (check_of H) (other_sizes H h.rec) _

  -- a refusal of the first part, and what the second part says where the first accepts
  pub says-known : (k x : ℕ) → known_verdict H h.rec ≡ refused k x → refused k x ≡ step_verdict H w o h
  says-known k x e = sym (asked_is ∙ rw e)

  pub says-lent : (v : Verdict) → known_verdict H h.rec ≡ accepted → v ≡ lent_verdict H w o h → v ≡ step_verdict H w o h
  says-lent v e q = q ∙ sym (asked_is ∙ rw e)

  -- the second part: refusal 7 where the opening's levels are not as many as the code's bits
  pub says-opened : (length o ≡ H.n → ⊥) → refused 7 0 ≡ lent_verdict H w o h
  unfolding lent_verdict not_opened
  says-opened ne = rw (ne_eqb (length o) H.n ne)

  -- where they are, a refusal of the received word, and refusal 23 where that is accepted
  module _ (l : length o ≡ H.n) where
    pub says-word : (k x : ℕ) → word_verdict H.n w (length h.word) (length h.levels) ≡ refused k x → refused k x ≡ lent_verdict H w o h
    unfolding lent_verdict not_opened
    says-word k x e = rw (eq-eqb (length o) H.n l, e)

    pub says-beyond : (v : Verdict) → word_verdict H.n w (length h.word) (length h.levels) ≡ accepted
        → v ≡ refuse_when 23 (beyond H h.rec h) accepted → v ≡ lent_verdict H w o h
    unfolding lent_verdict not_opened
    says-beyond v e q = rw (eq-eqb (length o) H.n l, e) q

-- ---- what opening asks

module _ (H : Matrix) (S : Setting) (xs : List Float) (bytes room : ℕ) where
  -- of opening, the matrix is refused; else setting and samples speak
  pub says-open-matrix : (k x : ℕ) → check_of H ≡ refused k x → refused k x ≡ iterative_verdict H S xs bytes room
  unfolding iterative_verdict
  says-open-matrix k x e = rw e

  pub says-samples : (v : Verdict) → check_of H ≡ accepted → v ≡ samples_verdict H.n S xs bytes room → v ≡ iterative_verdict H S xs bytes room
  unfolding iterative_verdict
  says-samples v e q = rw e q
