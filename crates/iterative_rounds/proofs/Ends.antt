-- Laws of the list of iterative voting: where it ends, which state it ends with, and that it reads the places below n alone.
--   ends                == the end after k rounds with a state
--   end-stops           == where no check fails the list ends
--   end_goes            == where one fails and rounds are left, a round is done
--   end-limit           == where no round is left the list ends
--   end_is              == the end of the list is as `EndsAt` says
--   rounds-within       == the rounds are at most the limit
--   end-state           == the state at the end is that after k rounds
--   earlier-fails       == every earlier state has a failing check, so the list ends no later than it may
--   fails-at-limit      == a check fails at the end only with k at the limit, so the list ends no earlier
--   end-unique          == no other end is
--   end-at              == the list ends after k rounds where a check fails before each and either none fails then or k is the limit
--   round-bound         == a round leaves levels from -L to L
--   levels-bound        == a level from -L to L stays there in every round
--   round-alike         == states that agree below n agree after a round
--   states-alike        == they agree after k rounds
--   failing-alike       == they have as many failing checks
--   ends-alike          == two starts that agree below n end alike
--   failing-alike-end   == with as many failing checks
-- Assumes nothing.
use mathlib.Core.Path.{◌≡◌, refl, sym, ap, ap₂, ◌∙◌}
use Prim.Native.Nat.{ℕ, zero, suc, ◌+◌, ◌≤◌, ◌<◌}
use native.Mathlib.Nat.{add-suc, suc-add, zero-add}
use native.Mathlib.Decide.{dec_lt, ℕ_discrete}
use native.Mathlib.Omega.{arith}
use borrow.Author.Tests.{eq-eqb, ne_eqb}
use lib.IntN.{ℤ, nat_abs, ◌+ℤ◌}
use Rattle.counting.specs.Paper.Integers.{cut, above_zero}
use Rattle.counting.proofs.Integers.{cut-bound}
use Rattle.matrix.specs.Paper.Code.{Matrix, failing}
use Rattle.matrix.specs.Paper.PlainCheck.{Rows}
use Rattle.matrix.proofs.Rows.{failing-cong}
use Rattle.iterative_rounds.specs.Paper.Rounds.{State, level_after, round_of, End, end_of, extrinsic}
use Rattle.iterative_rounds.specs.Paper.Ends.{state_at, EndsAt}
use Rattle.iterative_rounds.specs.Alike.{Alike, AlikeEnds}
use Rattle.iterative_rounds.proofs.Extrinsic.{extrinsic-cong}

-- an end
abbrev pub ends : ℕ → State → End
ends k s = record { k = k; last = s }

module _ (H : Matrix) (L : ℕ) where
  -- ---- steps 2 and 3: the list stops where no check fails, and else goes on by a round

  -- where no check fails the list ends
  pub end-stops : (k left : ℕ) (s : State) → failing H s.z ≡ 0 → end_of H L k left s ≡ ends k s
  unfolding end_of
  end-stops k zero s e = refl
  end-stops k (suc left) s e = rw (eq-eqb (failing H s.z) 0 e)

  -- where one fails and rounds are left, a round is done
  pub end_goes : (k left : ℕ) (s : State) → 0 < failing H s.z → end_of H L k (suc left) s ≡ end_of H L (suc k) left (round_of H L s)
  unfolding end_of
  end_goes k left s h = rw (ne_eqb (failing H s.z) 0 (λ e. omega arith))

  -- where no round is left the list ends
  pub end-limit : (k : ℕ) (s : State) → end_of H L k 0 s ≡ ends k s
  unfolding end_of
  end-limit k s = refl

  -- ---- the end from any state of the list on

  -- from round t on, `left` rounds before the limit, where a check of each state before fails
  from-round : (s : State) (left t : ℕ) → ((i : ℕ) → i < t → 0 < failing H (state_at H L s i).z) → EndsAt H L (t + left) s (end_of H L t left (state_at H L s t))
  unfolding end_of state_at
  from-round s zero t before =
      record { within = omega arith; state_is = refl; earlier = before; failed = λ h. omega arith }
  from-round s (suc left) t before =
      elim (ℕ_discrete (failing H (state_at H L s t).z) 0) [
        | yes e ↦
            rw (end-stops t (suc left) (state_at H L s t) e)
            (record { within = omega arith; state_is = refl; earlier = before; failed = λ h. absurd (omega arith) })
        | no ne ↦
            rw (end_goes t left (state_at H L s t) (omega arith), add-suc t left, ← suc-add t left)
            (from-round s left (suc t) (λ i h. elim (ℕ_discrete i t) [ yes q ↦ rw q (omega arith) | no nq ↦ before i (omega arith) ]))
      ]

  -- ---- what is promised of the end

  -- the end of the list is as `EndsAt` says
  pub end_is : (limit : ℕ) (s : State) → EndsAt H L limit s (end_of H L 0 limit s)
  unfolding state_at
  end_is limit s = rw zero-add at (from-round s limit 0 (λ i h. absurd (omega arith)))

  -- rounds is at most the limit
  pub rounds-within : (limit : ℕ) (s : State) → (end_of H L 0 limit s).k ≤ limit
  rounds-within limit s = (end_is limit s).within

  -- the state at the end is that after k rounds
  pub end-state : (limit : ℕ) (s : State) → (end_of H L 0 limit s).last ≡ state_at H L s (end_of H L 0 limit s).k
  end-state limit s = (end_is limit s).state_is

  -- every earlier state has a failing check, so the list ends no later than it may
  pub earlier-fails : (limit : ℕ) (s : State) (t : ℕ) → t < (end_of H L 0 limit s).k → 0 < failing H (state_at H L s t).z
  earlier-fails limit s = (end_is limit s).earlier

  -- a check fails at the end only with k at the limit, so the list ends no earlier
  pub fails-at-limit : (limit : ℕ) (s : State) → 0 < failing H (end_of H L 0 limit s).last.z → (end_of H L 0 limit s).k ≡ limit
  fails-at-limit limit s = (end_is limit s).failed

  -- nothing else is an end
  no-later : (limit : ℕ) (s : State) (e e' : End) → EndsAt H L limit s e → EndsAt H L limit s e' → e.k < e'.k → ⊥
  no-later limit s e e' a b l =
      let h : 0 < failing H e.last.z = rw a.state_is (b.earlier e.k l) in
      omega (arith, a.failed h, b.within)

  -- no other end is
  pub end-unique : (limit : ℕ) (s : State) (e e' : End) → EndsAt H L limit s e → EndsAt H L limit s e' → e ≡ e'
  end-unique limit s e e' a b =
      let q : e.k ≡ e'.k = elim (ℕ_discrete e.k e'.k) [
        | yes q ↦ q
        | no ne ↦ absurd (apart ne)
      ] in
      ap₂ ends q (a.state_is ∙ ap (state_at H L s) q ∙ sym b.state_is)
    where
      apart : (e.k ≡ e'.k → ⊥) → ⊥
      apart ne = elim (dec_lt e.k e'.k) [ yes l ↦ no-later limit s e e' a b l | no g ↦ no-later limit s e' e b a (omega arith) ]

  -- the list ends after k rounds where a check fails before each and either none fails then or k is the limit
  pub end-at : (limit k : ℕ) (s : State) → k ≤ limit → ((t : ℕ) → t < k → 0 < failing H (state_at H L s t).z)
      → (0 < failing H (state_at H L s k).z → k ≡ limit) → end_of H L 0 limit s ≡ ends k (state_at H L s k)
  end-at limit k s l before stop =
      end-unique limit s (end_of H L 0 limit s) (ends k (state_at H L s k)) (end_is limit s)
      record { within = l; state_is = refl; earlier = before; failed = stop }

  -- ---- levels stay from -L to L

  -- a round leaves levels from -L to L
  pub round-bound : (s : State) (j : ℕ) → nat_abs ((round_of H L s).R j) ≤ L
  unfolding round_of level_after
  round-bound s j = cut-bound L (s.R j +ℤ extrinsic H s.z j)

  -- a level from -L to L stays there in every round
  pub levels-bound : (s : State) (j : ℕ) → nat_abs (s.R j) ≤ L → (k : ℕ) → nat_abs ((state_at H L s k).R j) ≤ L
  unfolding state_at
  levels-bound s j h zero = h
  levels-bound s j h (suc k) = round-bound (state_at H L s k) j

  -- ---- rounds read the places below n alone

  module _ (r : Rows H) where
    level-alike : (s t : State) → Alike H.n s t → (j : ℕ) → j < H.n → level_after H L s j ≡ level_after H L t j
    unfolding level_after
    level-alike s t a j l = ap₂ (λ (x y : ℤ). cut L (x +ℤ y)) (a.levels j l) (extrinsic-cong H r s.z t.z a.word j)

    -- states that agree below n agree after a round
    pub round-alike : (s t : State) → Alike H.n s t → Alike H.n (round_of H L s) (round_of H L t)
    unfolding round_of
    round-alike s t a =
        record { word = λ j l. ap above_zero (level-alike s t a j l); levels = λ j l. level-alike s t a j l }

    -- they agree after k rounds
    pub states-alike : (s t : State) → Alike H.n s t → (k : ℕ) → Alike H.n (state_at H L s k) (state_at H L t k)
    unfolding state_at
    states-alike s t a zero = a
    states-alike s t a (suc k) = round-alike (state_at H L s k) (state_at H L t k) (states-alike s t a k)

    -- they have as many failing checks
    pub failing-alike : (s t : State) → Alike H.n s t → failing H s.z ≡ failing H t.z
    failing-alike s t a = failing-cong H r s.z t.z a.word

    -- so two starts that agree below n end alike
    pub ends-alike : (k left : ℕ) (s t : State) → Alike H.n s t → AlikeEnds H.n (end_of H L k left s) (end_of H L k left t)
    ends-alike k zero s t a = rw (end-limit k s, end-limit k t) (record { rounds = refl; last = a })
    ends-alike k (suc left) s t a =
        elim (ℕ_discrete (failing H s.z) 0) [
          | yes e ↦
              rw (end-stops k (suc left) s e, end-stops k (suc left) t (sym (failing-alike s t a) ∙ e)) (record { rounds = refl; last = a })
          | no ne ↦
              rw (end_goes k left s (omega arith), end_goes k left t (omega (arith, failing-alike s t a)))
              (ends-alike (suc k) left (round_of H L s) (round_of H L t) (round-alike s t a))
        ]

    -- with as many failing checks
    pub failing-alike-end : (k left : ℕ) (s t : State) → Alike H.n s t → failing H (end_of H L k left s).last.z ≡ failing H (end_of H L k left t).last.z
    failing-alike-end k left s t a = failing-alike (end_of H L k left s).last (end_of H L k left t).last (ends-alike k left s t a).last
