-- Opening and a step are accepted exactly where what they ask holds (specs/Paper/PlainCalls.antt), both ways.
--   usable-is                      == a record that passes refusals 20 and 21 is usable
--   accepted-step, step-accepted   == a step is accepted exactly where what it asks holds
--   opened-free                    == of the levels lent as those of the opening a step asks the number alone
--   finite-first                   == where every sample is finite, the search for one that is not comes to the end
--   accepted-open, open-accepted   == an opening is accepted exactly where what it asks holds
--   far-asked                      == to ask each of the first n levels is to ask the places below n
--   known-usable, known-matrix     == where a step's first part accepts, the record is usable and the matrix accepted
-- Assumes nothing.
use mathlib.Core.Path.{◌≡◌, refl, sym, ap, ◌∙◌}
use mathlib.Core.Bool.{Bool, true, false, not, ◌&&◌, ◌||◌}
use mathlib.Core.List.{List, [], ◌∷◌}
use Prim.Native.Nat.{ℕ, zero, suc, ◌≤◌, ◌<◌}
use native.Mathlib.Omega.{arith}
use borrow.Author.Tests.{ltb-false, leb-false, eqb-true, not-false, le-ltb, lt-leb, eq-eqb}
use lib.Dec.{T, eqb, leb, ltb}
use lib.IntN.{ℤ, pos, nat_abs}
use lib.Ieee.{Float, nan}
use lib.Ieee.Scale.{finite}
use lib.ListN.{length, get_or, take}
use Rattle.std.specs.List.{list_any}
use Rattle.counting.specs.Paper.Search.{any_below}
use Rattle.counting.proofs.Searches.{never, and_left, and_right, or_left, or_right, any_none, any-clear, first-none}
use Rattle.answers.specs.Paper.Answers.{Verdict, accepted, refuse_when, and_then}
use Rattle.answers.proofs.Verdicts.{passed, passed_on, fit-lengths}
use Rattle.packed_word.specs.Paper.Packed.{bytes_for, spare_set}
use Rattle.matrix.specs.Paper.Code.{Matrix}
use Rattle.matrix.specs.Paper.Check.{check_of}
use Rattle.matrix.specs.Paper.PlainCheck.{Accepted}
use Rattle.matrix.proofs.PlainCheck.{accepted-is, is-accepted}
use Rattle.syndrome.proofs.Received.{word_fits, fits_word}
use Rattle.quantiser_levels.specs.Paper.Samples.{Setting, largest, not_finite, first_not_finite, ranges_fit}
use Rattle.quantiser_settings.proofs.Ranges.{fits-reads, reads-fits, all-finite, ranges-read, read-ranges}
use Rattle.iterative_core.specs.Paper.Iterative.{samples_verdict, iterative_verdict}
use Rattle.iterative_core.proofs.Loans.{verdict-lent}
use Rattle.session_record.specs.Paper.Record.{Record, working, decoded, failed}
use Rattle.session_asking.specs.Paper.Asked.{Held, unusable, ended, other_sizes, not_opened, beyond, open_verdict, step_verdict}
use Rattle.session_asking.specs.Paper.PlainCalls.{Openable, Usable, Steppable, OpenedFree}
use Rattle.session_asking.specs.Parts.{far, known_verdict}

-- ---- a step

-- refusals 20 and 21
pub usable-is : (r : Record) → unusable r ≡ false → ended r ≡ false → Usable r
unfolding unusable ended
usable-is r u e =
    let some : (eqb r.state working || (eqb r.state decoded || eqb r.state failed)) ≡ true = not-false _ (or_left _ _ u) in
    let w : eqb r.state working ≡ true = only (eqb r.state working) _ some e in
    let rest : (not (ranges_fit r.bits r.limit) || leb r.limit r.k) ≡ false =
    asked (eqb r.state working) _ w (or_right (not (eqb r.state working || (eqb r.state decoded || eqb r.state failed))) _ u) in
    let within : ranges_fit r.bits r.limit ≡ true = not-false _ (or_left (not (ranges_fit r.bits r.limit)) (leb r.limit r.k) rest) in
    let fit = ranges-read r.bits r.limit within in
    record {
      works = eqb-true r.state working w;
      least = fit.0;
      most = fit.1;
      limit = fit.2;
      left = leb-false r.limit r.k (or_right (not (ranges_fit r.bits r.limit)) (leb r.limit r.k) rest);
    }
  where
    only : (a b : Bool) → (a || b) ≡ true → b ≡ false → a ≡ true
    only true b p q = refl
    only false b p q = absurd (never (sym p ∙ q))

    asked : (a b : Bool) → a ≡ true → (a && b) ≡ false → b ≡ false
    asked true b p q = q
    asked false b p q = absurd (never (sym p))

is-usable : (r : Record) → Usable r → (unusable r ≡ false) × (ended r ≡ false)
unfolding unusable ended
is-usable r u = (
  rw (u.works, read-ranges r.bits r.limit u.least u.most u.limit, lt-leb r.limit r.k u.left),
  rw u.works,
)

module _ (H : Matrix) (w : List ℕ) (o : List ℤ) (h : Held) where
  -- a step is accepted exactly where what it asks holds
  pub accepted-step : step_verdict H w o h ≡ accepted → Steppable H w o h
  unfolding step_verdict other_sizes not_opened beyond
  accepted-step e =
      let p20 = passed _ 20 0 _ e in
      let p21 = passed _ 21 0 _ p20.1 in
      let p5 = passed_on _ _ p21.1 in
      let p22 = passed _ 22 0 _ p5.1 in
      let p7 = passed _ 7 0 _ p22.1 in
      let p9 = passed_on _ _ p7.1 in
      let fit = word_fits H.n w (length h.word) (length h.levels) p9.0 in
      let p23 = passed _ 23 0 _ p9.1 in
      let sizes = not-false _ p22.0 in
      let sizes₁ = and_right (eqb H.n h.rec.n) _ sizes in
      let sizes₂ = and_right (eqb H.m h.rec.m) _ sizes₁ in
      record {
        usable = usable-is h.rec p20.0 p21.0;
        matrix = accepted-is H p5.0;
        same_n = eqb-true H.n h.rec.n (and_left _ _ sizes);
        same_m = eqb-true H.m h.rec.m (and_left _ _ sizes₁);
        same_rho = eqb-true H.rho h.rec.rho (and_left _ _ sizes₂);
        same_gamma = eqb-true H.gamma h.rec.gamma (and_right (eqb H.rho h.rec.rho) _ sizes₂);
        opened = eqb-true (length o) H.n (not-false _ p7.0);
        received = fit.0;
        bytes = fit.1;
        room = fit.2;
        clear = fit.3;
        word_clear = or_left _ _ p23.0;
        within = λ j l. ltb-false (largest h.rec.bits) (nat_abs (get_or h.levels j (pos 0)))
            (any-clear (far (largest h.rec.bits) h.levels) H.n (or_right (spare_set H.n h.word) _ p23.0) j l);
      }

  pub step-accepted : Steppable H w o h → step_verdict H w o h ≡ accepted
  unfolding step_verdict other_sizes not_opened beyond
  step-accepted s =
      let u : (unusable h.rec ≡ false) × (ended h.rec ≡ false) =
      is-usable h.rec s.usable in
      rw (
        u.0,
        u.1,
        is-accepted H s.matrix,
        eq-eqb H.n h.rec.n s.same_n,
        eq-eqb H.m h.rec.m s.same_m,
        eq-eqb H.rho h.rec.rho s.same_rho,
        eq-eqb H.gamma h.rec.gamma s.same_gamma,
        eq-eqb (length o) H.n s.opened,
        fits_word H.n w (length h.word) (length h.levels) s.received s.bytes s.room s.clear,
        s.word_clear,
        any_none (far (largest h.rec.bits) h.levels) H.n
            (λ j l. le-ltb (largest h.rec.bits) (nat_abs (get_or h.levels j (pos 0))) (s.within j l)),
      )

-- of the levels lent as those of the opening a step asks the number alone
pub opened-free : (H : Matrix) (w : List ℕ) (h : Held) → OpenedFree H w h
unfolding step_verdict not_opened
opened-free H w h o o' e = rw e

-- ---- an opening

-- where every sample is finite, the search for one that is not comes to the end
pub finite-first : (xs : List Float) → ((j : ℕ) → j < length xs → T (finite (get_or xs j nan))) → first_not_finite xs ≡ length xs
unfolding not_finite
finite-first xs h = first-none (not_finite xs) (length xs) (λ j l. passes (finite (get_or xs j nan)) (h j l))
  where
    passes : (b : Bool) → T b → not b ≡ false
    passes true t = refl
    passes false t = absurd t

module _ (H : Matrix) (S : Setting) (xs : List Float) (h : Held) where
  -- an opening is accepted exactly where what it asks holds
  pub accepted-open : open_verdict H S xs h ≡ accepted → Openable H S xs h
  unfolding open_verdict
  accepted-open e =
      let l = verdict-lent H S xs h.word h.levels e in
      record {
        matrix = l.matrix;
        setting = fits-reads S l.setting;
        samples = l.samples;
        bytes = l.room_word;
        room = l.room_levels;
        finite_all = all-finite xs l.each_finite;
      }

  pub open-accepted : Openable H S xs h → open_verdict H S xs h ≡ accepted
  unfolding open_verdict iterative_verdict samples_verdict
  open-accepted o =
      rw (
        is-accepted H o.matrix,
        reads-fits S o.setting,
        fit-lengths (length xs) H.n (length h.word) (bytes_for H.n) (length h.levels) H.n o.samples o.bytes o.room,
        finite-first xs o.finite_all,
        le-ltb (length xs) (length xs) (omega arith),
      )

-- ---- a search for a level beyond ±L

or-none : (b : Bool) → b ≡ (b || false)
or-none true = refl
or-none false = refl

or-assoc : (a b c : Bool) → ((a || b) || c) ≡ (a || (b || c))
or-assoc true b c = refl
or-assoc false b c = refl

-- the first place, then the others
any-first : (t : ℕ → Bool) (k : ℕ) → any_below t (suc k) ≡ (t 0 || any_below (λ j. t (suc j)) k)
unfolding any_below
any-first t zero = or-none (t 0)
any-first t (suc k) = ap (λ (b : Bool). b || t (suc k)) (any-first t k) ∙ or-assoc (t 0) (any_below (λ j. t (suc j)) k) (t (suc k))

-- each of the first n levels, and the places below n
pub far-asked : (L n : ℕ) (R : List ℤ) → n ≤ length R → list_any (λ r. ltb L (nat_abs r)) (take n R) ≡ any_below (far L R) n
unfolding any_below
far-asked L zero R h = refl
far-asked L (suc n) [] h = absurd (omega arith)
far-asked L (suc n) (r ∷ R) h =
    ap (λ (b : Bool). ltb L (nat_abs r) || b) (far-asked L n R (omega arith)) ∙ sym (any-first (far L (r ∷ R)) n)

-- ---- the first part of what a step asks: its record and its matrix

abbrev record_part : Record → Verdict
record_part r = and_then (refuse_when 20 (unusable r) accepted) (refuse_when 21 (ended r) accepted)

abbrev matrix_part : Matrix → Record → Verdict
matrix_part H r = and_then (check_of H) (refuse_when 22 (other_sizes H r) accepted)

module _ (H : Matrix) (r : Record) (e : known_verdict H r ≡ accepted) where
  parts : (record_part r ≡ accepted) × (matrix_part H r ≡ accepted)
  unfolding known_verdict
  parts = passed_on (record_part r) (matrix_part H r) e

  -- where a step's first part accepts, the record is usable and the matrix accepted
  pub known-usable : Usable r
  known-usable =
      let p = passed_on (refuse_when 20 (unusable r) accepted) (refuse_when 21 (ended r) accepted) parts.0 in
      usable-is r (passed (unusable r) 20 0 accepted p.0).0 (passed (ended r) 21 0 accepted p.1).0

  pub known-matrix : Accepted H
  known-matrix = accepted-is H (passed_on (check_of H) (refuse_when 22 (other_sizes H r) accepted) parts.1).0
