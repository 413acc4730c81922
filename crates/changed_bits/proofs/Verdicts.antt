-- What the count of changed bits says of two runs of bytes.
--   unlike-refused    == of unlike lengths: refusal 7
--   longer-refused    == longer than the longest word: refusal 7
--   counted-said      == else: the number of places at which they differ
--   accepted-reads    == what is accepted has one length, of no more bytes than the longest word has
--   reads-accepted    == and all that has is accepted
-- Assumes nothing.
use mathlib.Core.Path.{◌≡◌, refl, ap}
use mathlib.Core.Bool.{Bool, true, false, not, ◌||◌}
use mathlib.Core.List.{List}
use Prim.Native.Nat.{ℕ, ◌*◌, ◌<◌}
use borrow.Author.Tests.{eqb-true, ltb-false, not-false, eq-eqb, ne_eqb, lt-ltb, le-ltb}
use lib.Dec.{eqb, ltb}
use lib.ListN.{length}
use Rattle.counting.proofs.Searches.{or_left, or_right}
use Rattle.answers.specs.Paper.Answers.{accepted, refusal, report}
use Rattle.answers.proofs.Verdicts.{passed}
use Rattle.packed_word.specs.Paper.Packed.{bit_at, distance}
use Rattle.changed_bits.specs.Paper.Call.{most_bytes, wrong_runs, changed_verdict, changed_of, Comparable}

-- a test that passes beside another
or-true : (t : Bool) → (t || true) ≡ true
or-true true = refl
or-true false = refl

module _ (a b : List ℕ) where
  -- of unlike lengths
  pub unlike-refused : (length a ≡ length b → ⊥) → refusal 7 0 ≡ changed_of a b
  unfolding changed_of changed_verdict wrong_runs
  unlike-refused h = rw (ne_eqb (length a) (length b) h)

  -- longer than the longest word
  pub longer-refused : most_bytes < length a → refusal 7 0 ≡ changed_of a b
  unfolding changed_of changed_verdict wrong_runs
  longer-refused h = rw (lt-ltb most_bytes (length a) h, or-true (not (eqb (length a) (length b))))

  -- all that has one length, of no more bytes than the longest word has, is accepted
  pub reads-accepted : Comparable a b → changed_verdict a b ≡ accepted
  unfolding changed_verdict wrong_runs
  reads-accepted c = rw (eq-eqb (length a) (length b) c.equal, le-ltb most_bytes (length a) c.most)

  -- and nothing else
  pub accepted-reads : changed_verdict a b ≡ accepted → Comparable a b
  unfolding changed_verdict wrong_runs
  accepted-reads e =
      let p = (passed (wrong_runs a b) 7 0 accepted e).0 in
      record {
        equal = eqb-true (length a) (length b) (not-false (eqb (length a) (length b)) (or_left (not (eqb (length a) (length b))) (ltb most_bytes (length a)) p));
        most = ltb-false most_bytes (length a) (or_right (not (eqb (length a) (length b))) (ltb most_bytes (length a)) p);
      }

  -- the number of places
  pub counted-said : Comparable a b → (r : ℕ) → r ≡ distance (8 * length a) (bit_at a) (bit_at b) → report 0 0 0 r ≡ changed_of a b
  unfolding changed_of
  counted-said c r e = rw (reads-accepted c) (ap (λ (x : ℕ). report 0 0 0 x) e)
