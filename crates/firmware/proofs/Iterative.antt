-- The face is iterative voting on the bytes read as numbers.
--   half-ltb            == bytes are too few for two each where their half is too few for one each
--   asks-same, says_same == of whole numbers it asks and says what iterative voting asks and says
--   face-is-iterative   == and writes what it writes
--   only-whole          == a call that is not refused lends whole numbers
-- Assumes nothing.
use mathlib.Core.Path.{◌≡◌, refl, sym, ap, ap₂, ◌∙◌}
use mathlib.Core.Bool.{Bool, true, false, not, ◌||◌}
use mathlib.Core.List.{List}
use Prim.Native.Nat.{ℕ, ◌*◌, ◌/◌}
use native.Mathlib.Omega.{arith}
use borrow.Author.Tests.{eq-eqb, ne_eqb, eqb-true, eqb-false, lt-ltb, le-ltb, ltb-true, ltb-false, not-false}
use lib.Dec.{eqb, ltb}
use lib.ListN.{length}
use Rattle.counting.proofs.Searches.{cases, or_left, or_right}
use Rattle.answers.specs.Paper.Answers.{Verdict, accepted, refused, refuse_when, and_then, wrong_lengths, Said, after, written}
use Rattle.answers.proofs.Verdicts.{passed, passed_on, lengths-fit}
use Rattle.packed_word.specs.Paper.Packed.{bytes_for}
use Rattle.byte_numbers.specs.Paper.Numbers.{entries_in, samples_in}
use Rattle.byte_numbers.proofs.Lists.{length-entries}
use Rattle.byte_numbers.proofs.Floats.{length-samples}
use Rattle.matrix.specs.Paper.Code.{Matrix}
use Rattle.matrix.specs.Paper.Check.{sizes_fit, list_of, check_of}
use Rattle.quantiser_levels.specs.Paper.Samples.{Setting, setting_fits}
use Rattle.iterative_core.specs.Paper.Iterative.{start_of, end_from, report_at, samples_verdict, iterative_verdict, iterative_of, iterative_word, iterative_levels}
use Rattle.firmware_codes.specs.Paper.Codes.{result_of, report_bytes, level_bytes}
use Rattle.firmware_asking.specs.Paper.Asked.{face_matrix, face_check, wrong_bytes, bytes_verdict, face_verdict}
use Rattle.firmware_decoding.specs.Paper.Said.{face_report, face_of}
use Rattle.firmware.specs.Paper.Face.{FacedAs}
use Rattle.firmware.specs.Paper.Claims.{WholeBytes, FaceIterative, OnlyWhole}

-- two tests that say the same
same_test : (a b c d : ℕ) → (a ≡ b → c ≡ d) → (c ≡ d → a ≡ b) → eqb a b ≡ eqb c d
same_test a b c d f g =
    cases (eqb c d) (λ y. eq-eqb a b (g (eqb-true c d y)) ∙ sym y) (λ n. ne_eqb a b (λ e. eqb-false c d n (f e)) ∙ sym n)

-- lengths in bytes are right where the lengths in numbers are
twice-eqb : (a b k : ℕ) → a ≡ 2 * b → eqb a (2 * k) ≡ eqb b k
twice-eqb a b k e = same_test a (2 * k) b k (λ q. omega arith) (λ q. omega arith)

four-eqb : (a b k : ℕ) → a ≡ 4 * b → eqb a (4 * k) ≡ eqb b k
four-eqb a b k e = same_test a (4 * k) b k (λ q. omega arith) (λ q. omega arith)

-- and bytes are too few for two each where their half is too few for one each
pub half-ltb : (a k : ℕ) → ltb a (2 * k) ≡ ltb (a / 2) k
half-ltb a k =
    cases (ltb (a / 2) k) (λ y. lt-ltb a (2 * k) (omega (arith, ltb-true (a / 2) k y)) ∙ sym y)
    (λ n. le-ltb a (2 * k) (omega (arith, ltb-false (a / 2) k n)) ∙ sym n)

or-none : (b : Bool) → (b || false) ≡ b
or-none true = refl
or-none false = refl

module _ (H : Matrix) (bs xs : List ℕ) (S : Setting) (word levels report : ℕ) (entries : H.list ≡ entries_in bs) (whole : WholeBytes bs xs report) where
  -- refusals 1 to 5
  check-same : face_check H bs ≡ check_of H
  unfolding face_check check_of
  check-same =
      ap (λ (b : Bool). refuse_when 1 (not (sizes_fit H)) (refuse_when 2 (not b) (list_of H)))
      (twice-eqb (length bs) (length H.list) (H.m * H.rho) (whole.list ∙ ap (λ (l : List ℕ). 2 * length l) (sym entries)))

  -- the lengths of refusal 7
  lengths-same : wrong_bytes H.n (length xs) word levels report ≡ wrong_lengths (length (samples_in xs)) H.n word (bytes_for H.n) (levels / 2) H.n
  lengths-same =
      rw (le-ltb report 8 whole.room, four-eqb (length xs) (length (samples_in xs)) H.n whole.samples, half-ltb levels H.n) (or-none _)

  -- refusals 6 to 8
  bytes_same : bytes_verdict H.n S xs word levels report ≡ samples_verdict H.n S (samples_in xs) word (levels / 2)
  unfolding bytes_verdict samples_verdict
  bytes_same = rw lengths-same

-- of whole numbers it asks what iterative voting asks
pub asks-same : (n m rho gamma : ℕ) (bs : List ℕ) (S : Setting) (xs : List ℕ) (word levels report : ℕ) → WholeBytes bs xs report
    → face_verdict (face_matrix n m rho gamma bs) bs S xs word levels report ≡ iterative_verdict (face_matrix n m rho gamma bs) S (samples_in xs) word (levels / 2)
unfolding face_verdict iterative_verdict
asks-same n m rho gamma bs S xs word levels report whole =
    let H : Matrix = face_matrix n m rho gamma bs in
    ap₂ and_then (check-same H bs xs S word levels report refl whole) (bytes_same H bs xs S word levels report refl whole)

-- and says what it says
pub says_same : (n m rho gamma : ℕ) (bs : List ℕ) (S : Setting) (xs : List ℕ) (word levels report : ℕ) → WholeBytes bs xs report
    → face_of (face_matrix n m rho gamma bs) bs S xs word levels report ≡ iterative_of (face_matrix n m rho gamma bs) S (samples_in xs) word (levels / 2)
unfolding face_of face_report iterative_of
says_same n m rho gamma bs S xs word levels report whole =
    let H : Matrix = face_matrix n m rho gamma bs in
    ap (λ (v : Verdict). after v (report_at H (start_of S (samples_in xs)) (end_from H S (samples_in xs)))) (asks-same n m rho gamma bs S xs word levels report whole)

-- the bytes of the answer, which a refusal does not write
report-same : (v : Verdict) (s : Said) (p : List ℕ) → written v (report_bytes s) p ≡ written v (report_bytes (after v s)) p
report-same accepted s p = refl
report-same (refused k x) s p = refl

-- of whole numbers it asks, says and writes what iterative voting does
pub face-is-iterative : (n m rho gamma : ℕ) (bs : List ℕ) (S : Setting) (xs : List ℕ) (r : ℕ) (w w' ls ls' p p' : List ℕ)
    → FacedAs (face_matrix n m rho gamma bs) bs S xs r w w' ls ls' p p' → FaceIterative (face_matrix n m rho gamma bs) bs S xs r w w' ls ls' p p'
unfolding face_of
face-is-iterative n m rho gamma bs S xs r w w' ls ls' p p' f whole =
    let H : Matrix = face_matrix n m rho gamma bs in
    let asks = asks-same n m rho gamma bs S xs (length w) (length ls) (length p) whole in
    let says = says_same n m rho gamma bs S xs (length w) (length ls) (length p) whole in
    record {
      result = f.result ∙ ap result_of says;
      word = f.word ∙ ap (λ (v : Verdict). written v (iterative_word H S (samples_in xs)) w) asks;
      levels = f.levels ∙ ap (λ (v : Verdict). written v (level_bytes (iterative_levels H S (samples_in xs))) ls) asks;
      report = f.report ∙ report-same (face_verdict H bs S xs (length w) (length ls) (length p)) (face_report H S xs) p
          ∙ ap₂ (λ (v : Verdict) (s : Said). written v (report_bytes s) p) asks says;
    }

-- a call that is not refused lends whole numbers
pub only-whole : OnlyWhole
unfolding face_verdict face_check bytes_verdict
only-whole n m rho gamma bs S xs word levels report e =
    let H : Matrix = face_matrix n m rho gamma bs in
    let v = passed_on (face_check H bs) (bytes_verdict n S xs word levels report) e in
    let c = passed (not (sizes_fit H)) 1 0 _ v.0 in
    let d = passed (not (eqb (length bs) (2 * (m * rho)))) 2 0 _ c.1 in
    let f = passed (not (setting_fits S)) 6 0 _ v.1 in
    let g = passed (wrong_bytes n (length xs) word levels report) 7 0 _ f.1 in
    let t = wrong_lengths (length xs) (4 * n) word (bytes_for n) levels (2 * n) in
    let l = lengths-fit (length xs) (4 * n) word (bytes_for n) levels (2 * n) (or_left t (ltb report 8) g.0) in
    record {
      list = whole-list (length bs) (length (entries_in bs)) (m * rho) (eqb-true (length bs) (2 * (m * rho)) (not-false _ d.0)) (length-entries bs);
      samples = whole-samples (length xs) (length (samples_in xs)) n l.0 (length-samples xs);
      room = ltb-false report 8 (or_right t (ltb report 8) g.0);
    }
  where
    whole-list : (a b k : ℕ) → a ≡ 2 * k → b ≡ a / 2 → a ≡ 2 * b
    whole-list a b k e h = omega arith

    whole-samples : (a b k : ℕ) → a ≡ 4 * k → b ≡ a / 4 → a ≡ 4 * b
    whole-samples a b k e h = omega arith
