-- What the face asks, by its parts.
--   list-sizes, list_length, list-passes      == refusal 1, refusal 2, or neither, before the list is read
--   lent-setting, lent-buffers, lent-report, lent-passes   == refusal 6, refusal 7 in two parts, or neither, before the samples are read
--   bytes-asks    == what is asked of setting, samples and buffers: 6 and 7, then 8
--   face-asks     == what the face asks: 1 and 2, then the matrix check, then the rest
--   entries-whole == twice as many bytes as entries
--   list-alone    == refusals 1 and 2 need no list
--   few_bytes     == a list of sizes in range has at most 65,472 bytes
--   lent_fits     == what 6 and 7 leave
-- Assumes nothing.
use mathlib.Core.Path.{◌≡◌, refl, ap, ◌∙◌}
use mathlib.Core.Bool.{Bool, true, false, not, ◌||◌}
use mathlib.Core.List.{List, []}
use Prim.Native.Nat.{ℕ, ◌*◌, ◌≤◌, ◌<◌}
use native.Mathlib.Omega.{arith}
use borrow.Author.Tests.{eq-eqb, ne_eqb, eqb-true, lt-ltb, le-ltb, ltb-false, not-false}
use lib.Dec.{eqb, ltb}
use lib.ListN.{length}
use Rattle.counting.proofs.Searches.{cases, or_left, or_right}
use Rattle.answers.specs.Paper.Answers.{Verdict, accepted, refused, refuse_if, refuse_at, and_then, wrong_lengths}
use Rattle.answers.proofs.Verdicts.{passed, lengths-fit}
use Rattle.packed_word.specs.Paper.Packed.{bytes_for}
use Rattle.byte_numbers.specs.Paper.Numbers.{entries_in, samples_in}
use Rattle.byte_numbers.proofs.Lists.{length-entries}
use Rattle.matrix.specs.Paper.Code.{Matrix}
use Rattle.matrix.specs.Paper.Check.{sizes_fit, check_of}
use Rattle.matrix.specs.Paper.PlainCheck.{Accepted}
use Rattle.matrix.specs.Paper.Shapes.{matrix_of}
use Rattle.matrix.specs.declared.Shape.{Shape}
use Rattle.matrix.proofs.PlainCheck.{sizes-say}
use Rattle.matrix.proofs.Rows.{few-entries}
use Rattle.quantiser_levels.specs.Paper.Samples.{Setting, setting_fits, first_not_finite}
use Rattle.firmware_asking.specs.Paper.Asked.{face_check, wrong_bytes, bytes_verdict, face_verdict}
use Rattle.firmware_asking.specs.Asking.{list_verdict, lent_verdict, FaceLent}

-- ---- before the list is read

module _ (H : Matrix) (bytes : ℕ) where
  -- refusal 1
  pub list-sizes : sizes_fit H ≡ false → refused 1 0 ≡ list_verdict H bytes
  unfolding list_verdict
  list-sizes e = rw e

  -- refusal 2
  pub list_length : sizes_fit H ≡ true → (bytes ≡ 2 * (H.m * H.rho) → ⊥) → refused 2 0 ≡ list_verdict H bytes
  unfolding list_verdict
  list_length e ne = rw (e, ne_eqb bytes (2 * (H.m * H.rho)) ne)

  -- neither
  pub list-passes : sizes_fit H ≡ true → bytes ≡ 2 * (H.m * H.rho) → accepted ≡ list_verdict H bytes
  unfolding list_verdict
  list-passes e q = rw (e, eq-eqb bytes (2 * (H.m * H.rho)) q)

  -- a list of sizes in range has at most 65,472 bytes
  pub few_bytes : list_verdict H bytes ≡ accepted → bytes ≤ 65472
  unfolding list_verdict
  few_bytes e =
      let a = passed (not (sizes_fit H)) 1 0 _ e in
      let b = passed (not (eqb bytes (2 * (H.m * H.rho)))) 2 0 accepted a.1 in
      omega
      (arith, eqb-true bytes (2 * (H.m * H.rho)) (not-false _ b.0), few-entries H (sizes-say H (not-false _ a.0)))

-- refusals 1 and 2 need no list
pub list-alone : (shape : Shape) (list : List ℕ) (bytes : ℕ) → list_verdict (matrix_of shape list) bytes ≡ list_verdict (matrix_of shape []) bytes
unfolding list_verdict sizes_fit
list-alone shape list bytes = refl

-- ---- before the samples are read

module _ (n : ℕ) (S : Setting) (bytes word levels report : ℕ) where
  -- refusal 6
  pub lent-setting : setting_fits S ≡ false → refused 6 0 ≡ lent_verdict n S bytes word levels report
  unfolding lent_verdict
  lent-setting e = rw e

  module _ (fits : setting_fits S ≡ true) where
    -- refusal 7: the samples' bytes, the word or the levels
    pub lent-buffers : wrong_lengths bytes (4 * n) word (bytes_for n) levels (2 * n) ≡ true → refused 7 0 ≡ lent_verdict n S bytes word levels report
    unfolding lent_verdict
    lent-buffers e = rw (fits, e)

    module _ (lengths : wrong_lengths bytes (4 * n) word (bytes_for n) levels (2 * n) ≡ false) where
      -- refusal 7: the report
      pub lent-report : report < 8 → refused 7 0 ≡ lent_verdict n S bytes word levels report
      unfolding lent_verdict
      lent-report l = rw (fits, lengths, lt-ltb report 8 l)

      -- neither
      pub lent-passes : 8 ≤ report → accepted ≡ lent_verdict n S bytes word levels report
      unfolding lent_verdict
      lent-passes l = rw (fits, lengths, le-ltb report 8 l)

-- what 6 and 7 leave
pub lent_fits : (H : Matrix) (S : Setting) (bs : List ℕ) (word levels report : ℕ) → Accepted H
    → lent_verdict H.n S (length bs) word levels report ≡ accepted → FaceLent H S bs word levels report
unfolding lent_verdict
lent_fits H S bs word levels report a e =
    let x = passed (not (setting_fits S)) 6 0 _ e in
    let t = wrong_lengths (length bs) (4 * H.n) word (bytes_for H.n) levels (2 * H.n) in
    let y = passed (t || ltb report 8) 7 0 accepted x.1 in
    let l = lengths-fit (length bs) (4 * H.n) word (bytes_for H.n) levels (2 * H.n) (or_left t (ltb report 8) y.0) in
    record {
      matrix = a;
      setting = not-false (setting_fits S) x.0;
      bytes = l.0;
      room_word = l.1;
      room_levels = l.2;
      room_report = ltb-false report 8 (or_right t (ltb report 8) y.0);
    }

-- ---- the whole chain

-- a chain of three is one of two and the third
chain : (s t : Bool) (j k : ℕ) (v : Verdict) → refuse_if s j 0 (refuse_if t k 0 v) ≡ and_then (refuse_if s j 0 (refuse_if t k 0 accepted)) v
chain true t j k v = refl
chain false true j k v = refl
chain false false j k v = refl

-- what is asked of setting, samples and buffers: 6 and 7, then 8
pub bytes-asks : (n : ℕ) (S : Setting) (bs : List ℕ) (word levels report : ℕ)
    → bytes_verdict n S bs word levels report ≡ and_then (lent_verdict n S (length bs) word levels report)
    (refuse_at 8 (first_not_finite (samples_in bs)) (length (samples_in bs)) accepted)
unfolding bytes_verdict lent_verdict
bytes-asks n S bs word levels report =
    chain (not (setting_fits S)) (wrong_bytes n (length bs) word levels report) 6 7
    (refuse_at 8 (first_not_finite (samples_in bs)) (length (samples_in bs)) accepted)

-- the list's bytes are those of its entries where refusal 2 is passed
pub entries-whole : (bs : List ℕ) (k : ℕ) → length bs ≡ 2 * k → length (entries_in bs) ≡ k
entries-whole bs k e = omega (arith, length-entries bs)

-- refusals 1 and 2 by the bytes, then the check on the list that they are
check-asks : (H : Matrix) (bs : List ℕ) → H.list ≡ entries_in bs → face_check H bs ≡ and_then (list_verdict H (length bs)) (check_of H)
unfolding face_check list_verdict check_of
check-asks H bs e =
    cases (sizes_fit H)
    (λ y.
    cases (eqb (length bs) (2 * (H.m * H.rho)))
    (λ q. rw (y, q, eq-eqb (length H.list) (H.m * H.rho) (ap length e ∙ entries-whole bs (H.m * H.rho) (eqb-true _ _ q))))
    (λ q. rw (y, q)))
    (λ n. rw n)

-- a chain may be split anywhere
then-then : (u v w : Verdict) → and_then (and_then u v) w ≡ and_then u (and_then v w)
then-then accepted v w = refl
then-then (refused k x) v w = refl

-- what the face asks: 1 and 2, then the matrix check, then the rest
pub face-asks : (H : Matrix) (bs : List ℕ) (S : Setting) (xs : List ℕ) (word levels report : ℕ) → H.list ≡ entries_in bs
    → face_verdict H bs S xs word levels report ≡ and_then (list_verdict H (length bs)) (and_then (check_of H) (bytes_verdict H.n S xs word levels report))
unfolding face_verdict
face-asks H bs S xs word levels report e =
    ap (λ (v : Verdict). and_then v (bytes_verdict H.n S xs word levels report)) (check-asks H bs e)
    ∙ then-then (list_verdict H (length bs)) (check_of H) (bytes_verdict H.n S xs word levels report)
