-- Laws of samples that are lent as bytes.
--   place-of        == the place of the first sample that is not finite, by the bytes
--   samples-n       == 4 * n bytes are n samples
--   sample-refuses  == refusal 8 at the place that was found
--   samples-pass    == where no place was found nothing is refused
--   all-finite      == where no place was found, every sample is finite
--   all-written     == and all are written
-- Assumes nothing.
use mathlib.Core.Path.{◌≡◌, sym, ap, ◌∙◌}
use mathlib.Core.Bool.{not}
use mathlib.Core.List.{List}
use Prim.Native.Nat.{ℕ, ◌*◌, ◌/◌, ◌≤◌, ◌<◌}
use native.Mathlib.Omega.{arith}
use borrow.Author.Tests.{lt-ltb, le-ltb}
use lib.Ieee.{Float, nan}
use lib.Ieee.Scale.{finite}
use lib.ListN.{length, take}
use Rattle.counting.specs.Paper.Lists.{listed, over}
use Rattle.counting.specs.Paper.Search.{first}
use Rattle.counting.proofs.Searches.{first-le, first_cong}
use Rattle.counting.proofs.Writes.{take-over, get_or-listed}
use Rattle.answers.specs.Paper.Answers.{accepted, refused, refuse_at}
use Rattle.byte_numbers.specs.Paper.Numbers.{sample_in, samples_in, not_finite_in}
use Rattle.byte_numbers.specs.Floats.{Sampled}
use Rattle.byte_numbers.proofs.Floats.{length-samples}
use Rattle.quantiser_levels.specs.Paper.Samples.{not_finite, first_not_finite}

-- refusal 8's place by the bytes
pub place-of : (bs : List ℕ) → first (not_finite_in bs) (length bs / 4) ≡ first_not_finite (samples_in bs)
unfolding samples_in not_finite not_finite_in
place-of bs =
    let each : (i : ℕ) → i < length bs / 4 → not_finite_in bs i ≡ not_finite (samples_in bs) i =
    λ i l. ap (λ (x : Float). not (finite x)) (sym (get_or-listed (length bs / 4) (sample_in bs) i nan l)) in
    first_cong (not_finite_in bs) (not_finite (samples_in bs)) (length bs / 4) each
    ∙ ap (first (not_finite (samples_in bs))) (sym (length-samples bs))

module _ (n : ℕ) (bs : List ℕ) (whole : length bs ≡ 4 * n) where
  -- 4 * n bytes are n samples
  pub samples-n : length (samples_in bs) ≡ n
  samples-n = let q : length bs / 4 ≡ n = omega arith in length-samples bs ∙ q

  -- refusal 8 at the place that was found
  pub sample-refuses : (r : ℕ) → r ≡ first (not_finite_in bs) (length bs / 4) → r < n
      → refuse_at 8 (first_not_finite (samples_in bs)) (length (samples_in bs)) accepted ≡ refused 8 r
  sample-refuses r e l = rw (← place-of bs, ← e, samples-n, lt-ltb r n l)

  -- where no place was found nothing is refused
  pub samples-pass : (r : ℕ) → r ≡ first (not_finite_in bs) (length bs / 4) → n ≤ r
      → refuse_at 8 (first_not_finite (samples_in bs)) (length (samples_in bs)) accepted ≡ accepted
  samples-pass r e l = rw (← place-of bs, ← e, samples-n, le-ltb r n l)

  -- where no place was found, every sample is finite
  pub all-finite : (r : ℕ) → r ≡ first (not_finite_in bs) (length bs / 4) → n ≤ r → first_not_finite (samples_in bs) ≡ length (samples_in bs)
  all-finite r e l = omega (arith, e, place-of bs, samples-n, first-le (not_finite (samples_in bs)) (length (samples_in bs)))

  -- and all are written
  pub all-written : {old new : List Float} (r : ℕ) → Sampled bs old new r → n ≤ r → take n new ≡ samples_in bs
  unfolding samples_in
  all-written {old} {new} r s l =
      let k : r ≡ length bs / 4 = omega (arith, place-of bs, s.place, all-finite r s.place l, length-samples bs) in
      let q : length (samples_in bs) ≡ n = samples-n in
      ap (take n) (s.cells ∙ ap (λ (x : ℕ). over (listed x (sample_in bs)) old) k)
      ∙ ap (λ (x : ℕ). take x (over (samples_in bs) old)) (sym q)
      ∙ take-over (samples_in bs) old
