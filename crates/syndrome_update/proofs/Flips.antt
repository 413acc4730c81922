-- The places at which two words differ: one more looked at, eight passed over at once.
--   chunks-same    == words of which eight bytes are the same array agree at these places
--   flips-none     == no place is looked at yet
--   flips-start    == nor is one behind places that stand there
--   flips-step     == one place more is looked at
--   flips-skip     == places at which the words agree are passed over
--   flips-join     == places listed in two parts
-- Assumes nothing.
use Rattle.std.specs.Array.{IsFirstChunk}
use Rattle.std.specs.Prelude.{Option, None, Some, MatchOption}
use Rattle.std.specs.Option.{option_eq}
use Rattle.std.specs.Cmp.Lexicographic.{pointwise}
use Rattle.std.proofs.lemmas.Slice.Eq.{slice_eq-Decides}
use Rattle.std.proofs.lemmas.Bool.Decides.{Decides-eqb}
use mathlib.Core.Path.{◌≡◌, refl, sym, ap, ◌∙◌}
use mathlib.Core.Bool.{true}
use mathlib.Core.List.{List}
use denote.Ref.{Bor}
use Prim.Native.Nat.{ℕ, ◌+◌, ◌≤◌, ◌<◌}
use native.Mathlib.Omega.{arith}
use lib.Dec.{eqb}
use lib.ListN.{length, set, get_or, take, drop}
use lib.Seq.{get_or-set_other, get_or-take}
use Rattle.counting.specs.Places.{at}
use Rattle.counting.proofs.Sums.{sum-part, differ-eq}
use Rattle.syndrome.specs.Places.{Places}
use Rattle.syndrome.proofs.Parity.{part-at}
use Rattle.syndrome.proofs.Lists.{places-none, places-step, places-skip}
use Rattle.syndrome_update.specs.Parities.{differing, FlipsListed}

-- places of which the first k, from place i on and from place j on, are the same array
pub chunks-same : (a b : List ℕ) (i m j o k : ℕ) (r s : Option (Bor (List ℕ))) → k ≤ length (take m (drop i a)) → k ≤ length (take o (drop j b))
    → k ≤ m → k ≤ o → MatchOption r (length (take m (drop i a)) < k) (λ y. IsFirstChunk (take m (drop i a)) y.now k)
    → MatchOption s (length (take o (drop j b)) < k) (λ y. IsFirstChunk (take o (drop j b)) y.now k)
    → option_eq (λ x y. pointwise eqb x.now y.now) r s ≡ true → (d : ℕ) → d < k → at a (i + d) ≡ at b (j + d)
chunks-same a b i m j o k None s h g f e p q w d l = absurd (omega arith)
chunks-same a b i m j o k (Some x) None h g f e p q w d l = absurd (omega arith)
chunks-same a b i m j o k (Some x) (Some y) h g f e p q w d l =
    let same : x.now ≡ y.now = (slice_eq-Decides Decides-eqb x.now y.now _ refl).0 w in
    sym (part-at a i m d (omega arith))
    ∙ sym (get_or-take k (take m (drop i a)) d 0 l)
    ∙ ap (λ (z : List ℕ). get_or z d 0) (sym p.same ∙ same ∙ q.same)
    ∙ get_or-take k (take o (drop j b)) d 0 l
    ∙ part-at b j o d (omega arith)

-- ---- the places at which two words differ

-- no place is looked at yet
pub flips-none : (f : ℕ → ℕ) (l : List ℕ) → length l ≡ 1023 → FlipsListed f 0 l l 0
flips-none f l e = record { places = places-none f l e; rest = λ q h. refl }

-- nor is one behind places that stand there
pub flips-start : (f : ℕ → ℕ) (i : ℕ) (l : List ℕ) (t : ℕ) → Places f i l t → FlipsListed f i l l t
flips-start f i l t p = record { places = p; rest = λ q h. refl }

-- one place more is looked at
pub flips-step : (f : ℕ → ℕ) (i : ℕ) (l₀ l : List ℕ) (t : ℕ) → FlipsListed f i l₀ l t → i < 1023 → (x : ℕ) → x ≡ f i → x < 2
    → FlipsListed f (i + 1) l₀ (set l t i) (t + x)
flips-step f i l₀ l t p room x e h =
    record {
      places = places-step f i l t p.places room x e h;
      rest = λ q g. get_or-set_other l t q i 0 (λ s. omega arith) ∙ p.rest q (omega arith);
    }

-- places at which the words agree are passed over
pub flips-skip : (a b : ℕ → ℕ) (i k : ℕ) (l : List ℕ) (t : ℕ) → Places (differing a b) i l t → ((d : ℕ) → d < k → a (i + d) ≡ b (i + d))
    → FlipsListed (differing a b) (i + k) l l t
unfolding differing
flips-skip a b i k l t p e =
    flips-start (differing a b) (i + k) l t (places-skip (differing a b) i k l t p (λ d h. differ-eq (a (i + d)) (b (i + d)) (e d h)))

-- places listed in two parts
pub flips-join : (f : ℕ → ℕ) (i k : ℕ) (l₀ l l' : List ℕ) (t t' : ℕ) → i ≤ k → FlipsListed f i l₀ l t → FlipsListed f k l l' t' → FlipsListed f k l₀ l' t'
flips-join f i k l₀ l l' t t' h p p' =
    record {
      places = p'.places;
      rest = λ q g. p'.rest q g ∙ p.rest q (omega (arith, p.places.total, p'.places.total, sum-part i k f h));
    }
