-- Laws of votes that are turned by bytes.
--   bytes_none               == no byte is counted yet
--   bytes_more               == one byte more
--   bytes_next               == which is one of the first n
--   byte-here, byte-other    == what one byte turns: its own place, and no other
--   votes_bytes              == the bytes are what the sets have of the columns
--   room-part                == votes that have room for some turns have it for fewer
--   turned_same              == turns that are as many everywhere are the same
-- Assumes nothing.
use mathlib.Core.Path.{◌≡◌, refl, ◌∙◌}
use mathlib.Core.List.{List}
use Prim.Native.Nat.{ℕ, ◌+◌, ◌<◌, ◌≤◌}
use native.Mathlib.Decide.{dec_lt, ℕ_discrete}
use native.Mathlib.Omega.{arith}
use borrow.Author.Tests.{lt-ltb, le-ltb, eq-eqb, ne_eqb}
use lib.Dec.{eqb}
use Rattle.std.specs.Prelude.{cond}
use Rattle.counting.specs.Places.{at}
use Rattle.majority_votes.specs.Turns.{TurnLaws}
use Rattle.majority_sets.specs.Sets.{listed_votes, first_bytes, BytesCount}

-- ---- the first bytes

byte-below : (n : ℕ) (bs : List ℕ) (j : ℕ) → j < n → first_bytes n bs j ≡ at bs j
unfolding first_bytes
byte-below n bs j h = rw (lt-ltb j n h) refl

byte-past : (n : ℕ) (bs : List ℕ) (j : ℕ) → n ≤ j → first_bytes n bs j ≡ 0
unfolding first_bytes
byte-past n bs j h = rw (le-ltb j n h) refl

-- no byte yet
pub bytes_none : (bs : List ℕ) (j : ℕ) → first_bytes 0 bs j ≡ 0
bytes_none bs j = byte-past 0 bs j (omega arith)

-- what one byte turns
unfoldable pub one_byte : ℕ → List ℕ → ℕ → ℕ
one_byte x bs j = cond (eqb j x) (at bs j) 0

pub byte-here : (x : ℕ) (bs : List ℕ) → one_byte x bs x ≡ at bs x
unfolding one_byte
byte-here x bs = rw (eq-eqb x x refl) refl

pub byte-other : (x : ℕ) (bs : List ℕ) (j : ℕ) → (j ≡ x → ⊥) → one_byte x bs j ≡ 0
unfolding one_byte
byte-other x bs j ne = rw (ne_eqb j x ne) refl

-- one byte more
pub bytes_more : (k : ℕ) (bs : List ℕ) (j : ℕ) → first_bytes (k + 1) bs j ≡ first_bytes k bs j + one_byte k bs j
bytes_more k bs j =
    elim (ℕ_discrete j k) [
      | yes e ↦ rw e (omega (arith, byte-below (k + 1) bs k (omega arith), byte-past k bs k (omega arith), byte-here k bs))
      | no ne ↦ elim (dec_lt j k) [
        | yes h ↦ omega (arith, byte-below (k + 1) bs j (omega arith), byte-below k bs j h, byte-other k bs j ne)
        | no g ↦ omega (arith, byte-past (k + 1) bs j (omega arith), byte-past k bs j (omega arith), byte-other k bs j ne)
      ]
    ]

-- which is one of the first n
pub bytes_next : (n k : ℕ) (bs : List ℕ) (j : ℕ) → k < n → first_bytes k bs j + one_byte k bs j ≤ first_bytes n bs j
bytes_next n k bs j l =
    elim (dec_lt j (k + 1)) [
      | yes h ↦ omega (arith, bytes_more k bs j, byte-below (k + 1) bs j h, byte-below n bs j (omega arith))
      | no g ↦ omega (arith, bytes_more k bs j, byte-past (k + 1) bs j (omega arith))
    ]

-- the bytes are what the sets have of the columns
pub votes_bytes : (n : ℕ) → n ≤ 1023 → (x l : List ℕ) (from k : ℕ) (bs : List ℕ) → BytesCount x l from k bs → (j : ℕ)
    → first_bytes n bs j ≡ listed_votes n x l from k j
unfolding listed_votes
votes_bytes n small x l from k bs b j =
    elim (dec_lt j n) [
      | yes h ↦ rw (lt-ltb j n h) (byte-below n bs j h ∙ b.each j (omega arith))
      | no g ↦ rw (le-ltb j n (omega arith)) (byte-past n bs j (omega arith))
    ]

-- ---- turns

module _ {room : (ℕ → ℕ) → List ℕ → Type 0} {turned : (ℕ → ℕ) → List ℕ → List ℕ → Type 0} {fits : ℕ → ℕ → Type 0} {gives : ℕ → ℕ → ℕ → Type 0}
    (laws : TurnLaws room turned fits gives) where
  -- room for some turns is room for fewer
  pub room-part : (f h : ℕ → ℕ) (v : List ℕ) → ((j : ℕ) → f j ≤ h j) → room h v → room f v
  room-part f h v s r =
      laws.left (λ j. 0) f h v v (λ j. omega (arith, s j)) r (laws.none (λ j. 0) v (laws.room_long h v r) (λ j. refl))

  -- turns that are as many everywhere
  pub turned_same : (f h : ℕ → ℕ) (old new : List ℕ) → ((j : ℕ) → f j ≡ h j) → turned f old new → turned h old new
  turned_same f h old new s t =
      laws.join f (λ j. 0) h old new new (λ j. omega (arith, s j)) t (laws.none (λ j. 0) new (laws.turned_long f old new t) (λ j. refl))
