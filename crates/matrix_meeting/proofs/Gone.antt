-- Laws of words that are met one after the other, and of the rows that are met in them.
--   Both          == two of the words f 0 .. f (k - 1) have a bit
--   Gone          == the words f 0 .. f (k - 1): met has their bits, and as met twice exactly those that two of them have
--   gone-none     == no word is looked at yet
--   gone-more     == one word more is looked at
--   word_at        == word v of the k-th column of row i
--   met-says      == a bit is met twice in the four words of row i's columns exactly where a row is met at two of these columns
-- Assumes nothing.
use mathlib.Core.Path.{◌≡◌, ap₂, ◌∙◌}
use mathlib.Core.Bool.{false, not}
use mathlib.Core.List.{List}
use mathlib.Core.Logic.{inl, inr}
use Prim.Native.Nat.{ℕ, zero, suc, ◌+◌, ◌*◌, ◌/◌, ◌%◌, ◌^◌, ◌<◌}
use native.Mathlib.Nat.{zero-div}
use native.Mathlib.Decide.{ℕ_discrete}
use native.Mathlib.Omega.{arith}
use borrow.Author.Count.{below_more}
use borrow.Author.Tests.{ne_eqb}
use lib.Bits.{bit_and, bit_or}
use lib.Dec.{eqb}
use lib.ListN.{get_or}
use Rattle.counting.specs.Digits.{binary_digit}
use Rattle.counting.proofs.Searches.{never}
use Rattle.matrix.specs.Paper.Code.{Matrix, entry}
use Rattle.matrix_meeting.specs.Marks.{MarksHeld, bit_for, Meets, MetOnce, SaysTwice}
use Rattle.matrix_meeting.specs.declared.Met.{Met}
use Rattle.matrix_meeting.proofs.Words.{or_left, or_right, or-digit, and_none, and-digit, or-none, digit-none}

-- two of the words f 0 .. f (k - 1) have bit b
pub record Both (f : ℕ → ℕ) (k b : ℕ) : Type 0 where
  pub one : ℕ
  pub other : ℕ
  pub later : one < other
  pub inside : other < k
  pub in_one : binary_digit (f one) b ≡ 1
  pub in_other : binary_digit (f other) b ≡ 1

-- the words f 0 .. f (k - 1): met has their bits, and as met twice exactly those that two of them have
pub record Gone (f : ℕ → ℕ) (k : ℕ) (met : Met) : Type 0 where
  pub all : (q : ℕ) → q < k → (b : ℕ) → binary_digit (f q) b ≡ 1 → binary_digit met.once b ≡ 1
  pub some : (b : ℕ) → binary_digit met.once b ≡ 1 → (q : ℕ) × (q < k) × (binary_digit (f q) b ≡ 1)
  pub apart : met.twice ≡ 0 → (b : ℕ) → Both f k b → ⊥
  pub again : (b : ℕ) → binary_digit met.twice b ≡ 1 → Both f k b

module _ (f : ℕ → ℕ) where
  -- no word is looked at yet
  pub gone-none : Gone f 0 (record { once = 0; twice = 0 })
  gone-none =
      record {
        all = λ q l. absurd (omega arith);
        some = λ b d. absurd (nothing b d);
        apart = λ e b two. absurd (omega arith);
        again = λ b d. absurd (nothing b d);
      }
    where
      nothing : (b : ℕ) → binary_digit 0 b ≡ 1 → ⊥
      nothing b d = omega (arith, zero-div (2 ^ b))

  -- one word more is looked at
  pub gone-more : {k x : ℕ} {met met' : Met} → Gone f k met → x ≡ f k → Meets met x met' → Gone f (k + 1) met'
  gone-more {k} {x} {met} {met'} g e m =
      record {
        all = below_more (λ (q : ℕ). (b : ℕ) → binary_digit (f q) b ≡ 1 → binary_digit met'.once b ≡ 1) k
            (λ q l b d. rw m.all (or_left met.once x b (g.all q l b d))) (λ b d. rw m.all (or_right met.once x b (rw e d)));
        some = λ b d.
            elim (or-digit met.once x b (rw m.all at d))
            [ inl h ↦ let s = g.some b h in (s.0, omega (arith, s.1), s.2) | inr h ↦ (k, omega arith, rw e at h) ];
        apart = λ z b two.
            let none = or-none met.twice (bit_and met.once x) (rw m.again at z) in
            elim (ℕ_discrete two.other k) [
              | yes s ↦ and_none met.once x b none.1 (g.all two.one (omega arith) b two.in_one) (rw (e, ← s) two.in_other)
              | no ne ↦
                  g.apart none.0 b record {
                    one = two.one;
                    other = two.other;
                    later = two.later;
                    inside = omega arith;
                    in_one = two.in_one;
                    in_other = two.in_other;
                  }
            ];
        again = λ b d.
            elim (or-digit met.twice (bit_and met.once x) b (rw m.again at d)) [
              | inl h ↦ wider (g.again b h)
              | inr h ↦
                  let both = and-digit met.once x b h in
                  let s = g.some b both.0 in
                  record { one = s.0; other = k; later = s.1; inside = omega arith; in_one = s.2; in_other = rw e at both.1 }
            ];
      }
    where
      wider : {b : ℕ} → Both f k b → Both f (k + 1) b
      wider two =
          record {
            one = two.one;
            other = two.other;
            later = two.later;
            inside = omega (arith, two.inside);
            in_one = two.in_one;
            in_other = two.in_other;
          }

-- a number that is not unequal to 0
is_zero : (x : ℕ) → not (eqb x 0) ≡ false → x ≡ 0
is_zero x e = elim (ℕ_discrete x 0) [ yes z ↦ z | no n ↦ absurd (never (rw (ne_eqb x 0 n) at e)) ]

-- what holds of 0 to 3
four : (P : ℕ → Type 0) → P 0 → P 1 → P 2 → P 3 → (v : ℕ) → v < 4 → P v
four P a b c d zero h = a
four P a b c d (suc zero) h = b
four P a b c d (suc (suc zero)) h = c
four P a b c d (suc (suc (suc zero))) h = d
four P a b c d (suc (suc (suc (suc v)))) h = absurd (omega arith)

-- the bit for column c and row r stands in one of the column's four words
in-word : (w : List ℕ) (c r : ℕ) → MarksHeld w (bit_for c r) → binary_digit (get_or w (c * 4 + r % 256 / 64) 0) (r % 64) ≡ 1
unfolding MarksHeld
in-word w c r e =
    let word : c * 4 + r % 256 / 64 ≡ bit_for c r / 64 = omega arith in
    let place : r % 64 ≡ bit_for c r % 64 = omega arith in
    ap₂ (λ (x y : ℕ). binary_digit (get_or w x 0) y) word place ∙ e

-- and each bit of these words is one for the column and some row
of_word : (w : List ℕ) (c v b : ℕ) → v < 4 → b < 64 → binary_digit (get_or w (c * 4 + v) 0) b ≡ 1 → MarksHeld w (bit_for c (v * 64 + b))
unfolding MarksHeld
of_word w c v b h l e =
    let word : bit_for c (v * 64 + b) / 64 ≡ c * 4 + v = omega arith in
    let place : bit_for c (v * 64 + b) % 64 ≡ b = omega arith in
    ap₂ (λ (x y : ℕ). binary_digit (get_or w x 0) y) word place ∙ e

-- word v of the k-th column of row i
abbrev pub word_at : Matrix → ℕ → List ℕ → ℕ → ℕ → ℕ
word_at H i w v k = get_or w (entry H i k * 4 + v) 0

module _ (H : Matrix) (i : ℕ) (w : List ℕ) where
  -- where no row is met at two of the columns no bit is met twice in their words
  none-twice : (v : ℕ) {met : Met} → v < 4 → Gone (word_at H i w v) H.rho met → met.twice < 18446744073709551616 → MetOnce H i w → met.twice ≡ 0
  unfolding MetOnce
  none-twice v {met} h g small once =
      digit-none 64 met.twice small (λ b l d.
      let two = g.again b d in
      let c = entry H i two.one in
      let c' = entry H i two.other in
      once two.one two.other two.later two.inside (v * 64 + b) (of_word w c v b h l two.in_one) (of_word w c' v b h l two.in_other))

  -- no bit is met twice in the four words of row i's columns exactly where no row is met at two of these columns
  module _ {a b c d : Met} (ga : Gone (word_at H i w 0) H.rho a) (gb : Gone (word_at H i w 1) H.rho b)
      (gc : Gone (word_at H i w 2) H.rho c) (gd : Gone (word_at H i w 3) H.rho d) where
    met-once : bit_or (bit_or (bit_or a.twice b.twice) c.twice) d.twice ≡ 0 → MetOnce H i w
    unfolding MetOnce
    met-once none q q' l h r e e' =
        let abc = or-none (bit_or (bit_or a.twice b.twice) c.twice) d.twice none in
        let ab = or-none (bit_or a.twice b.twice) c.twice abc.0 in
        let each = or-none a.twice b.twice ab.0 in
        let Apart : ℕ → Type 0 = λ v. (x : ℕ) → Both (word_at H i w v) H.rho x → ⊥ in
        four Apart (ga.apart each.0) (gb.apart each.1) (gc.apart ab.1) (gd.apart abc.1) (r % 256 / 64) (omega arith) (r % 64)
        record {
          one = q;
          other = q';
          later = l;
          inside = h;
          in_one = in-word w (entry H i q) r e;
          in_other = in-word w (entry H i q') r e';
        }

    pub met-says : a.twice < 18446744073709551616 → b.twice < 18446744073709551616 → c.twice < 18446744073709551616
        → d.twice < 18446744073709551616 → SaysTwice H i w (not (eqb (bit_or (bit_or (bit_or a.twice b.twice) c.twice) d.twice) 0))
    met-says la lb lc ld =
        record {
          once = λ e. met-once (is_zero (bit_or (bit_or (bit_or a.twice b.twice) c.twice) d.twice) e);
          none = λ m.
              let za = none-twice 0 (omega arith) ga la m in
              let zb = none-twice 1 (omega arith) gb lb m in
              let zc = none-twice 2 (omega arith) gc lc m in
              let zd = none-twice 3 (omega arith) gd ld m in
              rw (za, zb, zc, zd);
        }
