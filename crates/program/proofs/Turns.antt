-- Reading in pieces changes nothing: the turns of the run print what is to be printed for all blocks.
--   turns-print      == whichever pieces are read, the turns print the blocks' text
--   turning          == what the program reads at once is a block at least, and none past the 65,535th
--   program-prints   == the program's turns print the blocks' text
-- Assumes nothing.
use mathlib.Core.Path.{◌≡◌, refl, sym, ap, ◌∙◌}
use mathlib.Core.Bool.{cond}
use mathlib.Core.List.{List, [], ◌∷◌, ◌++◌, append-nil, append_assoc}
use Prim.Native.Nat.{ℕ, zero, suc, ◌+◌, ◌*◌, ◌-◌, ◌/◌, ◌%◌, ◌≤◌, ◌<◌}
use native.Mathlib.Nat.{add-zero, add-suc, add_assoc, add-mul, suc-mul, mul-le-mul_right, le-div_iff_mul-le, div-lt_iff_lt-mul, div-add-mod', mod-lt}
use native.Mathlib.Decide.{dec_lt}
use native.Mathlib.Omega.{arith}
use borrow.Author.Tests.{lt-ltb, le-ltb, le-leb, lt-leb}
use lib.Dec.{leb}
use lib.ListN.{length, take, drop, length-drop}
use lib.Seq.{take-take, drop-drop, take_all, length-take-le}
use Rattle.matrix.specs.Paper.Code.{Matrix}
use Rattle.quantiser_levels.specs.Paper.Samples.{Setting}
use Rattle.program_input.specs.Paper.Opening.{Decodable}
use Rattle.program_lines.specs.Paper.Blocks.{blocks_in, block_at, block_lines, chunk_text}
use Rattle.program_turns.specs.Turns.{at_once}
use Rattle.program_turns.proofs.Turns.{many}
use Rattle.program.specs.Paper.Program.{blocks_text}
use Rattle.program.specs.Turns.{turns_text, Turning}

-- ---- parts of a list

-- a part of the front is that part of the list
part-front : (n m d : ℕ) (l : List ℕ) → n + d ≤ m → take d (drop n (take m l)) ≡ take d (drop n l)
part-front zero m d l h = take-take d m l (omega arith)
part-front (suc n) zero d l h = absurd (omega arith)
part-front (suc n) (suc m) d [] h = refl
part-front (suc n) (suc m) d (x ∷ l) h = part-front n m d l (omega arith)

-- ---- dividing by d what is a whole number of d longer

module _ (d : ℕ) (some : 0 < d) where
  quotient : (q r x : ℕ) → r < d → x ≡ q * d + r → x / d ≡ q
  quotient q r x l e =
      let low : q ≤ x / d = (le-div_iff_mul-le some).1 (omega arith) in
      let high : x / d < suc q = (div-lt_iff_lt-mul some).1 (rw (suc-mul q d) (omega arith)) in
      omega arith

  remainder : (q r x : ℕ) → r < d → x ≡ q * d + r → x % d ≡ r
  remainder q r x l e = omega (arith, div-add-mod' x d, ap (λ (y : ℕ). y * d) (quotient q r x l e))

  module _ (len a : ℕ) (h : a * d ≤ len) where
    fewer : a ≤ len / d
    fewer = (le-div_iff_mul-le some).1 h

    less : len - a * d ≡ (len / d - a) * d + len % d
    less =
        let q : len / d ≡ a + (len / d - a) = omega (arith, fewer) in
        omega (arith, div-add-mod' len d, ap (λ (y : ℕ). y * d) q, add-mul a (len / d - a) d)

    quotient-less : (len - a * d) / d ≡ len / d - a
    quotient-less = quotient (len / d - a) (len % d) (len - a * d) (mod-lt len some) less

    remainder-less : (len - a * d) % d ≡ len % d
    remainder-less = remainder (len / d - a) (len % d) (len - a * d) (mod-lt len some) less

module _ (H : Matrix) (S : Setting) (some : 0 < 4 * H.n) where
  -- ---- lines in two parts

  later : (a b : ℕ) (bs : List ℕ) → block_at H bs (a + b) ≡ block_at H (drop (a * (4 * H.n)) bs) b
  unfolding block_at
  later a b bs = ap (take (4 * H.n)) (rw (add-mul a b (4 * H.n)) (sym (drop-drop (b * (4 * H.n)) (a * (4 * H.n)) bs)))

  lines_join : (i a b : ℕ) (bs : List ℕ) → block_lines H S i a bs ++ block_lines H S (i + a) b (drop (a * (4 * H.n)) bs) ≡ block_lines H S i (a + b) bs
  unfolding block_lines
  lines_join i a zero bs = rw (add-zero a) (append-nil (block_lines H S i a bs))
  lines_join i a (suc b) bs =
      rw (add-suc a b, ← append_assoc, lines_join i a b bs, later a b bs, add_assoc i a b)

  lines-front : (i a k : ℕ) (bs : List ℕ) → k ≤ a → block_lines H S i k (take (a * (4 * H.n)) bs) ≡ block_lines H S i k bs
  unfolding block_lines block_at
  lines-front i a zero bs h = refl
  lines-front i a (suc k) bs h =
      let m : suc k * (4 * H.n) ≤ a * (4 * H.n) = mul-le-mul_right (4 * H.n) h in
      let e = part-front (k * (4 * H.n)) (a * (4 * H.n)) (4 * H.n) bs (omega (arith, m, suc-mul k (4 * H.n))) in
      rw (lines-front i a k bs (omega arith), e)

  -- ---- a chunk in two parts

  module _ (i a : ℕ) (bs : List ℕ) (h : a * (4 * H.n) ≤ length bs) where
    chunk_front : chunk_text H S i (take (a * (4 * H.n)) bs) ≡ block_lines H S i a bs
    unfolding chunk_text
    chunk_front =
        let l : length (take (a * (4 * H.n)) bs) ≡ a * (4 * H.n) = length-take-le (a * (4 * H.n)) bs h in
        let whole : a * (4 * H.n) ≡ a * (4 * H.n) + 0 = omega arith in
        rw (l, quotient (4 * H.n) some a 0 (a * (4 * H.n)) some whole, remainder (4 * H.n) some a 0 (a * (4 * H.n)) some whole)
        (append-nil _ ∙ lines-front i a a bs (omega arith))

    chunk-rest : block_lines H S i a bs ++ chunk_text H S (i + a) (drop (a * (4 * H.n)) bs) ≡ chunk_text H S i bs
    unfolding chunk_text
    chunk-rest =
        let q : a + (length bs / (4 * H.n) - a) ≡ length bs / (4 * H.n) = omega (arith, fewer (4 * H.n) some (length bs) a h) in
        rw (
          length-drop (a * (4 * H.n)) bs,
          quotient-less (4 * H.n) some (length bs) a h,
          remainder-less (4 * H.n) some
              (length bs) a h,
          ← append_assoc,
          lines_join i a (length bs / (4 * H.n) - a) bs,
          q,
        )

  -- ---- the blocks from number i on, none past the 65,535th

  unfoldable limited : ℕ → List ℕ → List ℕ
  limited i bs = cond (leb (65535 - i) (blocks_in H bs)) (block_lines H S i (65535 - i) bs) (chunk_text H S i bs)

  limited-all : (i : ℕ) (bs : List ℕ) → 65535 - i ≤ blocks_in H bs → limited i bs ≡ block_lines H S i (65535 - i) bs
  unfolding limited
  limited-all i bs h = rw (le-leb (65535 - i) (blocks_in H bs) h)

  limited-some : (i : ℕ) (bs : List ℕ) → blocks_in H bs < 65535 - i → limited i bs ≡ chunk_text H S i bs
  unfolding limited
  limited-some i bs h = rw (lt-leb (65535 - i) (blocks_in H bs) h)

  limited-none : (i : ℕ) (bs : List ℕ) → 65535 ≤ i → [] ≡ limited i bs
  unfolding block_lines
  limited-none i bs h =
      let z : 65535 - i ≡ 0 = omega arith in
      sym (limited-all i bs (omega arith) ∙ ap (λ (k : ℕ). block_lines H S i k bs) z)

  -- a turn that finds less than it wants
  limited-cut : (i k : ℕ) (bs : List ℕ) → i + k ≤ 65535 → length bs < k * (4 * H.n) → chunk_text H S i (take (k * (4 * H.n)) bs) ≡ limited i bs
  limited-cut i k bs m h =
      let q : blocks_in H bs < k = (div-lt_iff_lt-mul some).1 h in
      ap (chunk_text H S i) (take_all (k * (4 * H.n)) bs (omega arith)) ∙ sym (limited-some i bs (omega arith))

  -- a turn that finds all
  limited-step : (i k : ℕ) (bs : List ℕ) → i + k ≤ 65535 → k * (4 * H.n) ≤ length bs
      → chunk_text H S i (take (k * (4 * H.n)) bs) ++ limited (i + k) (drop (k * (4 * H.n)) bs) ≡ limited i bs
  limited-step i k bs m h =
      let d = 4 * H.n in
      let rest = drop (k * d) bs in
      let f : k ≤ blocks_in H bs = fewer d some (length bs) k h in
      let e : blocks_in H rest ≡ blocks_in H bs - k = rw (length-drop (k * d) bs) (quotient-less d some (length bs) k h) in
      ap (λ (x : List ℕ). x ++ limited (i + k) rest) (chunk_front i k bs h)
      ∙ elim (dec_lt (blocks_in H bs) (65535 - i)) [
        | yes l ↦ ap (λ (x : List ℕ). block_lines H S i k bs ++ x) (limited-some (i + k) rest (omega (arith, e))) ∙ chunk-rest i k bs h
            ∙ sym (limited-some i bs l)
        | no n ↦
            let j : k + (65535 - (i + k)) ≡ 65535 - i = omega arith in
            ap (λ (x : List ℕ). block_lines H S i k bs ++ x) (limited-all (i + k) rest (omega (arith, e)))
            ∙ lines_join i k (65535 - (i + k)) bs
            ∙ ap (λ (x : ℕ). block_lines H S i x bs) j
            ∙ sym (limited-all i bs (omega arith))
      ]

  -- ---- turn by turn

  module _ (at : ℕ → ℕ) (r : Turning at) where
    turns-from : (t i : ℕ) (bs : List ℕ) → 65535 ≤ i + t → turns_text H S at t i bs ≡ limited i bs
    unfolding turns_text
    turns-from zero i bs h = limited-none i bs (omega arith)
    turns-from (suc t) i bs h =
        elim (dec_lt i 65535) [
          | no n ↦ rw (le-leb 65535 i (omega arith)) (limited-none i bs (omega arith))
          | yes l ↦
              elim (dec_lt (length bs) (at i * (4 * H.n))) [
                | yes c ↦ rw (lt-leb 65535 i l, lt-ltb (length bs) (at i * (4 * H.n)) c) (append-nil _ ∙ limited-cut i (at i) bs (r.most i l) c)
                | no g ↦
                    rw (
                      lt-leb 65535 i l,
                      le-ltb (length bs) (at i * (4 * H.n)) (omega arith),
                      turns-from t (i + at i) (drop (at i * (4 * H.n)) bs)
                          (omega (arith, r.least i l)),
                    )
                    (limited-step i (at i) bs (r.most i l) (omega arith))
              ]
        ]

    -- whichever pieces are read, the turns print the blocks' text
    pub turns-print : (bs : List ℕ) → turns_text H S at 65535 0 bs ≡ blocks_text H S bs
    unfolding limited blocks_text
    turns-print bs = turns-from 65535 0 bs (omega arith)

-- what the program reads at once is a block at least, and none past the 65,535th
pub turning : (n : ℕ) → 2 ≤ n → n ≤ 1023 → Turning (at_once n)
turning n least most =
    record {
      least = λ i l. (many n i least most (omega arith)).some l;
      most = λ i l. (many n i least most (omega arith)).numbers;
    }

-- so its turns print the blocks' text
pub program-prints : (H : Matrix) (S : Setting) (bs : List ℕ) → Decodable H S → turns_text H S (at_once H.n) 65535 0 bs ≡ blocks_text H S bs
program-prints H S bs d =
    let z = d.matrix.sizes in
    turns-print H S (omega (arith, z.n_least)) (at_once H.n) (turning H.n z.n_least z.n_most) bs
