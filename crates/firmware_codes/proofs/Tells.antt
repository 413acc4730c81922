-- What is promised of the number and the bytes that leave the firmware's face.
--   result-tells       == the returned number tells decoded, failed, and each refusal with its place apart
--   report-back        == rounds, failing, changed and the zero are read back from the report's bytes
--   answer-tells       == with the report's bytes it tells the whole answer
--   level-back         == a level from -2,047 to 2,047 is read back from its number
--   level-bytes-back   == there are two bytes a level, and the level at each place is read back from the two there
-- Assumes nothing.
use mathlib.Core.Path.{◌≡◌, refl, sym, ap, ap₂, ◌∙◌}
use mathlib.Core.Bool.{Bool, cond}
use mathlib.Core.List.{List, [], ◌∷◌}
use Prim.Native.Nat.{ℕ, ◌+◌, ◌-◌, ◌*◌, ◌/◌, ◌%◌, ◌<◌}
use native.Mathlib.Omega.{arith}
use borrow.Author.Tests.{lt-ltb, le-ltb}
use lib.IntN.{ℤ, pos, negsuc}
use lib.ListN.{length, get_or}
use Rattle.counting.proofs.Joined.{get_or-rows}
use Rattle.answers.specs.Paper.Answers.{refusal, report, count, stored, acceptance}
use Rattle.byte_numbers.specs.Paper.Numbers.{number16}
use Rattle.firmware_codes.specs.Paper.Codes.{level_number, level_bytes, level_in}
use Rattle.firmware_codes.proofs.Levels.{bytes_at, bytes-long}
use Rattle.firmware_codes.specs.Paper.Claims.{ResultTells, AnswerTells, ReportBack, LevelBack, LevelBytesBack}

-- ---- the returned number

-- places of 16 bits leave the refusals' numbers apart
same-refusal : (k x l y : ℕ) → x < 65536 → y < 65536 → k * 65536 + x ≡ l * 65536 + y → (k ≡ l) × (x ≡ y)
same-refusal k x l y h g e = (omega arith, omega arith)

-- decoded, failed, and each refusal with its place are different numbers
pub result-tells : ResultTells
result-tells (refusal k x) (refusal l y) p q e =
    let n = same-refusal k x l y p.2 q.2 e in
    ap₂ (λ (a b : ℕ). a ∷ b ∷ []) n.0 n.1
result-tells (refusal k x) (report o r f c) p q e = absurd (omega (arith, p.0, q, e))
result-tells (refusal k x) (count l) p q e = absurd q
result-tells (refusal k x) (stored l) p q e = absurd q
result-tells (refusal k x) acceptance p q e = absurd q
result-tells (report o r f c) (refusal k x) p q e = absurd (omega (arith, p, q.0, e))
result-tells (report o r f c) (report o' r' f' c') p q e = ap (λ (a : ℕ). a ∷ []) e
result-tells (report o r f c) (count l) p q e = absurd q
result-tells (report o r f c) (stored l) p q e = absurd q
result-tells (report o r f c) acceptance p q e = absurd q
result-tells (count k) t p q e = absurd p
result-tells (stored k) t p q e = absurd p
result-tells acceptance t p q e = absurd p

-- ---- the report

-- a number of 16 bits from its two bytes
two_bytes : (x : ℕ) → x % 256 + 256 * (x / 256) ≡ x
two_bytes x = omega arith

-- rounds, failing, changed and the zero stand where they belong
pub report-back : (o r f c : ℕ) → ReportBack o r f c
unfolding number16
report-back o r f c = record { rounds = two_bytes r; failing = two_bytes f; changed = two_bytes c; zero = refl }

-- equal bytes give equal numbers
same_number : {a b : List ℕ} (i : ℕ) {x y : ℕ} → a ≡ b → number16 a i ≡ x → number16 b i ≡ y → x ≡ y
same_number i e p q = sym p ∙ ap (λ (l : List ℕ). number16 l i) e ∙ q

-- with the report's bytes the whole answer is told
pub answer-tells : AnswerTells
answer-tells (refusal k x) (refusal l y) p q e b =
    let n = same-refusal k x l y p.2 q.2 e in
    ap₂ refusal n.0 n.1
answer-tells (refusal k x) (report o r f c) p q e b = absurd (omega (arith, p.0, q, e))
answer-tells (refusal k x) (count l) p q e b = absurd q
answer-tells (refusal k x) (stored l) p q e b = absurd q
answer-tells (refusal k x) acceptance p q e b = absurd q
answer-tells (report o r f c) (refusal k x) p q e b = absurd (omega (arith, p, q.0, e))
answer-tells (report o r f c) (report o' r' f' c') p q e b =
    let h = report-back o r f c in
    let k = report-back o' r' f' c' in
    rw (e, same_number 0 b h.rounds k.rounds, same_number 2 b h.failing k.failing, same_number 4 b h.changed k.changed)
answer-tells (report o r f c) (count l) p q e b = absurd q
answer-tells (report o r f c) (stored l) p q e b = absurd q
answer-tells (report o r f c) acceptance p q e b = absurd q
answer-tells (count k) t p q e b = absurd p
answer-tells (stored k) t p q e b = absurd p
answer-tells acceptance t p q e b = absurd p

-- ---- the levels

-- a level from -2,047 to 2,047 is read back from its number
pub level-back : LevelBack
level-back (pos k) h = ap (λ (t : Bool). cond t (pos k) (negsuc (65535 - k))) (lt-ltb k 32768 (omega arith))
level-back (negsuc k) h =
    ap (λ (t : Bool). cond t (pos (65535 - k)) (negsuc (65535 - (65535 - k)))) (le-ltb (65535 - k) 32768 (omega arith)) ∙ ap negsuc (omega arith)

-- the number that stands in the two bytes at each place
number_at : (ls : List ℤ) (j : ℕ) → j < length ls → number16 (level_bytes ls) (2 * j) ≡ level_number (get_or ls j (pos 0))
unfolding level_bytes number16
number_at ls j l =
    let at : (q : ℕ) → q < 2 → get_or (level_bytes ls) (j * 2 + q) 0 ≡ get_or (bytes_at ls j) q 0 =
    λ q m. get_or-rows (length ls) 2 (bytes_at ls) 0 (λ i b. refl) j q l m in
    let low : 2 * j ≡ j * 2 + 0 = omega arith in
    let high : 2 * j + 1 ≡ j * 2 + 1 = omega arith in
    ap₂ (λ (a b : ℕ). a + 256 * b) (ap (λ (p : ℕ). get_or (level_bytes ls) p 0) low ∙ at 0 (omega arith))
    (ap (λ (p : ℕ). get_or (level_bytes ls) p 0) high ∙ at 1 (omega arith))
    ∙ two_bytes (level_number (get_or ls j (pos 0)))

-- there are two bytes a level, and the level at each place is read back from the two there
pub level-bytes-back : (ls : List ℤ) → LevelBytesBack ls
level-bytes-back ls =
    record { long = bytes-long ls; back = λ j l h. ap level_in (number_at ls j l) ∙ level-back (get_or ls j (pos 0)) h }
