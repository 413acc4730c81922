-- What is promised of the number and the bytes that leave the firmware's face. (Document 02, cards 3 and 7.)
--   Told s              == an answer that a decoding call over samples can give: decoded or failed, or one of the refusals 1 to 8, its place of 16 bits
--   ending s            == how an answer ends: number and place of the refusal, or the outcome
--   ResultTells         == different ends give different returned numbers
--   AnswerTells         == and with the report's bytes the whole answer is told
--   ReportBack          == the report's numbers are read back from its bytes
--   LevelBack           == a level is read back from its number of 16 bits
--   LevelBytesBack      == and each of a list of levels from the two bytes in its place
-- proofs/Tells.antt proves them. Assumes nothing.
use Rattle.std.specs.Prelude.{ℕ, ◌*◌, ◌≤◌, ◌<◌, ◌≡◌, List, [], ◌∷◌, ℤ, pos, nat_abs, length, get_or}
use Rattle.answers.specs.Paper.Answers.{Said, refusal, report, count, stored, acceptance}
use Rattle.byte_numbers.specs.Paper.Numbers.{number16}
use Rattle.quantiser_levels.specs.Paper.Samples.{most_level}
use Rattle.firmware_codes.specs.Paper.Codes.{result_of, report_bytes, level_number, level_bytes, level_in}

-- "0 for decoded, 1 for failed, else refusal number × 65,536 + place"; the face has no refusals but 1 to 8
abbrev pub Told : Said → Type 0
Told (refusal k x) = (1 ≤ k) × (k ≤ 8) × (x < 65536)
Told (report o r f c) = o ≤ 1
Told (count k) = ⊥
Told (stored k) = ⊥
Told acceptance = ⊥

-- what the returned number is to tell: number and place of a refusal, or the outcome
abbrev pub ending : Said → List ℕ
ending (refusal k x) = k ∷ x ∷ []
ending (report o r f c) = o ∷ []
ending (count k) = []
ending (stored k) = []
ending acceptance = []

-- the returned number tells decoded, failed, and each refusal with its place apart
abbrev pub ResultTells : Type 0
ResultTells = (s t : Said) → Told s → Told t → result_of s ≡ result_of t → ending s ≡ ending t

-- with the report it tells the whole answer
abbrev pub AnswerTells : Type 0
AnswerTells = (s t : Said) → Told s → Told t → result_of s ≡ result_of t → report_bytes s ≡ report_bytes t → s ≡ t

-- rounds, failing, changed and the zero stand in the report, 16 bits each, low byte first
pub record ReportBack (o r f c : ℕ) : Type 0 where
  pub rounds : number16 (report_bytes (report o r f c)) 0 ≡ r
  pub failing : number16 (report_bytes (report o r f c)) 2 ≡ f
  pub changed : number16 (report_bytes (report o r f c)) 4 ≡ c
  pub zero : number16 (report_bytes (report o r f c)) 6 ≡ 0

-- a stored level is read back from its number
abbrev pub LevelBack : Type 0
LevelBack = (l : ℤ) → nat_abs l ≤ most_level → level_in (level_number l) ≡ l

-- and each of a list of levels from the two bytes in its place
pub record LevelBytesBack (ls : List ℤ) : Type 0 where
  pub long : length (level_bytes ls) ≡ 2 * length ls
  pub back : (j : ℕ) → j < length ls → nat_abs (get_or ls j (pos 0)) ≤ most_level → level_in (number16 (level_bytes ls) (2 * j)) ≡ get_or ls j (pos 0)
