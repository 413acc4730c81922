-- The flipping rule for iterative voting, stated on samples, settings and bytes. This rule is this project's own: no paper states it.
--   wrong_bits H c xs             == t, how many hard bits of the samples differ from the codeword c
--   wrong_decided H S c xs        == how many of these have a level other than 0: what an answer counts as changed
--   stride gamma t                == delta, by how much a round moves the level of a wrong bit at least
--   rounds_for L gamma t          == the rounds after which t wrong bits are right at the latest
--   Firm H S c xs                 == no place with a right hard bit 1 has level 0
--   SamplesWithinHalf H S c xs    == the hard bits are the codeword c changed within the half; at half of gamma exactly they are firm
--   EndsRight H c t rounds e      == an end within so many rounds, with the codeword c
--   Recovered H S c xs ..         == decoded with the codeword sent, the counts and the bytes of it
--   IterativeRule                 == what iterative voting answers and writes for such samples, whatever the strength of the levels
--   AmpleLimit                    == the same for a round limit of L / 2 + 1 or more, however many bits are wrong
--   OneRound                      == with b = 2 a limit of 1 does, and word, rounds and failing are those of one-step voting on the hard bits
-- proofs/FlippingRule.antt proves the last three for every call that is not refused. Assumes nothing.
use Rattle.std.specs.Prelude.{◌≡◌, ◌⊎◌, cond, List, ℕ, ◌+◌, ◌-◌, ◌*◌, ◌/◌, ◌≤◌, ◌<◌, eqb, ℤ, pos, Float, length, get_or}
use Rattle.std.specs.Float.{nan}
use Rattle.counting.specs.Paper.Lists.{over}
use Rattle.answers.specs.Paper.Answers.{accepted, Said, report}
use Rattle.packed_word.specs.Paper.Packed.{bit_at, distance}
use Rattle.matrix.specs.Paper.Code.{Matrix, failing}
use Rattle.quantiser_levels.specs.Paper.Samples.{Setting, largest, level_of, hard_bit}
use Rattle.majority_logic.specs.Paper.Claims.{Sent}
use Rattle.iterative_rounds.specs.Paper.Rounds.{End}
use Rattle.iterative_changed.specs.Paper.Changed.{decided_in, changed}
use Rattle.iterative_core.specs.Paper.Iterative.{start_of, end_from, iterative_verdict}

-- t: the number of wrong hard bits
abbrev pub wrong_bits : Matrix → List ℕ → List Float → ℕ
wrong_bits H c xs = distance H.n (hard_bit xs) (bit_at c)

-- the wrong bits that had a level
abbrev pub wrong_decided : Matrix → Setting → List ℕ → List Float → ℕ
wrong_decided H S c xs = changed H.n (decided_in (start_of S xs).R) (hard_bit xs) (bit_at c)

-- delta: a round moves the level of a wrong bit by so much at least
abbrev pub stride : ℕ → ℕ → ℕ
stride gamma t = gamma - 2 * t + 2

-- no round where no bit is wrong, else L / delta rounded down, and one more
abbrev pub rounds_for : ℕ → ℕ → ℕ → ℕ
rounds_for L gamma t = cond (eqb t 0) 0 (L / stride gamma t + 1)

-- no place whose bit of the codeword is 1 and whose hard bit is right has level 0
abbrev pub Firm : Matrix → Setting → List ℕ → List Float → Type 0
Firm H S c xs = (j : ℕ) → j < H.n → bit_at c j ≡ 1 → hard_bit xs j ≡ 1 → level_of S (get_or xs j nan) ≡ pos 0 → ⊥

-- at most gamma / 2 hard bits are wrong, whatever the strength of their levels; where they are half of gamma exactly, the right bits are firm
pub record SamplesWithinHalf (H : Matrix) (S : Setting) (c : List ℕ) (xs : List Float) : Type 0 where
  pub sent : Sent H c
  pub few : wrong_bits H c xs ≤ H.gamma / 2
  pub firm : (2 * wrong_bits H c xs < H.gamma) ⊎ Firm H S c xs

-- t bits being wrong at the start: no round where t is 0, else one or more, and at most so many; no check fails, and the word is c
pub record EndsRight (H : Matrix) (c : ℕ → ℕ) (t rounds : ℕ) (e : End) : Type 0 where
  pub begun : 0 < t → 0 < e.k
  pub soon : e.k ≤ rounds
  pub clean : failing H e.last.z ≡ 0
  pub right : (j : ℕ) → j < H.n → e.last.z j ≡ c j

-- decoded, failing 0, changed the number of wrong bits that had a level; rounds the k of the list, within the bound, and 0 exactly where no
-- bit is wrong. The word written is the codeword sent
pub record Recovered (H : Matrix) (S : Setting) (c : List ℕ) (xs : List Float) (old new : List ℕ) (said : Said) : Type 0 where
  pub begun : 0 < wrong_bits H c xs → 0 < (end_from H S xs).k
  pub soon : (end_from H S xs).k ≤ rounds_for (largest S.bits) H.gamma (wrong_bits H c xs)
  pub says : said ≡ report 0 (end_from H S xs).k 0 (wrong_decided H S c xs)
  pub word : new ≡ over c old

-- `said` is said of the samples xs, and the buffer old becomes new: every codeword so near is recovered, where the limit leaves the rounds for it
abbrev pub IterativeRule : Matrix → Setting → List Float → List ℕ → List ℕ → List ℤ → Said → Type 0
IterativeRule H S xs old new levels said =
    (c : List ℕ) → iterative_verdict H S xs (length old) (length levels) ≡ accepted → SamplesWithinHalf H S c xs
    → rounds_for (largest S.bits) H.gamma (wrong_bits H c xs) ≤ S.limit → Recovered H S c xs old new said

-- a limit of L / 2 + 1 always leaves them
abbrev pub AmpleLimit : Matrix → Setting → List Float → List ℕ → List ℕ → List ℤ → Said → Type 0
AmpleLimit H S xs old new levels said =
    (c : List ℕ) → iterative_verdict H S xs (length old) (length levels) ≡ accepted → SamplesWithinHalf H S c xs
    → largest S.bits / 2 + 1 ≤ S.limit → Recovered H S c xs old new said

-- with b = 2 a limit of 1 leaves them: rounds 0 when no bit is wrong, else 1
abbrev pub OneRound : Matrix → Setting → List Float → List ℕ → List ℕ → List ℤ → Said → Type 0
OneRound H S xs old new levels said =
    (c : List ℕ) → iterative_verdict H S xs (length old) (length levels) ≡ accepted → SamplesWithinHalf H S c xs
    → S.bits ≡ 2 → 1 ≤ S.limit
    → (said ≡ report 0 (cond (eqb (wrong_bits H c xs) 0) 0 1) 0 (wrong_decided H S c xs)) × (new ≡ over c old)
