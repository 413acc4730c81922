-- What is promised of the firmware's face. (Document 02, cards 3 and 7.)
--   WholeBytes bs xs p      == the bytes are whole numbers, and the report has room
--   IterativeOnBytes ..     == what iterative voting on the floats fs says and writes, as a returned number and as bytes
--   FaceIterative           == the face is iterative voting on the bytes read as numbers
--   OnlyWhole               == a call that is not refused lends whole numbers
--   FaceCall, said_to f     == all that a call is lent, and what the face says to it
--   FaceTold                == every answer is decoded, failed or one of the refusals 1 to 8, its place of 16 bits
--   FaceTells               == different ends of two calls give different returned numbers
--   FaceAnswerTells         == and with the reports' bytes different answers are told apart
--   ReadBack                == counts and levels are read back from the bytes that a call leaves
--   FaceRecovered           == 0 is returned, the word is the codeword, the report says the rounds and as many changed bits as samples with a level were wrong
--   FaceRule, FaceAmple     == the flipping rule for the face, where the limit leaves the rounds for it, and where it is L / 2 + 1 or more
-- proofs/Iterative.antt, Tells.antt, Back.antt and Rule.antt prove them for every call. Assumes nothing.
use Rattle.std.specs.Prelude.{◌≡◌, List, ℕ, ◌+◌, ◌*◌, ◌/◌, ◌≤◌, ◌<◌, Float, length}
use Rattle.counting.specs.Paper.Lists.{over}
use Rattle.answers.specs.Paper.Answers.{accepted, Said, report, written}
use Rattle.byte_numbers.specs.Paper.Numbers.{number16, entries_in, samples_in}
use Rattle.matrix.specs.Paper.Code.{Matrix, failing}
use Rattle.quantiser_levels.specs.Paper.Samples.{Setting, largest, hard_bit}
use Rattle.iterative_changed.specs.Paper.Changed.{decided_in, changed}
use Rattle.iterative_core.specs.Paper.Iterative.{start_of, end_from, iterative_verdict, iterative_of, iterative_word, iterative_levels}
use Rattle.iterative_rule.specs.Paper.Claims.{wrong_bits, wrong_decided, rounds_for, SamplesWithinHalf}
use Rattle.firmware_codes.specs.Paper.Codes.{result_of, report_bytes, level_bytes, level_in}
use Rattle.firmware_codes.specs.Paper.Claims.{Told, ending}
use Rattle.firmware_asking.specs.Paper.Asked.{face_matrix, face_verdict}
use Rattle.firmware_decoding.specs.Paper.Said.{face_of}

-- two bytes an entry, four a sample, eight of the report
pub record WholeBytes (bs xs : List ℕ) (p : ℕ) : Type 0 where
  pub list : length bs ≡ 2 * length (entries_in bs)
  pub samples : length xs ≡ 4 * length (samples_in xs)
  pub room : 8 ≤ p

-- the word w becomes w', the levels ls become ls', the report p becomes p'; two bytes of ls are room for one level
pub record IterativeOnBytes (H : Matrix) (S : Setting) (fs : List Float) (r : ℕ) (w w' ls ls' p p' : List ℕ) : Type 0 where
  pub result : r ≡ result_of (iterative_of H S fs (length w) (length ls / 2))
  pub word : w' ≡ written (iterative_verdict H S fs (length w) (length ls / 2)) (iterative_word H S fs) w
  pub levels : ls' ≡ written (iterative_verdict H S fs (length w) (length ls / 2)) (level_bytes (iterative_levels H S fs)) ls
  pub report : p' ≡ written (iterative_verdict H S fs (length w) (length ls / 2)) (report_bytes (iterative_of H S fs (length w) (length ls / 2))) p

-- "must call the iterative decoder": of whole numbers it asks, says and writes what iterative voting does, refused calls too
abbrev pub FaceIterative : Matrix → List ℕ → Setting → List ℕ → ℕ → List ℕ → List ℕ → List ℕ → List ℕ → List ℕ → List ℕ → Type 0
FaceIterative H bs S xs r w w' ls ls' p p' = WholeBytes bs xs (length p) → IterativeOnBytes H S (samples_in xs) r w w' ls ls' p p'

-- a list or samples of any other number of bytes, or a short report, are refused
abbrev pub OnlyWhole : Type 0
OnlyWhole =
    (n m rho gamma : ℕ) (bs : List ℕ) (S : Setting) (xs : List ℕ) (w ls p : ℕ)
    → face_verdict (face_matrix n m rho gamma bs) bs S xs w ls p ≡ accepted → WholeBytes bs xs p

-- all that a call is lent: numbers, bytes, and the room of the written buffers
pub record FaceCall : Type 0 where
  pub n : ℕ
  pub m : ℕ
  pub rho : ℕ
  pub gamma : ℕ
  pub list : List ℕ
  pub setting : Setting
  pub samples : List ℕ
  pub word : ℕ
  pub levels : ℕ
  pub report : ℕ

-- what the face says to it
abbrev pub said_to : FaceCall → Said
said_to f =
    face_of (face_matrix f.n f.m f.rho f.gamma f.list) f.list f.setting f.samples f.word f.levels f.report

-- "0 for decoded, 1 for failed, else refusal number × 65,536 + place": there is no other answer
abbrev pub FaceTold : Type 0
FaceTold = (f : FaceCall) → Told (said_to f)

-- the returned number tells decoded, failed, and each refusal with its place apart
abbrev pub FaceTells : Type 0
FaceTells = (f g : FaceCall) → result_of (said_to f) ≡ result_of (said_to g) → ending (said_to f) ≡ ending (said_to g)

-- with the report it tells the whole answer
abbrev pub FaceAnswerTells : Type 0
FaceAnswerTells =
    (f g : FaceCall) → result_of (said_to f) ≡ result_of (said_to g) → report_bytes (said_to f) ≡ report_bytes (said_to g) → said_to f ≡ said_to g

-- from the buffers ls' and p' that a call leaves which is not refused: R, and "rounds, failing, changed and a zero, 16 bits each, low byte first"
pub record ReadBack (H : Matrix) (S : Setting) (fs : List Float) (ls' p' : List ℕ) : Type 0 where
  pub levels : (j : ℕ) → j < H.n → level_in (number16 ls' (2 * j)) ≡ (end_from H S fs).last.R j
  pub rounds : number16 p' 0 ≡ (end_from H S fs).k
  pub failing : number16 p' 2 ≡ failing H (end_from H S fs).last.z
  pub changed : number16 p' 4 ≡ changed H.n (decided_in (start_of S fs).R) (end_from H S fs).last.z (hard_bit fs)
  pub zero : number16 p' 6 ≡ 0

-- c being the codeword sent: rounds within the bound, and 0 exactly where no sample is wrong
pub record FaceRecovered (H : Matrix) (S : Setting) (c : List ℕ) (fs : List Float) (r : ℕ) (w w' p p' : List ℕ) : Type 0 where
  pub begun : 0 < wrong_bits H c fs → 0 < (end_from H S fs).k
  pub soon : (end_from H S fs).k ≤ rounds_for (largest S.bits) H.gamma (wrong_bits H c fs)
  pub result : r ≡ 0
  pub word : w' ≡ over c w
  pub report : p' ≡ over (report_bytes (report 0 (end_from H S fs).k 0 (wrong_decided H S c fs))) p

-- every codeword is recovered that the samples are within the half of, where the limit leaves the rounds for it
abbrev pub FaceRule : Matrix → List ℕ → Setting → List ℕ → ℕ → List ℕ → List ℕ → List ℕ → List ℕ → List ℕ → Type 0
FaceRule H bs S xs r w w' ls p p' =
    (c : List ℕ) → face_verdict H bs S xs (length w) (length ls) (length p) ≡ accepted → SamplesWithinHalf H S c (samples_in xs)
    → rounds_for (largest S.bits) H.gamma (wrong_bits H c (samples_in xs)) ≤ S.limit → FaceRecovered H S c (samples_in xs) r w w' p p'

-- a limit of L / 2 + 1 always leaves them
abbrev pub FaceAmple : Matrix → List ℕ → Setting → List ℕ → ℕ → List ℕ → List ℕ → List ℕ → List ℕ → List ℕ → Type 0
FaceAmple H bs S xs r w w' ls p p' =
    (c : List ℕ) → face_verdict H bs S xs (length w) (length ls) (length p) ≡ accepted → SamplesWithinHalf H S c (samples_in xs)
    → largest S.bits / 2 + 1 ≤ S.limit → FaceRecovered H S c (samples_in xs) r w w' p p'
