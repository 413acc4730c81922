-- What the exported calls answer and write.
--   QuantisedAs S ..     == what `mlgd_quantise` answers and writes
--   DecodedAs H S ..     == what `mlgd_iterative` answers and writes
--   DecodedByIndex H x S ..   == what `mlgd_iterative_indexed` answers and writes
--   left_by t l h        == l where the test t passes, else refusal 7 with h kept
--   on_record c l h      == what a call leaves that is lent the cells c: l, or refusal 7 where they are not as many as a record's
--   CalledAs l ..        == the answer and every lent cell after a call are those of l
-- Assumes nothing.
use Rattle.std.specs.Prelude.{ℕ, ◌≡◌, Bool, true, false, List, eqb, ℤ, Float, length}
use Rattle.answers.specs.Paper.Answers.{refusal, acceptance, after, written}
use Rattle.matrix.specs.Paper.Code.{Matrix}
use Rattle.quantiser_levels.specs.Paper.Samples.{Setting, quantise_verdict, levels_of, hard_word}
use Rattle.iterative_core.specs.Paper.Iterative.{iterative_verdict, iterative_of, iterative_word, iterative_levels}
use Rattle.iterative_indexed.specs.Paper.Call.{iterative_indexed_verdict, iterative_indexed_of}
use Rattle.session_asking.specs.Paper.Asked.{Held}
use Rattle.session.specs.Paper.Steps.{Left}
use Rattle.ffi_codes.specs.Codes.{code_of}
use Rattle.ffi_codes.specs.Records.{record_cells, cells_of, written_by}

-- the quantiser: the code, the levels and the word, refused calls too
pub record QuantisedAs (S : Setting) (xs : List Float) (r : ℕ) (ls ls' : List ℤ) (w w' : List ℕ) : Type 0 where
  pub answer : r ≡ code_of (after (quantise_verdict S xs (length ls) (length w)) acceptance)
  pub levels : ls' ≡ written (quantise_verdict S xs (length ls) (length w)) (levels_of S xs) ls
  pub word : w' ≡ written (quantise_verdict S xs (length ls) (length w)) (hard_word xs) w

-- iterative voting: the code, the word and the levels, refused calls too
pub record DecodedAs (H : Matrix) (S : Setting) (xs : List Float) (r : ℕ) (w w' : List ℕ) (ls ls' : List ℤ) : Type 0 where
  pub answer : r ≡ code_of (iterative_of H S xs (length w) (length ls))
  pub word : w' ≡ written (iterative_verdict H S xs (length w) (length ls)) (iterative_word H S xs) w
  pub levels : ls' ≡ written (iterative_verdict H S xs (length w) (length ls)) (iterative_levels H S xs) ls

-- iterative voting by matrix and index: the same
pub record DecodedByIndex (H : Matrix) (x : List ℕ) (S : Setting) (xs : List Float) (r : ℕ) (w w' : List ℕ) (ls ls' : List ℤ) : Type 0 where
  pub answer : r ≡ code_of (iterative_indexed_of H x S xs (length w) (length ls))
  pub word : w' ≡ written (iterative_indexed_verdict H x S xs (length w) (length ls)) (iterative_word H S xs) w
  pub levels : ls' ≡ written (iterative_indexed_verdict H x S xs (length w) (length ls)) (iterative_levels H S xs) ls

-- another number of cells than a record's is refused as 7 before anything else is asked
abbrev pub left_by : Bool → Left → Held → Left
left_by true l h = l
left_by false l h = record { said = refusal 7 0; held = h }

abbrev pub on_record : List ℕ → Left → Held → Left
on_record c l h = left_by (eqb (length c) record_cells) l h

pub record CalledAs (l : Left) (r : ℕ) (cells cells' word' : List ℕ) (levels' : List ℤ) : Type 0 where
  pub answer : r ≡ code_of l.said
  pub rec : cells' ≡ written_by l.said (cells_of l.held.rec) cells
  pub word : word' ≡ l.held.word
  pub levels : levels' ≡ l.held.levels
