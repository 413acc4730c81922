-- Sessions across the exported functions: room for the answer, the setting's stand-in, and the cells of a record.
--   open-small, step_small   == what opening and a step say has room in its code
--   open-alike               == a setting that stands for another opens alike
--   called                   == what a call leaves, by what the turn says and leaves
--   on-record                == lent as many cells as a record's, the call is the one on that record
--   no_record                == any other number of cells is refused as 7
-- Assumes nothing.
use mathlib.Core.Path.{◌≡◌, refl, sym, ap, ap₂, subst, ◌∙◌}
use mathlib.Core.Bool.{Bool}
use mathlib.Core.List.{List}
use Prim.Native.Nat.{ℕ, suc, ◌<◌}
use native.Mathlib.Omega.{arith}
use lib.IntN.{ℤ}
use lib.Ieee.{Float}
use lib.ListN.{length}
use borrow.Author.Tests.{eq-eqb, ne_eqb}
use Rattle.std.proofs.Common.{Result}
use Rattle.answers.specs.declared.Report.{Report}
use Rattle.answers.specs.declared.Refusal.{Refusal}
use Rattle.counting.proofs.Searches.{cases}
use Rattle.answers.specs.Paper.Answers.{Verdict, accepted, refused, Said, and_then}
use Rattle.answers.specs.Paper.Enums.{said_of}
use Rattle.packed_word.specs.Paper.Packed.{bit_at}
use Rattle.matrix.specs.Paper.Code.{Matrix}
use Rattle.matrix.specs.Paper.Check.{check_of}
use Rattle.matrix.specs.Paper.PlainCheck.{Accepted}
use Rattle.quantiser_levels.specs.Paper.Samples.{Setting, setting_fits, hard_bit}
use Rattle.iterative_changed.specs.Paper.Changed.{decided_in, level_at}
use Rattle.iterative_changed.proofs.Changes.{changed-le}
use Rattle.iterative_core.specs.Paper.Iterative.{start_of}
use Rattle.session_record.specs.Paper.Record.{Course, Record, course_in}
use Rattle.session_asking.specs.Paper.Asked.{Held, open_verdict, step_verdict}
use Rattle.session.specs.Paper.Steps.{Left, course_for, says_at, open_of, stepped_state, step_of}
use Rattle.session_record.specs.Paper.Sessions.{record_of}
use Rattle.session.specs.Paper.Call.{Leaves}
use Rattle.session_record.specs.declared.Session.{Session}
use Rattle.session_asking.proofs.Questions.{accepted-open, accepted-step}
use Rattle.session.proofs.Kept.{refused-open-keeps, refused-step-keeps, accepted-opens, accepted-steps}
use Rattle.ffi_codes.specs.Codes.{code_of, Small}
use Rattle.ffi_codes.specs.Records.{record_cells, cells_of, written_by}
use Rattle.ffi_codes.specs.Settings.{StandsFor}
use Rattle.ffi.specs.Calls.{left_by, on_record, CalledAs}
use Rattle.matrix.proofs.Rows.{failing-le}
use Rattle.ffi.proofs.Alike.{unfit-verdict}

-- a verdict accepts or refuses
verdict-cases {ℓ} : {A : Type ℓ} (v : Verdict) → (v ≡ accepted → A) → ((k x : ℕ) → v ≡ refused k x → A) → A
verdict-cases accepted f g = f refl
verdict-cases (refused k x) f g = g k x refl

-- the answer of an accepted call, whichever places count
says-small : (H : Matrix) → Accepted H → (course : Course) (k : ℕ) (counts : ℕ → Bool) (r z : ℕ → ℕ) → k < 256 → Small (says_at H course k counts r z)
says-small H a course k counts r z h =
    record {
      rounds = h;
      failing = omega (arith, failing-le H z, a.sizes.m_most);
      changed = omega (arith, changed-le H.n counts z r, a.sizes.n_most);
    }

-- what opening and a step say has room in its code
pub open-small : (H : Matrix) (S : Setting) (xs : List Float) (h : Held) → Small (open_of H S xs h).said
open-small H S xs h =
    verdict-cases (open_verdict H S xs h)
    (λ e. subst (λ (l : Left). Small l.said) (sym (accepted-opens H S xs h e))
    (says-small H (accepted-open H S xs h e).matrix (course_for S) 0 (decided_in (start_of S xs).R) (hard_bit xs) (start_of S xs).z (omega arith)))
    (λ k x e. subst (λ (l : Left). Small l.said) (sym (refused-open-keeps H S xs h k x e)) tt)

pub step_small : (H : Matrix) (w : List ℕ) (o : List ℤ) (h : Held) → Small (step_of H w o h).said
step_small H w o h =
    verdict-cases (step_verdict H w o h)
    (λ e. subst (λ (l : Left). Small l.said) (sym (accepted-steps H w o h e))
    (let p = accepted-step H w o h e in
    says-small H p.matrix (course_in h.rec) (suc h.rec.k) (decided_in (level_at o)) (bit_at w) (stepped_state H h).z
    (omega (arith, p.usable.limit, p.usable.left))))
    (λ k x e. subst (λ (l : Left). Small l.said) (sym (refused-step-keeps H w o h k x e)) tt)

-- a refusal by 6 is a refusal
six : (v : Verdict) → (k : ℕ) × (x : ℕ) × (and_then v (refused 6 0) ≡ refused k x)
six accepted = (6, 0, refl)
six (refused k x) = (k, x, refl)

-- a setting that stands for another opens alike
pub open-alike : (H : Matrix) (S T : Setting) → StandsFor S T → (xs : List Float) (h : Held) → open_of H T xs h ≡ open_of H S xs h
unfolding open_verdict
open-alike H S T st xs h =
    cases (setting_fits S) (λ y. ap (λ (X : Setting). open_of H X xs h) (st.same y))
    (λ n.
    let f = six (check_of H) in
    let v_t = unfit-verdict H T xs (length h.word) (length h.levels) (st.fits ∙ n) ∙ f.2 in
    let v_s = unfit-verdict H S xs (length h.word) (length h.levels) n ∙ f.2 in
    refused-open-keeps H T xs h f.0 f.1 v_t ∙ sym (refused-open-keeps H S xs h f.0 f.1 v_s))

-- what is left, by what a turn says and leaves
pub called : (l : Left) (a : Result Report Refusal) (s : Session) (r : ℕ) (cells cells' word' : List ℕ) (levels' : List ℤ) → Leaves l a s word' levels'
    → r ≡ code_of (said_of a) → cells' ≡ written_by (said_of a) (cells_of (record_of s)) cells → CalledAs l r cells cells' word' levels'
called l a s r cells cells' word' levels' v e c =
    record {
      answer = e ∙ ap code_of v.says;
      rec = c ∙ ap₂ (λ (x : Said) (y : Record). written_by x (cells_of y) cells) v.says v.rec;
      word = v.word;
      levels = v.levels;
    }

-- as many cells as a record's are a record
pub on-record : (l : Left) (h : Held) (r : ℕ) (cells cells' word' : List ℕ) (levels' : List ℤ) → length cells ≡ record_cells
    → CalledAs l r cells cells' word' levels'
    → CalledAs (on_record cells l h) r cells cells' word' levels'
on-record l h r cells cells' word' levels' e c =
    subst (λ (b : Bool). CalledAs (left_by b l h) r cells cells' word' levels') (sym (eq-eqb (length cells) record_cells e)) c

-- any other number of cells is refused as 7
pub no_record : (l : Left) (h : Held) (cells : List ℕ) → (length cells ≡ record_cells → ⊥)
    → CalledAs (on_record cells l h) 458752 cells cells h.word h.levels
no_record l h cells ne =
    subst (λ (b : Bool). CalledAs (left_by b l h) 458752 cells cells h.word h.levels) (sym (ne_eqb (length cells) record_cells ne))
    (record { answer = refl; rec = refl; word = refl; levels = refl })
