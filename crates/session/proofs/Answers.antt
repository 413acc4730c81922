-- What opening and a step leave: the record, the word and the counts of an accepted one, and the whole call.
--   step-lent                        == an accepted step lends its round what that asks
--   word-long                        == the word that the round leaves has all bytes of the code
--   step-leaves                      == the record and the report made of a round's counts are the step's
--   leaves-stepped, leaves-refused   == the whole step, accepted and refused
--   from-leaves                      == the record and the report made of the counts are the opening's from a start state
--   open-fillable, cells-word        == an accepted opening on samples may fill the levels; the cells filled are a word
--   open-leaves                      == the record and the report made of the counts are the opening's on samples
--   leaves-opened, leaves-unopened   == the whole opening, accepted and refused
-- Assumes nothing.
use mathlib.Core.Path.{◌≡◌, refl, sym, ap, ◌∙◌}
use mathlib.Core.Bool.{Bool}
use mathlib.Core.List.{List}
use Prim.Native.Nat.{ℕ, ◌+◌, ◌≤◌, ◌<◌}
use native.Mathlib.Numerals.{add-one}
use native.Mathlib.Omega.{arith}
use lib.IntN.{ℤ}
use lib.Ieee.{Float, nan}
use lib.ListN.{length, get_or}
use Rattle.std.proofs.Common.{Result}
use Rattle.answers.specs.declared.Report.{Report}
use Rattle.answers.specs.declared.Refusal.{Refusal}
use Rattle.counting.specs.Paper.Lists.{listed, over}
use Rattle.counting.specs.Places.{at}
use Rattle.counting.proofs.Writes.{length_over}
use Rattle.answers.specs.Paper.Answers.{accepted, refused, refusal, report}
use Rattle.answers.specs.Paper.Enums.{said_of}
use Rattle.packed_word.specs.Paper.Packed.{bit_at, bytes_for, pack}
use Rattle.packed_word.proofs.Packed.{length-pack, pack-cong}
use Rattle.matrix.specs.Paper.Code.{Matrix, Word, failing}
use Rattle.matrix.specs.Paper.PlainCheck.{Rows}
use Rattle.matrix.proofs.Rows.{failing-cong}
use Rattle.quantiser_levels.specs.Paper.Samples.{Setting, largest, level_of, levels_of, hard_bit}
use Rattle.quantiser.specs.Buffers.{Fillable, Filled}
use Rattle.quantiser_settings.proofs.Ranges.{reads-fits, largest-most}
use Rattle.iterative_rounds.specs.Paper.Rounds.{State}
use Rattle.iterative_changed.specs.Paper.Changed.{decided_in, changed, level_at}
use Rattle.iterative_changed.proofs.Changes.{changed-cong, changed-self}
use Rattle.iterative_core.specs.Paper.Iterative.{start_of}
use Rattle.session_record.specs.Paper.Record.{Course, course_in, record_for, state_after, outcome_in}
use Rattle.session_record.specs.Paper.Sessions.{record_of}
use Rattle.session_asking.specs.Paper.Asked.{Held, open_verdict, step_verdict}
use Rattle.session_asking.specs.Paper.PlainCalls.{Openable, Steppable}
use Rattle.session.specs.Paper.Steps.{course_for, opened_from, opened_left, open_of, stepped_state, stepped_left, step_of}
use Rattle.session.specs.RoundParts.{RoundLent, RoundLeft}
use Rattle.session.specs.Paper.Call.{Leaves}
use Rattle.session_record.specs.declared.Session.{Session}
use Rattle.session_asking.proofs.Questions.{finite-first}
use Rattle.session.proofs.Kept.{refused-open-keeps, refused-step-keeps, accepted-opens, accepted-steps, start-bits, round-bits}
use Rattle.session.proofs.Buffers.{bits_back}

-- ---- an accepted step

module _ (H : Matrix) (w : List ℕ) (o : List ℤ) (h : Held) (s : Steppable H w o h) where
  -- what the round asks
  pub step-lent : (L : ℕ) → L ≡ largest h.rec.bits → RoundLent H L h.word h.levels
  step-lent L e =
      record {
        matrix = s.matrix;
        largest = omega (arith, largest-most h.rec.bits s.usable.most);
        bytes = s.bytes;
        room = s.room;
        within = λ j l. omega (arith, s.within j l);
      }

  module _ (L f : ℕ) (word' : List ℕ) (levels' : List ℤ) (e : L ≡ largest h.rec.bits) (t : RoundLeft H L h.word word' h.levels levels' f) where
    word-is : word' ≡ over (pack H.n (stepped_state H h).z) h.word
    word-is = rw e at t.packed

    -- the new word still has all bytes of the code
    pub word-long : bytes_for H.n ≤ length word'
    word-long =
        let z : ℕ → ℕ = (stepped_state H h).z in
        omega (arith, s.bytes, ap length word-is, length_over (pack H.n z) h.word (omega (arith, s.bytes, length-pack H.n z)))

    -- its bits are those of the round
    bits_are : (j : ℕ) → j < H.n → bit_at word' j ≡ (stepped_state H h).z j
    bits_are j l =
        ap (λ (x : List ℕ). bit_at x j) word-is
        ∙ bits_back H.n (stepped_state H h).z (λ i m. round-bits H _ _ i) h.word j l

    -- the record and the report that are made of the counts
    pub step-leaves : (n-changed : ℕ) (answer : Result Report Refusal) (session : Session)
        → n-changed ≡ changed H.n (decided_in (level_at o)) (bit_at word') (bit_at w)
        → record_of session ≡ record_for H (state_after f (course_in h.rec) (h.rec.k + 1)) (course_in h.rec) (h.rec.k + 1)
        → said_of answer ≡ report (outcome_in (state_after f (course_in h.rec) (h.rec.k + 1))) (h.rec.k + 1) f n-changed
        → Leaves (stepped_left H w o h) answer session word' levels'
    step-leaves n-changed answer session d r a =
        let fails : f ≡ failing H (stepped_state H h).z = rw e at t.fails in
        let c : n-changed ≡ changed H.n (decided_in (level_at o)) (stepped_state H h).z (bit_at w) =
        d ∙ changed-cong H.n (λ j l. refl) bits_are (λ j l. refl) in
        record {
          says = a ∙ rw (add-one h.rec.k, fails, c);
          rec = r ∙ rw (add-one h.rec.k, fails);
          word = word-is;
          levels = rw e at t.stored;
        }

-- ---- a step as a whole

module _ (H : Matrix) (w : List ℕ) (o : List ℤ) (h : Held) (answer : Result Report Refusal) (session : Session) where
  -- the whole step, accepted and refused
  pub leaves-stepped : (word' : List ℕ) (levels' : List ℤ) → step_verdict H w o h ≡ accepted → Leaves (stepped_left H w o h) answer session word' levels'
      → Leaves (step_of H w o h) answer session word' levels'
  leaves-stepped word' levels' e l = rw (accepted-steps H w o h e) l

  pub leaves-refused : (k x : ℕ) → step_verdict H w o h ≡ refused k x → said_of answer ≡ refusal k x → record_of session ≡ h.rec
      → Leaves (step_of H w o h) answer session h.word h.levels
  leaves-refused k x e a r =
      rw (refused-step-keeps H w o h k x e) (record { says = a; rec = r; word = refl; levels = refl })

-- ---- an accepted opening

-- from a start state: the cells are its word, the buffers are written from it, and its word is the received one
module _ (H : Matrix) (rows : Rows H) (counts : ℕ → Bool) (s : State) (r : ℕ → ℕ) (h : Held) (cells word' : List ℕ) (levels' : List ℤ)
    (same : (j : ℕ) → j < H.n → at cells j ≡ s.z j) (none : 0 ≡ changed H.n counts s.z r)
    (w : word' ≡ over (pack H.n (at cells)) h.word) (l : levels' ≡ over (listed H.n s.R) h.levels) where
  -- the record and the report that are made of the count
  pub from-leaves : (course : Course) (f : ℕ) (answer : Result Report Refusal) (session : Session) → f ≡ failing H (at cells)
      → record_of session ≡ record_for H (state_after f course 0) course 0
      → said_of answer ≡ report (outcome_in (state_after f course 0)) 0 f 0 → Leaves (opened_from H course counts s r h) answer session word' levels'
  from-leaves course f answer session e d a =
      let fails : f ≡ failing H s.z = e ∙ failing-cong H rows (at cells) s.z same in
      record {
        says = a ∙ rw (fails, none);
        rec = d ∙ rw fails;
        word = w ∙ ap (λ (x : List ℕ). over x h.word) (pack-cong H.n (at cells) s.z same);
        levels = l;
      }

-- on samples
module _ (H : Matrix) (S : Setting) (xs : List Float) (h : Held) (o : Openable H S xs h) where
  -- what filling asks
  pub open-fillable : Fillable S xs h.levels
  open-fillable =
      record {
        setting = reads-fits S o.setting;
        each_finite = finite-first xs o.finite_all;
        few = omega (arith, o.samples, o.matrix.sizes.n_most);
        room = omega (arith, o.samples, o.room);
      }

  module _ (levels' : List ℤ) (zeros cells : List ℕ) (q : Filled S xs h.levels levels' zeros cells) where
    -- the cells are the hard bits
    cells_are : (j : ℕ) → j < H.n → at cells j ≡ (start_of S xs).z j
    unfolding start_of
    cells_are j l = q.each j (omega (arith, o.samples))

    -- the cells filled are a word
    pub cells-word : Word H (at cells)
    unfolding Word
    cells-word j l = omega (arith, cells_are j l, start-bits S xs j)

    levels-are : levels' ≡ over (listed H.n (start_of S xs).R) h.levels
    unfolding levels_of start_of
    levels-are = q.levels ∙ ap (λ (n : ℕ). over (listed n (λ j. level_of S (get_or xs j nan))) h.levels) o.samples

    -- whatever places count
    none-changed : 0 ≡ changed H.n (decided_in (start_of S xs).R) (start_of S xs).z (hard_bit xs)
    unfolding start_of
    none-changed = sym (changed-self H.n (decided_in (start_of S xs).R) (hard_bit xs))

    -- the record and the report made of the counts are the opening's on samples
    pub open-leaves : (f : ℕ) (word' : List ℕ) (answer : Result Report Refusal) (session : Session) → word' ≡ over (pack H.n (at cells)) h.word
        → f ≡ failing H (at cells)
        → record_of session ≡ record_for H (state_after f (course_for S) 0) (course_for S) 0
        → said_of answer ≡ report (outcome_in (state_after f (course_for S) 0)) 0 f 0 → Leaves (opened_left H S xs h) answer session word' levels'
    open-leaves f word' answer session w e r a =
        from-leaves H o.matrix.rows (decided_in (start_of S xs).R) (start_of S xs) (hard_bit xs) h cells word' levels' cells_are none-changed w levels-are
        (course_for S) f answer session e r a

-- ---- an opening as a whole

module _ (H : Matrix) (S : Setting) (xs : List Float) (h : Held) (answer : Result Report Refusal) (session : Session) where
  -- the whole opening, accepted and refused
  pub leaves-opened : (word' : List ℕ) (levels' : List ℤ) → open_verdict H S xs h ≡ accepted → Leaves (opened_left H S xs h) answer session word' levels'
      → Leaves (open_of H S xs h) answer session word' levels'
  leaves-opened word' levels' e l = rw (accepted-opens H S xs h e) l

  pub leaves-unopened : (k x : ℕ) → open_verdict H S xs h ≡ refused k x → said_of answer ≡ refusal k x → record_of session ≡ h.rec
      → Leaves (open_of H S xs h) answer session h.word h.levels
  leaves-unopened k x e a r =
      rw (refused-open-keeps H S xs h k x e) (record { says = a; rec = r; word = refl; levels = refl })
