-- Laws of the stages: each leads to one that can be read, and the run comes to its end.
--   wanted-fits     == what is wanted fits the input buffer
--   readable-next   == what is awaited next can be read
--   held_next       == and its tables are held
--   rank            == a bound on the stages that are left
--   rank_falls      == it falls with each stage
-- Assumes nothing.
use mathlib.Core.Path.{◌≡◌, refl, sym, ap, ◌∙◌}
use mathlib.Core.Bool.{Bool, true, false, cond}
use mathlib.Core.List.{List, []}
use Prim.Native.Nat.{ℕ, ◌*◌, ◌-◌, ◌≤◌, ◌<◌}
use native.Mathlib.Decide.{dec_lt}
use native.Mathlib.Omega.{arith}
use lib.Dec.{ltb}
use lib.ListN.{length, take}
use Rattle.counting.specs.Paper.Lists.{over}
use Rattle.counting.proofs.Writes.{take-over}
use Rattle.matrix.specs.Paper.Code.{Matrix}
use Rattle.matrix.specs.Paper.Check.{sizes_fit}
use Rattle.program_tables.specs.Tables.{tables_of}
use Rattle.program_tables.proofs.Tables.{tables-long}
use Rattle.quantiser_levels.specs.Paper.Samples.{Setting}
use Rattle.program_input.specs.Paper.Input.{matrix_in, setting_in}
use Rattle.program_input.specs.Paper.Opening.{Opening, refused_by, open_with, opening, opening_verdict}
use Rattle.program_input.proofs.Openings.{few, decodable}
use Rattle.program_turns.specs.Turns.{at_once, bytes_at_once, AtOnce}
use Rattle.program_turns.proofs.Turns.{many}
use Rattle.program_ends.specs.Stages.{Awaited, the_sizes, the_list, the_setting, blocks_from, nothing, wanted, Reply, opened_reply, sizes_reply}
use Rattle.program_ends.specs.Stages.{list_reply, setting_reply, blocks_reply, reply_to}
use Rattle.program_ends.specs.Replies.{Readable, TablesHeld, tables_opened, tables_after}

-- ---- the blocks that are read at once, of an accepted matrix

some-blocks : (H : Matrix) (S : Setting) (i : ℕ) → Readable (blocks_from H S i) → AtOnce H.n i (at_once H.n i)
some-blocks H S i r = many H.n i r.0.matrix.sizes.n_least r.0.matrix.sizes.n_most r.1

-- blocks are wanted before the 65,535th alone
blocks-left : (H : Matrix) (S : Setting) (i : ℕ) → Readable (blocks_from H S i) → 0 < bytes_at_once H.n i → i < 65535
blocks-left H S i r h =
    elim (dec_lt i 65535) [
      | yes l ↦ l
      | no n ↦
          let none : at_once H.n i ≡ 0 = omega (arith, (some-blocks H S i r).numbers) in
          absurd (omega (arith, ap (λ (k : ℕ). k * (4 * H.n)) none))
    ]

-- what is wanted fits the input buffer
pub wanted-fits : (a : Awaited) → Readable a → wanted a ≤ 65472
wanted-fits the_sizes r = omega arith
wanted-fits (the_list H) r = omega (arith, few H r)
wanted-fits (the_setting H) r = omega arith
wanted-fits (blocks_from H S i) r = (some-blocks H S i r).fits
wanted-fits nothing r = omega arith

-- ---- what is awaited next

by-test : {A : Type 0} (P : A → Type 0) (b : Bool) {x y : A} → (b ≡ true → P x) → (b ≡ false → P y) → P (cond b x y)
by-test P true f g = f refl
by-test P false f g = g refl

opened-readable : (H : Matrix) (S : Setting) (o : Opening) → o ≡ opening (opening_verdict H S) S → Readable (opened_reply o H).awaited
opened-readable H S (refused_by k x) e = tt
opened-readable H S (open_with T) e = (decodable H S T e refl, omega arith)

abbrev ReadableNext : Reply → Type 0
ReadableNext t = Readable t.awaited

-- what is awaited next can be read
pub readable-next : (a : Awaited) (bs : List ℕ) → Readable a → Readable (reply_to a bs).awaited
unfolding sizes_reply list_reply setting_reply blocks_reply
readable-next the_sizes bs r =
    by-test ReadableNext (ltb (length bs) 8) (λ _. tt) (λ _. by-test ReadableNext (sizes_fit (matrix_in bs [])) (λ e. e) (λ _. tt))
readable-next (the_list H) bs r = by-test ReadableNext (ltb (length bs) (2 * (H.m * H.rho))) (λ _. tt) (λ _. few H r)
readable-next (the_setting H) bs r = by-test ReadableNext (ltb (length bs) 7) (λ _. tt) (λ _. opened-readable H (setting_in bs) _ refl)
readable-next (blocks_from H S i) bs r =
    by-test Readable (ltb (length bs) (bytes_at_once H.n i)) (λ _. tt) (λ _. (r.0, (some-blocks H S i r).numbers))
readable-next nothing bs r = tt

-- ---- the tables that it needs

-- the tables that are written where the run opens are held
held-opened : (a : Awaited) (x : List ℕ) → Readable a → TablesHeld a (tables_opened a x)
held-opened the_sizes x r = tt
held-opened (the_list H) x r = tt
held-opened (the_setting H) x r = tt
held-opened (blocks_from H S i) x r =
    ap (λ (k : ℕ). take k (over (tables_of H S) x)) (sym (tables-long H S)) ∙ take-over (tables_of H S) x
held-opened nothing x r = tt

-- what is awaited next has its tables held
pub held_next : (a : Awaited) (bs x : List ℕ) → Readable a → TablesHeld a x → TablesHeld (reply_to a bs).awaited (tables_after a bs x)
unfolding sizes_reply list_reply blocks_reply
held_next the_sizes bs x r h =
    by-test (λ (t : Reply). TablesHeld t.awaited x) (ltb (length bs) 8) (λ _. tt)
    (λ _. by-test (λ (t : Reply). TablesHeld t.awaited x) (sizes_fit (matrix_in bs [])) (λ _. tt) (λ _. tt))
held_next (the_list H) bs x r h =
    by-test (λ (t : Reply). TablesHeld t.awaited x) (ltb (length bs) (2 * (H.m * H.rho))) (λ _. tt) (λ _. tt)
held_next (the_setting H) bs x r h = held-opened (setting_reply H bs).awaited x (readable-next (the_setting H) bs r)
held_next (blocks_from H S i) bs x r h = by-test (λ (a : Awaited). TablesHeld a x) (ltb (length bs) (bytes_at_once H.n i)) (λ _. tt) (λ _. h)
held_next nothing bs x r h = tt

-- ---- the run comes to its end

-- a bound on the stages that are left
abbrev pub rank : Awaited → ℕ
rank the_sizes = 65538
rank (the_list H) = 65537
rank (the_setting H) = 65536
rank (blocks_from H S i) = 65535 - i
rank nothing = 0

opened-rank : (H : Matrix) (o : Opening) → rank (opened_reply o H).awaited < 65536
opened-rank H (refused_by k x) = omega arith
opened-rank H (open_with T) = omega arith

abbrev Lower : ℕ → Reply → Type 0
Lower k t = rank t.awaited < k

-- it falls with each stage
pub rank_falls : (a : Awaited) (bs : List ℕ) → Readable a → 0 < wanted a → rank (reply_to a bs).awaited < rank a
unfolding sizes_reply list_reply setting_reply blocks_reply
rank_falls the_sizes bs r h =
    by-test (Lower 65538) (ltb (length bs) 8) (λ _. omega arith)
    (λ _. by-test (Lower 65538) (sizes_fit (matrix_in bs [])) (λ _. omega arith) (λ _. omega arith))
rank_falls (the_list H) bs r h = by-test (Lower 65537) (ltb (length bs) (2 * (H.m * H.rho))) (λ _. omega arith) (λ _. omega arith)
rank_falls (the_setting H) bs r h = by-test (Lower 65536) (ltb (length bs) 7) (λ _. omega arith)
    (λ _. opened-rank H (opening (opening_verdict H (setting_in bs)) (setting_in bs)))
rank_falls (blocks_from H S i) bs r h =
    let l = blocks-left H S i r h in
    let o = some-blocks H S i r in
    let some = o.some l in
    by-test (λ (a : Awaited). rank a < 65535 - i) (ltb (length bs) (bytes_at_once H.n i)) (λ _. omega arith) (λ _. omega (arith, some, l))
rank_falls nothing bs r h = absurd (omega arith)
