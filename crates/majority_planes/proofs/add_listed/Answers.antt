-- `majority_planes::add_listed`: word w of eight listed sets.
use Prim.Native.Nat.{◌+◌}
use native.Mathlib.Omega.{arith}
use Rattle.majority_planes.proofs.Counts.{set_at, eight-listed}
use Rattle.majority_planes.proofs.add_listed.Goals as goal

pub word_of-requires : goal.word_of-requires
word_of-requires c =
    let s = c in
    set_at s.args.sets.now s.args.rows.now (s.args.q + 8) s.args.q s.args.w s.requires.2 (omega arith) s.requires.0 s.requires.1

pub word_of-requires-2 : goal.word_of-requires-2
word_of-requires-2 c =
    let s = c in
    set_at s.args.sets.now s.args.rows.now (s.args.q + 8) (s.args.q + 1) s.args.w s.requires.2 (omega arith) s.requires.0 s.requires.1

pub word_of-requires-3 : goal.word_of-requires-3
word_of-requires-3 c =
    let s = c in
    set_at s.args.sets.now s.args.rows.now (s.args.q + 8) (s.args.q + 2) s.args.w s.requires.2 (omega arith) s.requires.0 s.requires.1

pub word_of-requires-4 : goal.word_of-requires-4
word_of-requires-4 c =
    let s = c in
    set_at s.args.sets.now s.args.rows.now (s.args.q + 8) (s.args.q + 3) s.args.w s.requires.2 (omega arith) s.requires.0 s.requires.1

pub word_of-requires-5 : goal.word_of-requires-5
word_of-requires-5 c =
    let s = c in
    set_at s.args.sets.now s.args.rows.now (s.args.q + 8) (s.args.q + 4) s.args.w s.requires.2 (omega arith) s.requires.0 s.requires.1

pub word_of-requires-6 : goal.word_of-requires-6
word_of-requires-6 c =
    let s = c in
    set_at s.args.sets.now s.args.rows.now (s.args.q + 8) (s.args.q + 5) s.args.w s.requires.2 (omega arith) s.requires.0 s.requires.1

pub word_of-requires-7 : goal.word_of-requires-7
word_of-requires-7 c =
    let s = c in
    set_at s.args.sets.now s.args.rows.now (s.args.q + 8) (s.args.q + 6) s.args.w s.requires.2 (omega arith) s.requires.0 s.requires.1

pub word_of-requires-8 : goal.word_of-requires-8
word_of-requires-8 c =
    let s = c in
    set_at s.args.sets.now s.args.rows.now (s.args.q + 8) (s.args.q + 7) s.args.w s.requires.2 (omega arith) s.requires.0 s.requires.1

pub returns : goal.returns
returns c =
    eight-listed _ _ _ _ _ _ _ _ _ _ _ _
    record {
      w0 = c.word_of.ensures;
      w1 = c.word_of-2.ensures;
      w2 = c.word_of-3.ensures;
      w3 = c.word_of-4.ensures;
      w4 = c.word_of-5.ensures;
      w5 = c.word_of-6.ensures;
      w6 = c.word_of-7.ensures;
      w7 = c.word_of-8.ensures;
    }
    _ _ c.add_eight.ensures
