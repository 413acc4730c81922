-- Laws of the pieces: after each, the run can go on, and it comes to its end.
--   lent-first   == the run begins
--   fits         == what is wanted fits the input buffer
--   lent-next    == after a piece the run can go on
--   rank-next    == and fewer stages are left
--   one_more     == a piece is one reply more
-- Assumes nothing.
use mathlib.Core.Path.{◌≡◌, sym, ap, ◌∙◌, subst}
use mathlib.Core.List.{List}
use Prim.Native.Nat.{ℕ, ◌≤◌, ◌<◌}
use native.Mathlib.Omega.{arith}
use lib.ListN.{length, take, length-take}
use Rattle.program_ends.specs.Stages.{Awaited, wanted, first_reply}
use Rattle.program_ends.specs.Replies.{Readable, TablesHeld, RepliedOver, tables_after}
use Rattle.program_ends.proofs.Stages.{wanted-fits, readable-next, held_next, rank, rank_falls}
use Rattle.program.specs.Pieces.{PieceLent, Piece, Replies, more}

-- the run begins
pub lent-first : {a : Awaited} {w e : ℕ} {l x input out₀ out : List ℕ} → RepliedOver first_reply a w e out₀ out
    → length l ≡ 32736 → length x ≡ 35809 → length input ≡ 65536 → length out ≡ 65536
    → PieceLent a w l x input out
lent-first {x = x} r f g h k =
    record {
      readable = subst Readable (sym r.reply.awaited) tt;
      want = r.reply.want ∙ ap wanted (sym r.reply.awaited);
      list = f;
      tables = g;
      held = subst (λ (a : Awaited). TablesHeld a x) (sym r.reply.awaited) tt;
      long = h;
      room = k;
    }

module _ {a : Awaited} {w : ℕ} {l x input out : List ℕ} (b : PieceLent a w l x input out) where
  -- what is wanted fits the input buffer
  pub fits : w ≤ length input
  fits = omega (arith, b.want, b.long, wanted-fits a b.readable)

  module _ {a' : Awaited} {w' e : ℕ} {l' x' input' out' : List ℕ} (p : Piece a l l' x x' input input' a' w' e out out') where
    -- the tables that are needed next are held
    held_then : TablesHeld a' x'
    held_then =
        let bs = take p.got input' in
        subst (λ (y : List ℕ). TablesHeld a' y) (sym p.advanced.tables)
        (subst (λ (c : Awaited). TablesHeld c (tables_after a bs x)) (sym p.advanced.replied.reply.awaited) (held_next a bs x b.readable b.held))

    -- after a piece the run can go on
    pub lent-next : length l' ≡ length l → length x' ≡ length x → length input' ≡ length input → length out' ≡ length out
        → PieceLent a' w' l' x' input' out'
    lent-next f g h k =
        record {
          readable = subst Readable (sym p.advanced.replied.reply.awaited) (readable-next a (take p.got input') b.readable);
          want = p.advanced.replied.reply.want ∙ ap wanted (sym p.advanced.replied.reply.awaited);
          list = f ∙ b.list;
          tables = g ∙ b.tables;
          held = held_then;
          long = h ∙ b.long;
          room = k ∙ b.room;
        }

    -- and fewer stages are left
    pub rank-next : 0 < w → rank a' < rank a
    rank-next h =
        let some : 0 < wanted a = omega (arith, b.want) in
        omega (arith, ap rank p.advanced.replied.reply.awaited, rank_falls a (take p.got input') b.readable some)

    -- a piece is one reply more
    pub one_more : {a₀ : Awaited} → Replies a₀ a → Replies a₀ a'
    one_more r =
        subst (Replies _) (sym p.advanced.replied.reply.awaited)
        (more r (take p.got input') (omega (arith, p.few, length-take p.got input')))
