-- Laws of the replies: the text of a reply, and the reply to the bytes that came.
--   text-alone                              == a text put at the front of the buffer is all that stands before its end
--   text-within                             == a text put at the front of the buffer ends within it
--   text-rest                               == the bytes from its end on stay
--   replied-as                              == an equal reply
--   replied-over                            == a reply whose text was put over a buffer
--   sizes-short, sizes-refused, sizes-fit   == the reply to the sizes
--   list-short, list-whole                  == the reply to the list
--   kept-short, written-whole               == and the array of the list
--   setting-short, setting-whole            == the reply to the setting
--   reply                                   == a reply by its text and what is awaited next
--   blocks_last, blocks_more                == what is awaited after blocks
--   tables-front                            == the tables at the front of their array
--   opened-reply                            == a run that begins, by what was found
--   opened-tables                           == and the array of the tables
--   asked-at, replied-at                    == a stage by its case
--   countable                               == the blocks that came may be printed
-- Assumes nothing.
use mathlib.Core.Path.{◌≡◌, sym, ap, ◌∙◌}
use mathlib.Core.Bool.{true, false}
use mathlib.Core.List.{List, []}
use Prim.Native.Nat.{ℕ, suc, ◌+◌, ◌*◌, ◌≤◌, ◌<◌}
use native.Mathlib.Nat.{suc-mul, div-lt_iff_lt-mul}
use native.Mathlib.Omega.{arith}
use borrow.Author.Tests.{lt-ltb, le-ltb}
use lib.ListN.{length, take, drop}
use Rattle.counting.specs.Paper.Lists.{over}
use Rattle.byte_numbers.specs.Paper.Numbers.{entries_in}
use Rattle.matrix.specs.Paper.Code.{Matrix}
use Rattle.matrix.specs.Paper.Check.{sizes_fit}
use Rattle.matrix_sets.proofs.Sets.{sets-cells}
use Rattle.program_tables.specs.Tables.{tables_of, tables_size}
use Rattle.quantiser_levels.specs.Paper.Samples.{Setting}
use Rattle.program_numerals.specs.Texts.{PutWithin}
use Rattle.program_numerals.proofs.Puts.{put_front, put-length, put_rest}
use Rattle.program_text.specs.Paper.Output.{short_text, refused_text}
use Rattle.program_input.specs.Paper.Input.{matrix_in, setting_in}
use Rattle.program_input.specs.Paper.Opening.{Opening, opening, opening_verdict, Decodable}
use Rattle.program_lines.specs.Paper.Blocks.{blocks_in, chunk_text}
use Rattle.program_lines.specs.Loans.{Countable}
use Rattle.program_turns.specs.Turns.{at_once, bytes_at_once, AtOnce}
use Rattle.program_ends.specs.Stages.{Awaited, the_list, the_setting, blocks_from, with_list, Reply, ends, goes_on, opened_reply, sizes_reply}
use Rattle.program_ends.specs.Stages.{list_reply, setting_reply, blocks_reply, reply_to}
use Rattle.program_ends.specs.Replies.{awaited_of, Asked, Replied, RepliedOver, list_after, tables_opened, tables_after, Advanced}
use Rattle.program_ends.specs.declared.Stage.{Stage}

-- ---- the text of a reply

-- all that stands before the end of a text at the front
pub text-alone : {k end : ℕ} {text old new : List ℕ} → PutWithin k text 0 old new end → k ≤ length old → take end new ≡ text
text-alone p few = put_front (omega (arith, p.within, p.put.ends)) p.put

-- which ends within the buffer
pub text-within : {k end : ℕ} {text old new : List ℕ} → PutWithin k text 0 old new end → k ≤ length old → end ≤ length new
text-within p few = omega (arith, p.within, put-length p.put)

-- the bytes from its end on stay
pub text-rest : {k end : ℕ} {text old new : List ℕ} → PutWithin k text 0 old new end → k ≤ length old → drop end new ≡ drop end old
text-rest p few = put_rest (omega (arith, p.within, p.put.ends)) p.put

-- an equal reply
pub replied-as : {r t : Reply} {a : Awaited} {w e : ℕ} {out : List ℕ} → r ≡ t → Replied r a w e out → Replied t a w e out
replied-as q p = rw q at p

-- a reply whose text was put over a buffer
pub replied-over : {k end e : ℕ} {text old new : List ℕ} {r t : Reply} {a : Awaited} {w : ℕ} → PutWithin k text 0 old new end → k ≤ length old → e ≡ end
    → r ≡ t → Replied r a w e new → RepliedOver t a w e old new
replied-over {old = old} {new = new} p few same q h =
    record { reply = replied-as q h; rest = rw same (text-rest p few) }

-- ---- the reply to the sizes

module _ (bs : List ℕ) where
  -- the reply to the sizes
  pub sizes-short : length bs < 8 → ends short_text ≡ sizes_reply bs
  unfolding sizes_reply
  sizes-short h = rw (lt-ltb (length bs) 8 h)

  pub sizes-refused : 8 ≤ length bs → sizes_fit (matrix_in bs []) ≡ false → ends (refused_text 1 0) ≡ sizes_reply bs
  unfolding sizes_reply
  sizes-refused h e = rw (le-ltb (length bs) 8 h, e)

  pub sizes-fit : 8 ≤ length bs → sizes_fit (matrix_in bs []) ≡ true → goes_on (the_list (matrix_in bs [])) ≡ sizes_reply bs
  unfolding sizes_reply
  sizes-fit h e = rw (le-ltb (length bs) 8 h, e)

-- ---- to the list and the setting

module _ (H : Matrix) (bs : List ℕ) where
  -- the reply to the list
  pub list-short : length bs < 2 * (H.m * H.rho) → ends short_text ≡ list_reply H bs
  unfolding list_reply
  list-short h = rw (lt-ltb (length bs) (2 * (H.m * H.rho)) h)

  pub list-whole : 2 * (H.m * H.rho) ≤ length bs → goes_on (the_setting (with_list H (entries_in bs))) ≡ list_reply H bs
  unfolding list_reply
  list-whole h = rw (le-ltb (length bs) (2 * (H.m * H.rho)) h)

  -- and the array of the list
  pub kept-short : (l : List ℕ) → length bs < 2 * (H.m * H.rho) → l ≡ list_after (the_list H) bs l
  kept-short l h = rw (lt-ltb (length bs) (2 * (H.m * H.rho)) h)

  pub written-whole : (l : List ℕ) → 2 * (H.m * H.rho) ≤ length bs → over (entries_in bs) l ≡ list_after (the_list H) bs l
  written-whole l h = rw (le-ltb (length bs) (2 * (H.m * H.rho)) h)

  -- the reply to the setting
  pub setting-short : length bs < 7 → ends short_text ≡ setting_reply H bs
  unfolding setting_reply
  setting-short h = rw (lt-ltb (length bs) 7 h)

  pub setting-whole : 7 ≤ length bs → opened_reply (opening (opening_verdict H (setting_in bs)) (setting_in bs)) H ≡ setting_reply H bs
  unfolding setting_reply
  setting-whole h = rw (le-ltb (length bs) 7 h)

-- ---- to blocks

-- a reply by its text and what is awaited next
abbrev pub reply : List ℕ → Awaited → Reply
reply t a = record { text = t; awaited = a }

module _ (H : Matrix) (S : Setting) (i : ℕ) (bs : List ℕ) where
  -- what is awaited after blocks
  pub blocks_last : length bs < bytes_at_once H.n i → ends (chunk_text H S i bs) ≡ blocks_reply H S i bs
  unfolding blocks_reply
  blocks_last h = rw (lt-ltb (length bs) (bytes_at_once H.n i) h)

  pub blocks_more : bytes_at_once H.n i ≤ length bs
      → reply (chunk_text H S i bs) (blocks_from H S (i + at_once H.n i)) ≡ blocks_reply H S i bs
  unfolding blocks_reply
  blocks_more h = rw (le-ltb (length bs) (bytes_at_once H.n i) h)

-- ---- what is read

-- the tables at the front of their array
pub tables-front : (H : Matrix) (S : Setting) (x : List ℕ) → take (tables_size H) x ≡ tables_of H S
    → take (2050 + (17 * H.n + 16 * H.m)) x ≡ tables_of H S
unfolding tables_size
tables-front H S x h = rw (sets-cells H) at h

-- a run that begins, by what was found
pub opened-reply : (H : Matrix) {o p : Opening} → o ≡ p → {q : Opening} → o ≡ q → opened_reply q H ≡ opened_reply p H
opened-reply H e q = ap (λ (x : Opening). opened_reply x H) (sym q ∙ e)

-- and the array of the tables
pub opened-tables : (H : Matrix) (bs x : List ℕ) {t : Reply} → t ≡ setting_reply H bs → tables_opened t.awaited x ≡ tables_after (the_setting H) bs x
opened-tables H bs x e = ap (λ (r : Reply). tables_opened r.awaited x) e

-- the blocks that came may be printed
pub countable : (H : Matrix) (S : Setting) {i k : ℕ} {bs out : List ℕ} → Decodable H S → AtOnce H.n i k → length bs ≤ k * (4 * H.n)
    → length out ≡ 65536 → Countable H S i bs 0 out
countable H S {i} {k} {bs} d o h e =
    let some : 0 < 4 * H.n = omega (arith, d.matrix.sizes.n_least) in
    let few : blocks_in H bs < suc k = (div-lt_iff_lt-mul some).1 (rw (suc-mul k (4 * H.n)) (omega (arith, some))) in
    record { decodable = d; numbers = omega (arith, few, o.numbers); room = omega (arith, few, o.few, e) }

-- ---- a stage by its case

module _ {s t : Stage} (e : s ≡ t) (l x bs : List ℕ) {out : List ℕ} where
  -- a stage by its case
  pub asked-at : Asked (awaited_of s l) l x bs out → Asked (awaited_of t l) l x bs out
  asked-at p = rw e at p

  pub replied-at : {l' x' out' : List ℕ} {a : Awaited} {w k : ℕ} → RepliedOver (reply_to (awaited_of t l) bs) a w k out out'
      → l' ≡ list_after (awaited_of t l) bs l → x' ≡ tables_after (awaited_of t l) bs x → Advanced (awaited_of s l) bs l l' x x' a w k out out'
  replied-at p q h = rw e (record { replied = p; list = q; tables = h })
