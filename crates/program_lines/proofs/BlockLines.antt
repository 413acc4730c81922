-- Laws of the lines of blocks: line after line, and the end of a chunk.
--   Lined H S i bs at old next rest new end   == the lines of the blocks before number `next` are put, and `rest` follows them in the bytes
--   lined-none                                == no line is put yet
--   counted                                   == the next block is one of the whole blocks
--   lined-asks                                == its line may be put
--   lined-more                                == once it is put there is one line more
--   lined-all                                 == where less than a block is left all lines are put
--   chunk_whole, chunk-cut                    == the text of a chunk that ends with a block, and of one that does not
--   chunk-ends                                == the text of a chunk ends in the buffer
-- Assumes nothing.
use mathlib.Core.Path.{◌≡◌, refl, sym, ap, ◌∙◌}
use mathlib.Core.List.{List, ◌++◌, append-nil}
use Prim.Native.Nat.{ℕ, suc, ◌+◌, ◌*◌, ◌-◌, ◌/◌, ◌%◌, ◌≤◌, ◌<◌}
use native.Mathlib.Nat.{zero-mul, suc-mul, le-div_iff_mul-le, div-lt_iff_lt-mul}
use native.Mathlib.Numerals.{add-one}
use native.Mathlib.Omega.{arith}
use borrow.Author.Tests.{eq-eqb, ne_eqb}
use lib.ListN.{length, take, drop, length-drop, length-append}
use lib.Seq.{take-append_seam, drop-append_seam, drop-drop}
use Rattle.matrix.specs.Paper.Code.{Matrix}
use Rattle.quantiser_levels.specs.Paper.Samples.{Setting}
use Rattle.program_text.specs.Paper.Output.{short_text}
use Rattle.program_numerals.specs.Texts.{PutWithin}
use Rattle.program_numerals.proofs.Puts.{put-none, put_then, put_as, put-length}
use Rattle.program_block.specs.Loans.{Printable}
use Rattle.program_block.specs.Paper.Block.{block_line}
use Rattle.program_lines.specs.Loans.{Countable}
use Rattle.program_lines.specs.Paper.Blocks.{blocks_in, block_at, block_lines, chunk_text}

-- ---- counting blocks of d bytes

module _ (d len k : ℕ) (some : 0 < d) where
  -- one more block fits
  counts-more : k * d + d ≤ len → k + 1 ≤ len / d
  counts-more h = (le-div_iff_mul-le some).1 (rw (add-one k, suc-mul k d) h)

  -- no more block fits
  counts_all : k * d ≤ len → len < k * d + d → k ≡ len / d
  counts_all h l =
      let low : k ≤ len / d = (le-div_iff_mul-le some).1 h in
      let high : len / d < suc k = (div-lt_iff_lt-mul some).1 (rw (suc-mul k d) l) in
      omega arith

module _ (H : Matrix) (S : Setting) where
  -- ---- line after line

  module _ (i : ℕ) (bs : List ℕ) (at : ℕ) (old : List ℕ) where
    -- the lines of the first k blocks are put, the next block has the number `next`, and `rest` is what follows
    pub record Lined (next : ℕ) (rest new : List ℕ) (end : ℕ) : Type 0 where
      pub k : ℕ
      pub numbered : next ≡ i + k
      pub left : rest ≡ drop (k * (4 * H.n)) bs
      pub inside : k * (4 * H.n) ≤ length bs
      pub put : PutWithin (289 * k) (block_lines H S i k bs) at old new end

    -- no line
    pub lined-none : {rest : List ℕ} → rest ≡ bs → Lined i rest old at
    unfolding block_lines
    lined-none e =
        record {
          k = 0;
          numbered = omega arith;
          left = rw (zero-mul (4 * H.n)) e;
          inside = rw (zero-mul (4 * H.n)) (omega arith);
          put = record { put = put-none at old; within = omega arith };
        }

    module _ (c : Countable H S i bs at old) {next end : ℕ} {rest new : List ℕ} (l : Lined next rest new end) where
      some : 0 < 4 * H.n
      some = omega (arith, c.decodable.matrix.sizes.n_least)

      long : length rest ≡ length bs - l.k * (4 * H.n)
      long = ap length l.left ∙ length-drop (l.k * (4 * H.n)) bs

      -- another block is there
      module _ (x rest' : List ℕ) (e : rest ≡ x ++ rest') (h : length x ≡ 4 * H.n) where
        whole : length rest ≡ 4 * H.n + length rest'
        whole = ap length e ∙ length-append x rest' ∙ ap (λ (k : ℕ). k + length rest') h

        -- the next block is one of the whole blocks
        pub counted : next + 1 ≤ i + blocks_in H bs
        counted = omega (arith, l.numbered, counts-more (4 * H.n) (length bs) l.k some (omega (arith, long, whole, l.inside, some)))

        part : x ≡ block_at H bs l.k
        unfolding block_at
        part =
            sym (take-append_seam x rest') ∙ ap (λ (k : ℕ). take k (x ++ rest')) h
            ∙ ap (take (4 * H.n)) (sym e ∙ l.left)

        -- its line may be put
        pub lined-asks : Printable H S x end new
        lined-asks =
            record {
              decodable = c.decodable;
              bytes = h;
              room = omega (arith, c.room, counted, l.numbered, l.put.within, put-length l.put.put);
            }

        -- and then there is one line more
        pub lined-more : {new' : List ℕ} {end' : ℕ} → PutWithin 289 (block_line H S next x) end new new' end' → Lined (next + 1) rest' new' end'
        unfolding block_lines
        lined-more p =
            record {
              k = l.k + 1;
              numbered = omega (arith, l.numbered);
              left =
                  sym (drop-append_seam x rest') ∙ ap (λ (k : ℕ). drop k (x ++ rest')) h ∙ ap (drop (4 * H.n)) (sym e ∙ l.left)
                  ∙ drop-drop (4 * H.n) (l.k * (4 * H.n)) bs ∙ ap (λ (k : ℕ). drop k bs) (sym step);
              inside = rw step (omega (arith, long, whole, l.inside, some));
              put = record {
                put = put_as (rw (part, add-one l.k, l.numbered)) (put_then l.put.put p.put);
                within = omega (arith, l.put.within, p.within);
              };
            }
          where
            step : (l.k + 1) * (4 * H.n) ≡ l.k * (4 * H.n) + 4 * H.n
            step = rw (add-one l.k, suc-mul l.k (4 * H.n)) refl

      -- all lines
      pub lined-all : length rest < 4 * H.n → PutWithin (289 * (blocks_in H bs)) (block_lines H S i (blocks_in H bs) bs) at old new end
      lined-all h =
          let e : l.k ≡ blocks_in H bs = counts_all (4 * H.n) (length bs) l.k some l.inside (omega (arith, long, h, l.inside)) in
          rw e at l.put

    -- ---- the end of a chunk

    -- it ends with a block
    pub chunk_whole : {end : ℕ} {new : List ℕ} → length bs % (4 * H.n) ≡ 0
        → PutWithin (289 * blocks_in H bs) (block_lines H S i (blocks_in H bs) bs) at old new end
        → PutWithin (289 * blocks_in H bs + 6) (chunk_text H S i bs) at old new end
    unfolding chunk_text
    chunk_whole e p = record { put = put_as (rw (eq-eqb (length bs % (4 * H.n)) 0 e) (sym (append-nil _))) p.put; within = omega (arith, p.within) }

    -- it does not
    pub chunk-cut : {next end : ℕ} {mid new : List ℕ} → (length bs % (4 * H.n) ≡ 0 → ⊥)
        → PutWithin (289 * blocks_in H bs) (block_lines H S i (blocks_in H bs) bs) at old mid next → PutWithin 6 short_text next mid new end
        → PutWithin (289 * blocks_in H bs + 6) (chunk_text H S i bs) at old new end
    unfolding chunk_text
    chunk-cut ne p q =
        record { put = put_as (rw (ne_eqb (length bs % (4 * H.n)) 0 ne)) (put_then p.put q.put); within = omega (arith, p.within, q.within) }

    -- either way it ends in the buffer
    pub chunk-ends : {end : ℕ} {new : List ℕ} → Countable H S i bs at old → PutWithin (289 * (blocks_in H bs) + 6) (chunk_text H S i bs) at old new end
        → end ≤ length new
    chunk-ends c p = omega (arith, c.room, p.within, put-length p.put)
