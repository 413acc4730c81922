-- The replies of the run, from the first byte on, are what is to be printed for the whole input.
--   run-prints   == the heading and the replies to the pieces are `printed`
-- Assumes nothing.
use mathlib.Core.Path.{◌≡◌, refl, sym, ap, ◌∙◌}
use mathlib.Core.Bool.{Bool, true, false, cond}
use mathlib.Core.List.{List, [], ◌++◌, append-nil}
use Prim.Native.Nat.{ℕ, zero, suc, ◌+◌, ◌*◌, ◌-◌, ◌≤◌, ◌<◌}
use native.Mathlib.Nat.{zero-mul, zero-div, zero-mod}
use native.Mathlib.Decide.{dec_lt}
use native.Mathlib.Omega.{arith}
use borrow.Author.Tests.{lt-ltb, le-ltb, le-leb, lt-leb}
use lib.Dec.{ltb}
use lib.ListN.{length, take, drop, length-take, length-drop}
use lib.Seq.{get_or-take, drop-drop}
use Rattle.byte_numbers.specs.Paper.Numbers.{number16, number32, float, entries_in}
use Rattle.matrix.specs.Paper.Code.{Matrix}
use Rattle.matrix.specs.Paper.Check.{sizes_fit}
use Rattle.quantiser_levels.specs.Paper.Samples.{Setting}
use Rattle.program_text.specs.Paper.Output.{heading, short_text, refused_text}
use Rattle.program_input.specs.Paper.Input.{matrix_in, setting_in}
use Rattle.program_input.specs.Paper.Opening.{Opening, refused_by, open_with, opening, opening_verdict, Decodable}
use Rattle.program_input.proofs.Openings.{decodable}
use Rattle.program_lines.specs.Paper.Blocks.{block_lines, chunk_text}
use Rattle.program_turns.specs.Turns.{at_once, bytes_at_once}
use Rattle.program_ends.specs.Stages.{Awaited, the_sizes, the_list, the_setting, blocks_from, nothing, wanted, with_list, ends, goes_on, sizes_reply}
use Rattle.program_ends.specs.Stages.{list_reply, opened_reply, setting_reply, blocks_reply, reply_to}
use Rattle.program.specs.Paper.Program.{blocks_text, begun, listed_in, rest_text, sized_text, printed}
use Rattle.program.specs.Pieces.{pieces_text}
use Rattle.program.specs.Turns.{turns_text}
use Rattle.program.proofs.Turns.{program-prints}

-- ---- the front of what is left

-- as many bytes came as are wanted exactly where so many are left
came : (w : ℕ) (bs : List ℕ) → ltb (length (take w bs)) w ≡ ltb (length bs) w
came w bs =
    elim (dec_lt (length bs) w) [
      | yes l ↦ lt-ltb (length (take w bs)) w (omega (arith, length-take w bs)) ∙ sym (lt-ltb (length bs) w l)
      | no n ↦ le-ltb (length (take w bs)) w (omega (arith, length-take w bs)) ∙ sym (le-ltb (length bs) w (omega arith))
    ]

number16-front : (w p : ℕ) (bs : List ℕ) → p + 1 < w → number16 (take w bs) p ≡ number16 bs p
unfolding number16
number16-front w p bs h = rw (get_or-take w bs p 0 (omega arith), get_or-take w bs (p + 1) 0 h)

matrix-front : (bs list : List ℕ) → matrix_in (take 8 bs) list ≡ matrix_in bs list
unfolding matrix_in
matrix-front bs list =
    rw (number16-front 8 0 bs (omega arith), number16-front 8 2 bs (omega arith), number16-front 8 4 bs (omega arith), number16-front 8 6 bs (omega arith))

float-front : (bs : List ℕ) → float (take 7 bs) 3 ≡ float bs 3
unfolding float number32
float-front bs = rw (number16-front 7 3 bs (omega arith), number16-front 7 5 bs (omega arith))

setting-front : (bs : List ℕ) → setting_in (take 7 bs) ≡ setting_in bs
unfolding setting_in
setting-front bs =
    rw (get_or-take 7 bs 0 0 (omega arith), get_or-take 7 bs 1 0 (omega arith), get_or-take 7 bs 2 0 (omega arith), float-front bs)

-- the bytes after the sizes, a list of c bytes and the setting
after-setting : (bs : List ℕ) (c : ℕ) → drop 7 (drop c (drop 8 bs)) ≡ drop (15 + c) bs
after-setting bs c =
    let e : 8 + c + 7 ≡ 15 + c = omega arith in
    ap (λ (l : List ℕ). drop 7 l) (drop-drop c 8 bs) ∙ drop-drop 7 (8 + c) bs ∙ ap (λ (k : ℕ). drop k bs) e

-- the list and the setting are whole where so many bytes are there
both-whole : (n c : ℕ) (x y : List ℕ) → cond (ltb (n - 8) c) x (cond (ltb (n - (8 + c)) 7) x y) ≡ cond (ltb n (15 + c)) x y
both-whole n c x y =
    elim (dec_lt (n - 8) c) [
      | yes l ↦ rw (lt-ltb (n - 8) c l, lt-ltb n (15 + c) (omega arith))
      | no m ↦
          elim (dec_lt n (15 + c)) [
            | yes l ↦ rw (le-ltb (n - 8) c (omega arith), lt-ltb (n - (8 + c)) 7 (omega arith), lt-ltb n (15 + c) l)
            | no k ↦ rw (le-ltb (n - 8) c (omega arith), le-ltb (n - (8 + c)) 7 (omega arith), le-ltb n (15 + c) (omega arith))
          ]
    ]

-- ---- the run goes on, and ends

-- one reply, and those after it
next-text : (t : ℕ) (a : Awaited) (bs : List ℕ)
    → pieces_text (suc t) a bs ≡ (reply_to a (take (wanted a) bs)).text ++ pieces_text t (reply_to a (take (wanted a) bs)).awaited (drop (wanted a) bs)
unfolding pieces_text
next-text t a bs = refl

-- nothing more is said where nothing is awaited
nothing-more : (t : ℕ) (bs : List ℕ) → pieces_text t nothing bs ≡ []
unfolding pieces_text
nothing-more zero bs = refl
nothing-more (suc t) bs = nothing-more t (drop 0 bs)

ends_with : (t : ℕ) (x bs : List ℕ) → x ++ pieces_text t nothing bs ≡ x
ends_with t x bs = ap (λ (y : List ℕ). x ++ y) (nothing-more t bs) ∙ append-nil x

-- ---- the blocks

module _ (H : Matrix) (S : Setting) where
  -- no bytes are no blocks
  no_blocks : (i : ℕ) → chunk_text H S i [] ≡ []
  unfolding chunk_text block_lines
  no_blocks i = rw (zero-div (4 * H.n), zero-mod (4 * H.n))

  -- from the 65,535th on nothing is wanted and nothing said
  none_left : (t i : ℕ) (bs : List ℕ) → 65535 ≤ i → pieces_text t (blocks_from H S i) bs ≡ []
  unfolding pieces_text blocks_reply at_once
  none_left zero i bs h = refl
  none_left (suc t) i bs h =
      let none : at_once H.n i ≡ 0 = omega arith in
      rw (none, zero-mul (4 * H.n)) (rw (no_blocks i) (none_left t (i + 0) bs (omega arith)))

  blocks-turn : (t i : ℕ) (bs : List ℕ) → pieces_text t (blocks_from H S i) bs ≡ turns_text H S (at_once H.n) t i bs
  unfolding pieces_text turns_text blocks_reply
  blocks-turn zero i bs = refl
  blocks-turn (suc t) i bs =
      elim (dec_lt i 65535) [
        | no n ↦ rw (le-leb 65535 i (omega arith)) (none_left (suc t) i bs (omega arith))
        | yes l ↦
            let w : ℕ = bytes_at_once H.n i in
            elim (dec_lt (length bs) w) [
              | yes c ↦
                  rw (lt-leb 65535 i l, came w bs, lt-ltb (length bs) w c)
                  (ap (λ (x : List ℕ). chunk_text H S i (take w bs) ++ x) (nothing-more t (drop w bs)))
              | no g ↦
                  rw (lt-leb 65535 i l, came w bs, le-ltb (length bs) w (omega arith))
                  (ap (λ (x : List ℕ). chunk_text H S i (take w bs) ++ x) (blocks-turn t (i + at_once H.n i) (drop w bs)))
            ]
      ]

-- ---- the setting, and what follows it

-- t turns are enough for all blocks
module _ (t : ℕ) (enough : (H : Matrix) (T : Setting) (bs : List ℕ) → Decodable H T → pieces_text t (blocks_from H T 0) bs ≡ blocks_text H T bs) where
  opened-text : (H : Matrix) (S : Setting) (o : Opening) → o ≡ opening (opening_verdict H S) S → (bs : List ℕ)
      → (opened_reply o H).text ++ pieces_text t (opened_reply o H).awaited bs ≡ begun o H bs
  opened-text H S (refused_by k x) e bs = ends_with t (refused_text k x) bs
  opened-text H S (open_with T) e bs = enough H T bs (decodable H S T e refl)

  setting-text : (H : Matrix) (bs : List ℕ)
      → pieces_text (suc t) (the_setting H) bs
      ≡ cond (ltb (length bs) 7) short_text (begun (opening (opening_verdict H (setting_in bs)) (setting_in bs)) H (drop 7 bs))
  unfolding pieces_text setting_reply
  setting-text H bs =
      elim (dec_lt (length bs) 7) [
        | yes l ↦ rw (came 7 bs, lt-ltb (length bs) 7 l) (ends_with t short_text (drop 7 bs))
        | no n ↦
            rw (came 7 bs, le-ltb (length bs) 7 (omega arith), setting-front bs)
            (opened-text H (setting_in bs) (opening (opening_verdict H (setting_in bs)) (setting_in bs)) refl (drop 7 bs))
      ]

  -- ---- the list

  -- the list is whole, or the run ends
  list-text : (H : Matrix) (c : ℕ) (bs : List ℕ) → c ≡ wanted (the_list H)
      → pieces_text (suc (suc t)) (the_list H) bs
      ≡ cond (ltb (length bs) c) short_text (pieces_text (suc t) (the_setting (with_list H (entries_in (take c bs)))) (drop c bs))
  unfolding list_reply
  list-text H c bs e =
      next-text (suc t) (the_list H) bs
      ∙ rw (sym e, came c bs)
      (elim (dec_lt (length bs) c) [
        | yes l ↦ rw (lt-ltb (length bs) c l) (ends_with (suc t) short_text (drop c bs))
        | no n ↦ rw (le-ltb (length bs) c (omega arith))
      ])

  -- what follows sizes in range
  rest-text : (bs : List ℕ) (c : ℕ) → c ≡ wanted (the_list (matrix_in bs []))
      → pieces_text (suc (suc t)) (the_list (matrix_in bs [])) (drop 8 bs) ≡ rest_text bs c
  unfolding rest_text matrix_in
  rest-text bs c e =
      list-text (matrix_in bs []) c (drop 8 bs) e
      ∙ ap (λ (x : List ℕ). cond (ltb (length (drop 8 bs)) c) short_text x) (setting-text (listed_in bs c) (drop c (drop 8 bs)))
      ∙ rw (after-setting bs c, drop-drop c 8 bs, length-drop 8 bs, length-drop (8 + c) bs) (both-whole (length bs) c short_text _)

  -- ---- the sizes

  fit-text : (bs : List ℕ) (b : Bool) → sizes_fit (matrix_in bs []) ≡ b → (c : ℕ) → c ≡ wanted (the_list (matrix_in bs []))
      → (cond b (goes_on (the_list (matrix_in bs []))) (ends (refused_text 1 0))).text
      ++ pieces_text (suc (suc t)) (cond b (goes_on (the_list (matrix_in bs []))) (ends (refused_text 1 0))).awaited (drop 8 bs)
      ≡ cond b (rest_text bs c) (refused_text 1 0)
  fit-text bs true e c q = rest-text bs c q
  fit-text bs false e c q = ends_with (suc (suc t)) (refused_text 1 0) (drop 8 bs)

  sizes-text : (bs : List ℕ) → pieces_text (suc (suc (suc t))) the_sizes bs ≡ cond (ltb (length bs) 8) short_text (sized_text bs (matrix_in bs []))
  unfolding sizes_reply sized_text
  sizes-text bs =
      next-text (suc (suc t)) the_sizes bs
      ∙ rw (came 8 bs, matrix-front bs [])
      (elim (dec_lt (length bs) 8) [
        | yes l ↦ rw (lt-ltb (length bs) 8 l) (ends_with (suc (suc t)) short_text (drop 8 bs))
        | no n ↦ rw (le-ltb (length bs) 8 (omega arith)) (fit-text bs (sizes_fit (matrix_in bs [])) refl (2 * ((matrix_in bs []).m * (matrix_in bs []).rho)) refl)
      ])

-- 65,535 turns are enough, and three replies come before them
pub run-prints : (bs : List ℕ) → heading ++ pieces_text (suc (suc (suc 65535))) the_sizes bs ≡ printed bs
unfolding printed
run-prints bs =
    ap (λ (x : List ℕ). heading ++ x)
    (sizes-text 65535 (λ H T l d. blocks-turn H T 65535 0 l ∙ program-prints H T l d) bs)
