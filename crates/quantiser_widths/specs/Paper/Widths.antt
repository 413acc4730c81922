-- Old stored levels, of eight bits, brought over to those of sixteen, and taken back. (Document 02, card 7; refusals 7 and 13.)
--   widen_verdict old room  == what bringing over asks: 7
--   Widened old v ls ls'    == its answer v, and the levels ls become ls'
--   most_old                == the largest level that is taken back
--   too_far ls j, first_too_far ls   == level j does not lie within -127 to 127; the first such place
--   narrow_verdict ls room  == what taking back asks: 7, 13
--   Narrowed ls v old old'  == its answer v, and the old levels become old'
-- Levels are numbers here, of whatever width they are stored: "each level the same number". Assumes nothing.
use Rattle.std.specs.Prelude.{ℕ, ◌≡◌, Bool, ◌||◌, List, ltb, ℤ, pos, nat_abs, length, get_or}
use Rattle.counting.specs.Paper.Search.{first}
use Rattle.answers.specs.Paper.Answers.{Verdict, accepted, refuse_when, refuse_at, written}

-- "a written buffer shorter than needed"
unfoldable pub widen_verdict : List ℤ → ℕ → Verdict
widen_verdict old room = refuse_when 7 (ltb room (length old)) accepted

-- "Old stored levels can be brought over .. each level the same number"; a refused call writes nothing, further cells stay
pub record Widened (old : List ℤ) (said : Verdict) (ls ls' : List ℤ) : Type 0 where
  pub answer : said ≡ widen_verdict old (length ls)
  pub levels : ls' ≡ written (widen_verdict old (length ls)) old ls

-- "where they lie within −127 to 127": L of eight bits
abbrev pub most_old : ℕ
most_old = 127

-- "a level that doesn't fit when taken back", and the first such place
unfoldable pub too_far : List ℤ → ℕ → Bool
too_far ls j = ltb most_old (nat_abs (get_or ls j (pos 0)))

abbrev pub first_too_far : List ℤ → ℕ
first_too_far ls = first (too_far ls) (length ls)

-- "new refusal 13 .. has its first index as place and follows 7"; a place has 16 bits, so that more than 65,536 levels are 7 too
unfoldable pub narrow_verdict : List ℤ → ℕ → Verdict
narrow_verdict ls room =
    refuse_when 7 (ltb 65536 (length ls) || ltb room (length ls)) (refuse_at 13 (first_too_far ls) (length ls) accepted)

-- "taken back, each level the same number"; a refused call writes nothing, further cells stay
pub record Narrowed (ls : List ℤ) (said : Verdict) (old old' : List ℤ) : Type 0 where
  pub answer : said ≡ narrow_verdict ls (length old)
  pub levels : old' ≡ written (narrow_verdict ls (length old)) ls old
