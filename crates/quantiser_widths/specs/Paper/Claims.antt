-- What is promised of levels brought over and taken back. (Document 02, card 7.)
--   Narrowable ls room      == refusals 7 and 13 of taking back: what each of them asks holds
--   OverAndBack old ls back == what was brought over is taken back as the same numbers
--   BackAndOver ls old back == what was taken back is brought over as the same numbers
-- proofs/Widths.antt proves them: `accepted-narrow`, `narrow-accepted`, `over-and-back`, `back-and-over`. Assumes nothing.
use Rattle.std.specs.Prelude.{ℕ, ◌≤◌, ◌<◌, ◌≡◌, List, ℤ, pos, nat_abs, length, get_or, take}
use Rattle.counting.specs.Paper.Lists.{over}
use Rattle.answers.specs.Paper.Answers.{Verdict, accepted}
use Rattle.quantiser_widths.specs.Paper.Widths.{most_old, narrow_verdict, Widened, Narrowed}

-- taking back is accepted exactly then
pub record Narrowable (ls : List ℤ) (room : ℕ) : Type 0 where
  pub few : length ls ≤ 65536
  pub fits : length ls ≤ room
  pub within : (j : ℕ) → j < length ls → nat_abs (get_or ls j (pos 0)) ≤ most_old

-- old levels from -127 to 127 are brought over into ls, which becomes ls', and the first of these are taken back into `back`, which becomes
-- back': neither call is refused, and the old numbers stand there
abbrev pub OverAndBack : Type 0
OverAndBack =
    (old ls ls' back back' : List ℤ) (v u : Verdict) → Narrowable old (length back) → length old ≤ length ls
    → Widened old v ls ls' → Narrowed (take (length old) ls') u back back'
    → (v ≡ accepted) × (u ≡ accepted) × (back' ≡ over old back)

-- and the other way: levels that are taken back and then brought over are the same numbers
abbrev pub BackAndOver : Type 0
BackAndOver =
    (ls old old' back back' : List ℤ) (v u : Verdict) → narrow_verdict ls (length old) ≡ accepted → length ls ≤ length back
    → Narrowed ls v old old' → Widened (take (length ls) old') u back back'
    → (u ≡ accepted) × (back' ≡ over ls back)
