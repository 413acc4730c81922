-- What the parts that write a sheet's list ask and leave.
--   shift_from bs p k          == the k-th shift from the p-th on
--   turned_at ss ts z i k      == the k-th entry of row i, by the columns ss at which the blocks start and their shifts ts
--   put_from p w f l           == l with f 0 .. f (w - 1) written from place p on
--   put_rows p w f z l         == l with the rows f 0 .. f (z - 1) of w entries written one after the other from place p on
--   SheetLent bs h rho         == a sheet of sizes that the list can have, its heading and its row weight
--   Starts bs r c ss           == ss has the columns at which the set ones among the first c blocks of block row r start
--   Blocks ss ts w z           == w starting columns of blocks of size z and their shifts, all within 1,023 columns
-- Assumes nothing.
use Rattle.std.specs.Prelude.{ℕ, zero, suc, ◌+◌, ◌*◌, ◌%◌, ◌≤◌, ◌<◌, ◌≡◌, List, length, set}
use Rattle.counting.specs.Paper.Sum.{sum_below}
use Rattle.counting.specs.Paper.Joined.{chosen}
use Rattle.counting.specs.Places.{at}
use Rattle.sheet.specs.Paper.Sheet.{block_size, set_at, set_in, shift_at}
use Rattle.sheet.specs.Paper.PlainSheet.{IsSheet}
use Rattle.sheet_bytes.specs.declared.Heading.{Heading}
use Rattle.sheet_bytes.specs.Parts.{Headed}

-- the shifts from the p-th on
unfoldable pub shift_from : List ℕ → ℕ → ℕ → ℕ
shift_from bs p k = shift_at bs (p + k)

-- row i of shifted blocks
unfoldable pub turned_at : List ℕ → List ℕ → ℕ → ℕ → ℕ → ℕ
turned_at ss ts z i k = at ss k + (i + at ts k) % z

-- w values from place p on
unfoldable pub put_from : ℕ → ℕ → (ℕ → ℕ) → List ℕ → List ℕ
put_from p zero f l = l
put_from p (suc k) f l = set (put_from p k f l) (p + k) (f k)

-- rows of w values from place p on
unfoldable pub put_rows : ℕ → ℕ → (ℕ → ℕ → ℕ) → ℕ → List ℕ → List ℕ
put_rows p w f zero l = l
put_rows p w f (suc i) l = put_from (p + i * w) w (f i) (put_rows p w f i l)

-- a sheet whose list is asked for
pub record SheetLent (bs : List ℕ) (h : Heading) (rho : ℕ) : Type 0 where
  pub sheet : IsSheet bs
  pub headed : Headed bs h
  pub row : rho ≡ set_in bs 0
  pub few : rho ≤ 32
  pub wide : h.columns * h.size ≤ 1023
  pub high : h.rows * h.size ≤ 1023

-- the set places before block column c, each as its starting column
pub record Starts (bs : List ℕ) (r c : ℕ) (ss : List ℕ) : Type 0 where
  pub long : length ss ≡ 33
  pub each : (q : ℕ) → q < sum_below c (set_at bs r) → at ss q ≡ at (chosen c (set_at bs r)) q * block_size bs

-- no entry leaves 1,023
pub record Blocks (ss ts : List ℕ) (w z : ℕ) : Type 0 where
  pub few : w ≤ 32
  pub small : z ≤ 1023
  pub start : (k : ℕ) → k < w → at ss k + z ≤ 1023
  pub shift : (k : ℕ) → k < w → at ts k < z
