-- Laws of a matrix in blocks: where its rows stand, each loop's step, and what the parts say together.
--   yes-says, no_says               == yes is said where the statement holds, no where it does not
--   all-says                        == what `all` says of a statement about each number below a bound
--   filled-says                     == blocks of a size that is not 0 fill what has no remainder, and nothing else
--   size-most                       == they are no larger than 1,023
--   row_in, first-in                == the rows of a block row are rows of the matrix
--   place_in, first-place           == their entries stand in the list
--   short                           == the list has at most 32,736 entries
--   first-low                       == the entries of a first row are below 1,023
--   start_by, shift_by                == where the block of an entry starts, and how far behind the entry stands
--   start_is, shift_is              == what the code stores is that
--   split_done                      == what was written is the first row, split
--   shift-near, start-low           == shifts are below the block size, blocks start below 1,023
--   turned-is                       == a block's start and the turned shift are the turned entry
--   strays-most                     == there are at most as many strays as entries
--   stray-step                      == one entry more in the count
--   row-follows, row-strays         == a row without strays, and one that has some
--   follows-says                    == all rows of a block row are one statement
--   row-at-start                    == in one of the rows an entry stands at the start of its block
--   turned_apart                    == entries that ascend in all rows stand in blocks that ascend
--   follows-apart                   == so no two entries of a first row that the others follow stand in one block
--   stands-says                     == and a block row stands exactly where its rows follow
--   grid-of                         == where blocks fill the matrix and every block row stands it is a grid
--   grid-stands, grid-filled        == and a grid is that
--   says_so, says-not               == what `describes` says where the matrix is a grid, and where it is none
--   grid-says                       == so where blocks fill the matrix its block rows tell
-- Assumes nothing.
use Prim.Native.Nat.{ℕ, suc, ◌+◌, ◌*◌, ◌-◌, ◌/◌, ◌%◌, ◌≤◌, ◌<◌}
use mathlib.Core.Path.{◌≡◌, refl, sym, ap, subst, ◌∙◌}
use mathlib.Core.Bool.{Bool, true, false, not, ◌&&◌}
use mathlib.Core.List.{List}
use native.Mathlib.Nat.{zero-mul, div-eq_of_lt, div-add-mod', div-mul-le_self, mod-lt, mul-le-mul}
use native.Mathlib.Numerals.{add-one}
use native.Mathlib.Decide.{ℕ_discrete, dec_lt}
use native.Mathlib.Omega.{arith}
use borrow.Author.Tests.{eqb-true, eqb-false, eq-eqb}
use lib.Arith.{digits_lt}
use lib.Dec.{eqb}
use lib.ListN.{length}
use mir.Val.{bool_byte}
use Rattle.std.specs.Bool.{MatchBool}
use Rattle.std.specs.List.{range_with_len, AllWithin, HoldsAt}
use Rattle.std.proofs.lemmas.List.FromFn.{length-range_with_len, get_or-range_with_len}
use Rattle.counting.specs.Paper.Sum.{sum_below, unequal}
use Rattle.counting.specs.Paper.Lists.{listed, over}
use Rattle.counting.specs.Places.{at}
use Rattle.counting.proofs.Residues.{wrap-low, wrap-high}
use Rattle.counting.proofs.Searches.{never, cases, and_left, and_right, and_both}
use Rattle.counting.proofs.Sums.{byte_flag, sum-zero, sum_bound, sum-term, differ-eq, differ-le, differ-zero}
use Rattle.counting.proofs.Writes.{over-at}
use Rattle.matrix.specs.Paper.Code.{Matrix, entry}
use Rattle.matrix.specs.Paper.PlainCheck.{Accepted}
use Rattle.matrix.proofs.Ordered.{few, accepted-ordered}
use Rattle.matrix.proofs.Rows.{in_list}
use Rattle.sheet.specs.Paper.MatrixSheet.{describes}
use Rattle.sheet.specs.Parts.{Grid, first_entry, turned}
use Rattle.sheet.proofs.Described.{grid-describes, describes-grid}
use Rattle.sheet_blocks.specs.Parts.{Says, Filled, Ready, Split, Apart, Follows, Stands, Turning, strays}

-- ---- answers

-- yes where the statement holds
pub yes-says : {P : Type 0} → P → Says P true
yes-says p = record { so = λ _. p; not_so = λ e. absurd (never e) }

-- no where it does not
pub no_says : {P : Type 0} → (P → ⊥) → Says P false
no_says n = record { so = λ e. absurd (never (sym e)); not_so = λ _. n }

-- the same of a statement about each number below n, by what `all` of an iterator over these numbers says
pub all-says : {Yes No P : ℕ → Type 0} (n : ℕ) (b : Bool) → ((k : ℕ) → k < n → Yes k → P k) → ((k : ℕ) → k < n → No k → P k → ⊥)
    → MatchBool b (AllWithin Yes (range_with_len 0 n) 0 (length (range_with_len 0 n)))
    ((k : ℕ) × (k < length (range_with_len 0 n)) × HoldsAt No (range_with_len 0 n) k)
    → Says ((k : ℕ) → k < n → P k) b
all-says {Yes} n true f g h =
    yes-says
    (λ k l. f k l (subst Yes (get_or-range_with_len 0 n k 0 l ∙ omega arith) (h k 0 (omega arith) (omega (arith, length-range_with_len 0 n)))))
all-says {Yes} {No} n false f g h =
    let l : h.0 < n = omega (arith, h.1, length-range_with_len 0 n) in
    no_says (λ p. g h.0 l (subst No (get_or-range_with_len 0 n h.0 0 l ∙ omega arith) (h.2 0)) (p h.0 l))

-- ---- blocks that fill the matrix

-- what has no remainder is filled, and nothing else
whole : (n Z : ℕ) → n % Z ≡ 0 → n / Z * Z ≡ n
whole n Z e = omega (arith, div-add-mod' n Z)

rest : (n Z : ℕ) → n / Z * Z ≡ n → n % Z ≡ 0
rest n Z e = omega (arith, div-add-mod' n Z)

pub filled-says : (n m Z : ℕ) → 0 < Z → Says (Filled n m Z) (eqb (n % Z) 0 && eqb (m % Z) 0)
filled-says n m Z h =
    record {
      so = λ e.
          record {
            some = h;
            wide = whole n Z (eqb-true (n % Z) 0 (and_left (eqb (n % Z) 0) (eqb (m % Z) 0) e));
            high = whole m Z (eqb-true (m % Z) 0 (and_right (eqb (n % Z) 0) (eqb (m % Z) 0) e));
          };
      not_so = λ e f.
          never (sym (and_both (eqb (n % Z) 0) (eqb (m % Z) 0) (eq-eqb (n % Z) 0 (rest n Z f.wide)) (eq-eqb (m % Z) 0 (rest m Z f.high))) ∙ e);
    }

module _ {H : Matrix} {Z : ℕ} (y : Ready H Z) where
  -- blocks are no larger than the matrix
  pub size-most : Z ≤ 1023
  size-most =
      elim (dec_lt H.m Z) [
        | yes l ↦
            let e : H.m / Z * Z ≡ 0 = ap (λ (x : ℕ). x * Z) (div-eq_of_lt l) ∙ zero-mul Z in
            absurd (omega (arith, e, y.filled.high, y.accepted.sizes.m_least))
        | no n ↦ omega (arith, y.accepted.sizes.m_most)
      ]

  -- row i of block row r is a row of the matrix
  pub row_in : (r i : ℕ) → r < H.m / Z → i < Z → r * Z + i < H.m
  row_in r i l h = omega (arith, digits_lt {q = r} {m = H.m / Z} {r = i} {c = Z} l h, y.filled.high)

  -- so is its first row
  pub first-in : (r : ℕ) → r < H.m / Z → r * Z < H.m
  first-in r l = omega (arith, row_in r 0 l y.filled.some)

  -- its entries stand in the list
  pub place_in : (r i k : ℕ) → r < H.m / Z → i < Z → k < H.rho → (r * Z + i) * H.rho + k < length H.list
  place_in r i k l h g = in_list H y.accepted.rows (r * Z + i) k (row_in r i l h) g

  -- so do those of the first row
  pub first-place : (r k : ℕ) → r < H.m / Z → k < H.rho → r * Z * H.rho + k < length H.list
  first-place r k l g = in_list H y.accepted.rows (r * Z) k (first-in r l) g

  -- the list has at most 32,736 entries
  pub short : length H.list ≤ 32736
  short = few (accepted-ordered H y.accepted).sized

  -- the entries of the first row are below 1,023
  pub first-low : (r k : ℕ) → r < H.m / Z → k < H.rho → first_entry H Z r k < 1023
  unfolding first_entry
  first-low r k l g = omega (arith, y.accepted.rows.below (r * Z) k (first-in r l) g, y.accepted.sizes.n_most)

-- ---- the first row of a block row, split

-- where the block of an entry starts
unfoldable pub start_by : List ℕ → ℕ → ℕ → ℕ → ℕ
start_by l Z from k = at l (from + k) / Z * Z

-- how far behind the entry stands
unfoldable pub shift_by : List ℕ → ℕ → ℕ → ℕ → ℕ
shift_by l Z from k = at l (from + k) % Z

-- an entry less its remainder is where its block starts
pub start_is : (l : List ℕ) (Z from k : ℕ) → at l (from + k) - at l (from + k) % Z ≡ start_by l Z from k
unfolding start_by
start_is l Z from k = omega (arith, div-add-mod' (at l (from + k)) Z)

pub shift_is : (l : List ℕ) (Z from k : ℕ) → at l (from + k) % Z ≡ shift_by l Z from k
unfolding shift_by
shift_is l Z from k = refl

-- what was written is the first row, split
pub split_done : (H : Matrix) (Z r : ℕ) (a a₀ b b₀ : List ℕ) → a ≡ over (listed H.rho (start_by H.list Z (r * Z * H.rho))) a₀
    → b ≡ over (listed H.rho (shift_by H.list Z (r * Z * H.rho))) b₀ → Split H Z r a b
unfolding start_by shift_by first_entry entry
split_done H Z r a a₀ b b₀ e f =
    record {
      start = λ k h. over-at H.rho (start_by H.list Z (r * Z * H.rho)) a₀ a e 0 k h;
      shift = λ k h. over-at H.rho (shift_by H.list Z (r * Z * H.rho)) b₀ b f 0 k h;
    }

module _ {H : Matrix} {Z r : ℕ} {starts shifts : List ℕ} (t : Turning H Z r starts shifts) where
  -- the shifts are below the block size
  pub shift-near : (k : ℕ) → k < H.rho → at shifts k < Z
  shift-near k h = omega (arith, t.split.shift k h, mod-lt (first_entry H Z r k) t.ready.filled.some)

  -- the blocks start below 1,023
  pub start-low : (k : ℕ) → k < H.rho → at starts k < 1023
  start-low k h = omega (arith, t.split.start k h, div-mul-le_self (first_entry H Z r k) Z, first-low t.ready r k t.here h)

-- ---- the rows below, held against the first row

-- a block's start and the turned shift are the turned entry
pub turned-is : (Z e i a s t : ℕ) → a ≡ e / Z * Z → s ≡ e % Z → t ≡ (i + s) % Z → a + t ≡ turned Z e i
unfolding turned
turned-is Z e i a s t p q u = rw (p, u, q)

-- a stray counts at most 1
pub stray-le : (l : List ℕ) (rho Z r i k : ℕ) → strays l rho Z r i k ≤ 1
unfolding strays
stray-le l rho Z r i k = differ-le _ _

-- so there are at most as many as entries
pub strays-most : (l : List ℕ) (rho Z r i k : ℕ) → sum_below k (strays l rho Z r i) ≤ k
strays-most l rho Z r i k = omega (arith, sum_bound k 1 {f = strays l rho Z r i} (λ x h. stray-le l rho Z r i x))

-- one entry more in the count
pub stray-step : (l : List ℕ) (rho Z r i k c y : ℕ) → y ≡ turned Z (at l (r * Z * rho + k)) i → c ≡ sum_below k (strays l rho Z r i)
    → c + bool_byte (not (eqb (at l ((r * Z + i) * rho + k)) y)) ≡ sum_below (k + 1) (strays l rho Z r i)
unfolding sum_below strays unequal
stray-step l rho Z r i k c y e h =
    rw (add-one k, byte_flag (not (eqb (at l ((r * Z + i) * rho + k)) y)), e) (omega (arith, h))

-- row i of block row r is its first row, turned
abbrev pub FollowsAt : Matrix → ℕ → ℕ → ℕ → Type 0
FollowsAt H Z r i = (k : ℕ) → k < H.rho → entry H (r * Z + i) k ≡ turned Z (first_entry H Z r k) i

module _ (H : Matrix) (Z r i : ℕ) where
  -- a row without strays
  pub row-follows : eqb (sum_below H.rho (strays H.list H.rho Z r i)) 0 ≡ true → FollowsAt H Z r i
  unfolding strays entry first_entry
  row-follows e k g =
      differ-zero _ _ (omega (arith, eqb-true (sum_below H.rho (strays H.list H.rho Z r i)) 0 e, sum-term H.rho (strays H.list H.rho Z r i) k g))

  -- one that has some
  pub row-strays : eqb (sum_below H.rho (strays H.list H.rho Z r i)) 0 ≡ false → FollowsAt H Z r i → ⊥
  unfolding strays entry first_entry
  row-strays e all =
      eqb-false (sum_below H.rho (strays H.list H.rho Z r i)) 0 e (sum-zero H.rho (λ k g. differ-eq _ _ (all k g)))

-- all rows of a block row are one statement
pub follows-says : (H : Matrix) (Z r : ℕ) (b : Bool) → Says ((i : ℕ) → i < Z → FollowsAt H Z r i) b → Says (Follows H Z r Z) b
unfolding Follows
follows-says H Z r b s =
    record { so = λ e i k l g. s.so e i l k g; not_so = λ e f. s.not_so e (λ i l k g. f i k l g) }

-- ---- the parts together

-- in one of the rows an entry stands at the start of its block
row-at-start : (Z s : ℕ) → s < Z → (i : ℕ) × (i < Z) × ((i + s) % Z ≡ 0)
row-at-start Z s h =
    elim (ℕ_discrete s 0) [
      | yes e ↦ (0, omega arith, omega (arith, wrap-low Z (0 + s) (omega arith)))
      | no ne ↦ (Z - s, omega arith, omega (arith, wrap-high Z (Z - s + s) (omega arith) (omega arith)))
    ]

-- in that row an entry before it stands in a block before its own
turned_apart : (Z a b : ℕ) → 0 < Z → ((i : ℕ) → i < Z → turned Z a i < turned Z b i) → a / Z < b / Z
unfolding turned
turned_apart Z a b some up =
    elim (dec_lt (a / Z) (b / Z)) [
      | yes l ↦ l
      | no n ↦
          let w = row-at-start Z (b % Z) (mod-lt b some) in
          let le : b / Z * Z ≤ a / Z * Z = mul-le-mul {n₁ = b / Z} {m₁ = Z} {n₂ = a / Z} {m₂ = Z} (omega arith) (omega arith) in
          absurd (omega (arith, up w.0 w.1, w.2, le))
    ]

-- no two entries of a first row that the others follow stand in one block, as every row ascends
follows-apart : {H : Matrix} {Z : ℕ} → Ready H Z → (r : ℕ) → r < H.m / Z → Follows H Z r Z → Apart H Z r
unfolding Follows Apart
follows-apart {H} {Z} y r l f k h =
    turned_apart Z (first_entry H Z r k) (first_entry H Z r (suc k)) y.filled.some
    (λ i g. omega (arith, f i k g (omega arith), f i (suc k) g h, y.accepted.rows.ascending (r * Z + i) k (row_in y r i l g) h))

-- a block row stands exactly where its rows follow
pub stands-says : {H : Matrix} {Z r : ℕ} (b : Bool) → Ready H Z → r < H.m / Z → Says (Follows H Z r Z) b → Says (Stands H Z r) b
stands-says {r = r} b y l f =
    record { so = λ e. record { apart = follows-apart y r l (f.so e); follows = f.so e }; not_so = λ e s. f.not_so e s.follows }

-- a grid is filled by blocks, and every block row stands
pub grid-of : (H : Matrix) (Z : ℕ) → Filled H.n H.m Z → ((r : ℕ) → r < H.m / Z → Stands H Z r) → Grid H Z
unfolding Apart Follows
grid-of H Z f s =
    record {
      some = f.some;
      wide = f.wide;
      high = f.high;
      apart = λ r k l h. (s r l).apart k h;
      follows = λ r i k l h g. (s r l).follows i k h g;
    }

pub grid-stands : (H : Matrix) (Z : ℕ) → Grid H Z → (r : ℕ) → r < H.m / Z → Stands H Z r
unfolding Apart Follows
grid-stands H Z g r l = record { apart = λ k h. g.apart r k l h; follows = λ i k h q. g.follows r i k l h q }

pub grid-filled : (H : Matrix) (Z : ℕ) → Grid H Z → Filled H.n H.m Z
grid-filled H Z g = record { some = g.some; wide = g.wide; high = g.high }

-- what `describes` says where the matrix is a grid, and where it is none
pub says_so : (H : Matrix) (Z : ℕ) → Accepted H → Grid H Z → true ≡ describes H Z
says_so H Z a g = sym (grid-describes H Z a g)

pub says-not : (H : Matrix) (Z : ℕ) → (Grid H Z → ⊥) → false ≡ describes H Z
says-not H Z n = cases (describes H Z) (λ y. absurd (n (describes-grid H Z y))) (λ o. sym o)

-- so where blocks fill the matrix its block rows tell whether it is a grid
pub grid-says : (H : Matrix) (Z : ℕ) (b : Bool) → Accepted H → Filled H.n H.m Z → Says ((r : ℕ) → r < H.m / Z → Stands H Z r) b → b ≡ describes H Z
grid-says H Z true a f s = says_so H Z a (grid-of H Z f (s.so refl))
grid-says H Z false a f s = says-not H Z (λ g. s.not_so refl (grid-stands H Z g))
