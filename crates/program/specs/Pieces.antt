-- The run as it reads its input: piece by piece.
--   pieces_text t a bs                  == the texts of t replies from a on, each to the front of what is left of the input
--   PieceLent a w l x input out         == the run awaits a, which wants w bytes, its buffers are long enough, and the tables are held
--   Piece a l l' x x' input input' ..   == the front of `input'` came for a; a' is awaited then, and the reply's text stands before e in `out'`
--   Replies a b                         == from a on, replies to pieces of input lead to b
--   RunDone a b                         == they do, and b wants nothing more
--   BrokenPiece a l l' x x' ..          == an error came as the piece for a was read or its reply printed: what is left of the buffers
--   Pieces a l x input out b l' x' ..   == pieces lead from a to b, and the buffers from l, x, input, out to l', x', input', out'
--   BrokenRun a l l' x x' ..            == from a on, pieces lead to one that broke off: what is left of the buffers
-- Assumes nothing.
use Rattle.std.specs.Prelude.{ℕ, zero, suc, ◌≤◌, ◌≡◌, List, [], ◌++◌, length, take, drop}
use Rattle.program_ends.specs.Stages.{Awaited, wanted, reply_to}
use Rattle.program_ends.specs.Replies.{Readable, TablesHeld, Advanced}

-- a reply gets the bytes that it wants, or all that are left
unfoldable pub pieces_text : ℕ → Awaited → List ℕ → List ℕ
pieces_text zero a bs = []
pieces_text (suc t) a bs =
    (reply_to a (take (wanted a) bs)).text ++ pieces_text t (reply_to a (take (wanted a) bs)).awaited (drop (wanted a) bs)

pub record PieceLent (a : Awaited) (w : ℕ) (l x input out : List ℕ) : Type 0 where
  pub readable : Readable a
  pub want : w ≡ wanted a
  pub list : length l ≡ 32736
  pub tables : length x ≡ 35809
  pub held : TablesHeld a x
  pub long : length input ≡ 65536
  pub room : length out ≡ 65536

-- no more came than is wanted; what is awaited then can be read; of each buffer the other cells stay
pub record Piece (a : Awaited) (l l' x x' input input' : List ℕ) (a' : Awaited) (w e : ℕ) (out out' : List ℕ) : Type 0 where
  pub got : ℕ
  pub few : got ≤ wanted a
  pub unread : drop (wanted a) input' ≡ drop (wanted a) input
  pub advanced : Advanced a (take got input') l l' x x' a' w e out out'

-- each piece is no longer than what is wanted
pub data Replies (a : Awaited) : Awaited → Type 0 where
  none : Replies a a
  more : {b : Awaited} → Replies a b → (bs : List ℕ) → length bs ≤ wanted b → Replies a (reply_to b bs).awaited

-- the run is at its end
pub record RunDone (a b : Awaited) : Type 0 where
  pub replies : Replies a b
  pub done : wanted b ≡ 0

-- where reading failed, all stays but the front of the input; where printing failed, the buffers are as a whole piece leaves them
pub data BrokenPiece (a : Awaited) (l l' x x' input input' out out' : List ℕ) : Type 0 where
  not_read : drop (wanted a) input' ≡ drop (wanted a) input → l' ≡ l → x' ≡ x → out' ≡ out → BrokenPiece a l l' x x' input input' out out'
  not_printed : {a' : Awaited} {w e : ℕ} → Piece a l l' x x' input input' a' w e out out' → BrokenPiece a l l' x x' input input' out out'

-- pieces, one after the other: each finds the buffers as the one before it left them
pub data Pieces (a : Awaited) (l x input out : List ℕ) : Awaited → List ℕ → List ℕ → List ℕ → List ℕ → Type 0 where
  no_piece : Pieces a l x input out a l x input out
  piece_more : {b b' : Awaited} {l₁ l₂ x₁ x₂ input₁ input₂ out₁ out₂ : List ℕ} {w e : ℕ} → Pieces a l x input out b l₁ x₁ input₁ out₁
      → Piece b l₁ l₂ x₁ x₂ input₁ input₂ b' w e out₁ out₂ → Pieces a l x input out b' l₂ x₂ input₂ out₂

-- whole pieces, and then the broken one, which finds the buffers as they left them
pub record BrokenRun (a : Awaited) (l l' x x' input input' out out' : List ℕ) : Type 0 where
  pub reached : Awaited
  pub list : List ℕ
  pub tables : List ℕ
  pub bytes : List ℕ
  pub text : List ℕ
  pub whole : Pieces a l x input out reached list tables bytes text
  pub broken : BrokenPiece reached list l' tables x' bytes input' text out'
