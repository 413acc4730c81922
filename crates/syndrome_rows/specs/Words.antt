-- The ones of a word of sixty-four bits, listed.
--   ones_over x first t d l       == l with the places below d at which x has a one written over it from t on, each with `first` added
--   OnesListed x first t l l' t'  == l' is that for all places of the word, and t' the place behind them
--   OnesFit x first t l           == they have room: no more stand before t than `first`, and no one of x is numbered past 1022
-- Assumes nothing.
use Rattle.std.specs.Prelude.{◌≡◌, cond, List, ℕ, zero, suc, ◌+◌, ◌<◌, ◌≤◌, eqb, length, set}
use Rattle.counting.specs.Digits.{binary_digit}
use Rattle.counting.specs.Paper.Sum.{sum_below}

-- the lowest place first, each behind the ones below it
unfoldable pub ones_over : ℕ → ℕ → ℕ → ℕ → List ℕ → List ℕ
ones_over x first t zero l = l
ones_over x first t (suc d) l =
    cond (eqb (binary_digit x d) 1) (set (ones_over x first t d l) (t + sum_below d (binary_digit x)) (first + d)) (ones_over x first t d l)

pub record OnesListed (x first t : ℕ) (l l' : List ℕ) (t' : ℕ) : Type 0 where
  pub cells : l' ≡ ones_over x first t 64 l
  pub behind : t' ≡ t + sum_below 64 (binary_digit x)

pub record OnesFit (x first t : ℕ) (l : List ℕ) : Type 0 where
  pub long : length l ≡ 1023
  pub few : t ≤ first
  pub low : first ≤ 960
  pub past : (d : ℕ) → d < 64 → 1023 ≤ first + d → binary_digit x d ≡ 0
