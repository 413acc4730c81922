-- Numbers and bytes as text. (Document 01, "Worked by hand": the paragraph on the program.)
--   ascii s              == the bytes of a quoted text
--   digit d              == the digit of a number below 16
--   digits_within k x    == the decimal digits of x, of which there are at most k + 1
--   decimal x            == the decimal digits of x, the most significant first, without leading zeros
--   hex w                == two lower-case hexadecimal digits for each byte of w
-- Assumes nothing.
use Rattle.std.specs.Prelude.{ℕ, zero, suc, ◌+◌, ◌/◌, ◌%◌, cond, List, [], ◌∷◌, ◌++◌, ltb}
use Prim.Native.Char.{code}
use Prim.Native.String as string

-- the bytes of a quoted text
abbrev pub ascii : string.String → List ℕ
ascii string.[] = []
ascii (string.◌∷◌ c s) = code c ∷ ascii s

-- the digit of a number below 16: 0 to 9, then a to f
unfoldable pub digit : ℕ → ℕ
digit d = cond (ltb d 10) (48 + d) (87 + d)

-- the decimal digits of x, of which there are at most k + 1
unfoldable pub digits_within : ℕ → ℕ → List ℕ
digits_within zero x = digit x ∷ []
digits_within (suc k) x = cond (ltb x 10) (digit x ∷ []) (digits_within k (x / 10) ++ (digit (x % 10) ∷ []))

-- "numbers are decimal"; a number x has at most x + 1 digits
unfoldable pub decimal : ℕ → List ℕ
decimal x = digits_within x x

-- "word in lower-case hexadecimal without gaps"
unfoldable pub hex : List ℕ → List ℕ
hex [] = []
hex (b ∷ w) = digit (b / 16) ∷ digit (b % 16) ∷ hex w
