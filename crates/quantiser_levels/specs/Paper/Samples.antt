-- Settings, levels and hard bits. (Document 01, "Samples and levels"; refusals 6, 7 and 8; document 02, card 7.)
--   units_of x             == the whole number of 2 ^ -149 that the magnitude of x is
--   negative x             == x has a minus sign, that of -0 too
--   Setting                == a setting: bit width, round limit, kind of step (0 level step, 1 full scale) and step
--   most_bits, most_level  == the widest level, and the largest of that width
--   ranges_fit_up_to most b limit, setting_fits_up_to most S   == the bit width and the round limit, the setting are in range where widths end at `most`
--   ranges_fit b limit     == the bit width and the round limit are in range
--   step_fits d, setting_fits S   == the step, the setting is in range
--   largest b              == L, the largest level of b bits
--   tie                    == 0 where half-way samples go away from zero
--   nearest_whole x d      == x / d to the nearest whole number
--   gain S                 == what the sample's units are multiplied by
--   magnitude S x          == the magnitude of the level of the sample x
--   signed s n             == a magnitude with its sign
--   level_of S x, hard_of x   == the level and the hard bit of x
--   levels_of S xs, hard_bit xs, hard_word xs   == the levels, the hard bits, and these packed as a word
--   not_finite xs j, first_not_finite xs   == sample j is infinite or not a number; the first such place
--   too_short n l b        == refusal 7 of the quantiser alone: more than 1,023 samples, or levels or bytes too few for them
--   quantise_verdict       == what the quantiser alone asks
-- Assumes nothing.
use Rattle.std.specs.Prelude.{ℕ, min, ◌+◌, ◌-◌, ◌*◌, ◌/◌, ◌^◌, Bool, true, false, not, cond, ◌&&◌, ◌||◌, List, leb, ltb, eqb, ℤ, pos, negsuc, neg_ℤ, Float, length, get_or}
use Rattle.std.specs.Float.{nan, inf, fin}
use Rattle.std.specs.Float.Ieee.{lt, le}
use Rattle.std.specs.Float.Ieee.Positive.{num, den}
use Rattle.std.specs.Float.Ieee.Scale.{finite}
use Rattle.counting.specs.Paper.Search.{first}
use Rattle.counting.specs.Paper.Lists.{listed}
use Rattle.answers.specs.Paper.Answers.{Verdict, accepted, refuse_when, refuse_at}
use Rattle.packed_word.specs.Paper.Packed.{bytes_for, pack}

-- "Every finite single-format float is a whole number times 2^−149": |Y|, D and F
abbrev pub units_of : Float → ℕ
units_of x = num x * 2 ^ 149 / den x

-- "The level has the sign of the sample"
abbrev pub negative : Float → Bool
negative nan = false
negative (inf s) = s
negative (fin s m e) = s

-- "A setting is the bit width b, the round limit and the step"
pub record Setting : Type 0 where
  pub bits : ℕ
  pub limit : ℕ
  pub kind : ℕ
  pub step : Float

-- "Let b go to 12": the widest level
abbrev pub most_bits : ℕ
most_bits = 12

-- L at that width
abbrev pub most_level : ℕ
most_level = 2047

-- "a finite single-format float from 2^−20 to 2^20, both ends included"
unfoldable pub step_fits : Float → Bool
step_fits x = le (fin false 1 (negsuc 19)) x && le x (fin false 1 (pos 20))

-- "The width b is 2 to 8 .. The round limit is 0 to 255", for any widest level in the place of 8
abbrev pub ranges_fit_up_to : ℕ → ℕ → ℕ → Bool
ranges_fit_up_to most bits limit = leb 2 bits && (leb bits most && leb limit 255)

-- these two in range, and the step of one of two kinds and in range
abbrev pub setting_fits_up_to : ℕ → Setting → Bool
setting_fits_up_to most S = ranges_fit_up_to most S.bits S.limit && (leb S.kind 1 && step_fits S.step)

-- "Refusals 6 and 20 now take b as out of range from 13"
abbrev pub ranges_fit : ℕ → ℕ → Bool
ranges_fit bits limit = ranges_fit_up_to most_bits bits limit

unfoldable pub setting_fits : Setting → Bool
setting_fits S = setting_fits_up_to most_bits S

-- "L = 2^(b − 1) − 1"
abbrev pub largest : ℕ → ℕ
largest b = 2 ^ (b - 1) - 1

-- "Half-way samples so go away from zero": 1 would send them toward zero
abbrev pub tie : ℕ
tie = 0

-- x / d to the nearest whole number: "(2|Y| + D) / (2D) rounded down"
unfoldable pub nearest_whole : ℕ → ℕ → ℕ
nearest_whole x d = (2 * x + d - tie) / (2 * d)

-- what the sample's units are multiplied by: 1 with a level step, L with a full scale
abbrev pub gain : Setting → ℕ
gain S = cond (eqb S.kind 0) 1 (largest S.bits)

-- "the smaller of L and (2|Y| + D) / (2D)", "the smaller of L and (2L|Y| + F) / (2F)"
unfoldable pub magnitude : Setting → Float → ℕ
magnitude S x = min (largest S.bits) (nearest_whole (gain S * units_of x) (units_of S.step))

-- a magnitude with its sign
abbrev pub signed : Bool → ℕ → ℤ
signed true k = neg_ℤ (pos k)
signed false k = pos k

-- the level of a sample
unfoldable pub level_of : Setting → Float → ℤ
level_of S x = signed (negative x) (magnitude S x)

-- "The hard bit is 1 when the sample is above 0, else 0"
unfoldable pub hard_of : Float → ℕ
hard_of x = cond (lt (fin false 0 (pos 0)) x) 1 0

-- the levels of the samples
unfoldable pub levels_of : Setting → List Float → List ℤ
levels_of S xs = listed (length xs) (λ j. level_of S (get_or xs j nan))

-- "the hard bits packed as a word"
unfoldable pub hard_bit : List Float → ℕ → ℕ
hard_bit xs j = hard_of (get_or xs j nan)

unfoldable pub hard_word : List Float → List ℕ
hard_word xs = pack (length xs) (hard_bit xs)

-- "a sample infinite or not a number", and the first such place
unfoldable pub not_finite : List Float → ℕ → Bool
not_finite xs j = not (finite (get_or xs j nan))

abbrev pub first_not_finite : List Float → ℕ
first_not_finite xs = first (not_finite xs) (length xs)

-- "For the quantiser alone: more than 1,023 samples or a shorter output"
abbrev pub too_short : ℕ → ℕ → ℕ → Bool
too_short n levels bytes = ltb 1023 n || (ltb levels n || ltb bytes (bytes_for n))

-- what the quantiser alone asks: 6, 7, 8
unfoldable pub quantise_verdict : Setting → List Float → ℕ → ℕ → Verdict
quantise_verdict S xs levels bytes =
    refuse_when 6 (not (setting_fits S))
    (refuse_when 7 (too_short (length xs) levels bytes)
    (refuse_at 8 (first_not_finite xs) (length xs) accepted))
