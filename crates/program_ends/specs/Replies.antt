-- What a stage of the run asks and leaves.
--   awaited_of s l      == what a stage awaits, whose list is at the front of the array l
--   Readable a          == what is awaited can be read: sizes in range; a list that fits; an accepted matrix and setting
--   TablesHeld a x      == where blocks are awaited, the tables of their matrix and setting are at the front of the array x
--   Asked a l x bs out  == the bytes bs came for a, the arrays and the output buffer are long enough, and the tables are held
--   Replied r a w e out == the reply r: what is awaited then, how many bytes it wants, and its text before `e` in the buffer
--   RepliedOver r .. out out'  == the same, written over a buffer whose bytes from `e` on stay
--   list_after a bs l   == the array of the list once the bytes bs came for a
--   tables_opened a x   == the array of the tables once the setting came, where a is awaited then
--   tables_after a bs x == the array of the tables once the bytes bs came for a
--   Advanced a bs ..    == the reply to the bytes bs, and these arrays
-- Assumes nothing.
use Rattle.std.specs.Prelude.{ℕ, ◌*◌, ◌≤◌, ◌≡◌, true, cond, List, [], ltb, length, take, drop}
use Rattle.counting.specs.Paper.Lists.{over}
use Rattle.byte_numbers.specs.Paper.Numbers.{entries_in}
use Rattle.matrix.specs.Paper.Check.{sizes_fit}
use Rattle.matrix.specs.Paper.Shapes.{matrix_of}
use Rattle.quantiser_settings.specs.Paper.Settings.{setting_of}
use Rattle.program_input.specs.Paper.Opening.{Decodable}
use Rattle.program_tables.specs.Tables.{tables_of, tables_size}
use Rattle.program_ends.specs.Stages.{Awaited, the_sizes, the_list, the_setting, blocks_from, nothing, wanted, Reply, reply_to}
use Rattle.program_ends.specs.declared.Stage.{Stage}
use Rattle.program_ends.specs.declared.Stage.TheVariants.{AtSizes, AtList, AtSetting, AtBlocks, AtEnd}

abbrev pub awaited_of : Stage → List ℕ → Awaited
awaited_of AtSizes l = the_sizes
awaited_of (AtList s) l = the_list (matrix_of s [])
awaited_of (AtSetting s) l = the_setting (matrix_of s (take (s.m * s.rho) l))
awaited_of (AtBlocks s c i) l = blocks_from (matrix_of s (take (s.m * s.rho) l)) (setting_of c) i
awaited_of AtEnd l = nothing

abbrev pub Readable : Awaited → Type 0
Readable the_sizes = Unit {0}
Readable (the_list H) = sizes_fit H ≡ true
Readable (the_setting H) = H.m * H.rho ≤ 32736
Readable (blocks_from H S i) = Decodable H S × (i ≤ 65535)
Readable nothing = Unit {0}

abbrev pub TablesHeld : Awaited → List ℕ → Type 0
TablesHeld the_sizes x = Unit {0}
TablesHeld (the_list H) x = Unit {0}
TablesHeld (the_setting H) x = Unit {0}
TablesHeld (blocks_from H S i) x = take (tables_size H) x ≡ tables_of H S
TablesHeld nothing x = Unit {0}

-- 2,050 least magnitudes, and 17 cells for each of 1,023 columns, are the most that the tables have
pub record Asked (a : Awaited) (l x bs out : List ℕ) : Type 0 where
  pub readable : Readable a
  pub came : length bs ≤ wanted a
  pub list : length l ≡ 32736
  pub tables : length x ≡ 35809
  pub held : TablesHeld a x
  pub room : length out ≡ 65536

pub record Replied (r : Reply) (a : Awaited) (w e : ℕ) (out : List ℕ) : Type 0 where
  pub awaited : a ≡ r.awaited
  pub want : w ≡ wanted r.awaited
  pub text : take e out ≡ r.text
  pub fits : e ≤ length out

pub record RepliedOver (r : Reply) (a : Awaited) (w e : ℕ) (out out' : List ℕ) : Type 0 where
  pub reply : Replied r a w e out'
  pub rest : drop e out' ≡ drop e out

-- a list that came whole is written over the front of the array
abbrev pub list_after : Awaited → List ℕ → List ℕ → List ℕ
list_after the_sizes bs l = l
list_after (the_list H) bs l = cond (ltb (length bs) (2 * (H.m * H.rho))) l (over (entries_in bs) l)
list_after (the_setting H) bs l = l
list_after (blocks_from H S i) bs l = l
list_after nothing bs l = l

-- the tables are written once, where the run opens: where blocks are awaited after the setting
abbrev pub tables_opened : Awaited → List ℕ → List ℕ
tables_opened the_sizes x = x
tables_opened (the_list H) x = x
tables_opened (the_setting H) x = x
tables_opened (blocks_from H S i) x = over (tables_of H S) x
tables_opened nothing x = x

abbrev pub tables_after : Awaited → List ℕ → List ℕ → List ℕ
tables_after the_sizes bs x = x
tables_after (the_list H) bs x = x
tables_after (the_setting H) bs x = tables_opened (reply_to (the_setting H) bs).awaited x
tables_after (blocks_from H S i) bs x = x
tables_after nothing bs x = x

pub record Advanced (a : Awaited) (bs l l' x x' : List ℕ) (a' : Awaited) (w e : ℕ) (out out' : List ℕ) : Type 0 where
  pub replied : RepliedOver (reply_to a bs) a' w e out out'
  pub list : l' ≡ list_after a bs l
  pub tables : x' ≡ tables_after a bs x
