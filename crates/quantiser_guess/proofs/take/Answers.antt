-- `quantiser_guess::take` meets its contract: what is written by guesses that the table confirms is what the samples leave. Assumes nothing.
use mathlib.Core.Path.{refl, ap, ◌∙◌}
use native.Mathlib.Omega.{arith}
use lib.Dec.{le→leb}
use lib.Ieee.{in_float}
use lib.ListN.{length}
use Rattle.quantiser_settings.specs.Paper.Settings.{setting_of}
use Rattle.quantiser_table.proofs.Tables.{table-long}
use Rattle.quantiser_guess.proofs.Floats.{whole-finite, least-no-nan}
use Rattle.quantiser_guess.proofs.Taking.{table-first, peak-small, call-confirmed, took_true, took-false}
use Rattle.quantiser_guess.proofs.take.Goals as goal

pub bounds-table-1 : goal.bounds-table-1
bounds-table-1 c = omega (arith, ap length c.requires.1, table-long (setting_of c.args.setting))

pub overflow_cast-rate : goal.overflow_cast-rate
overflow_cast-rate c = omega (arith, table-first (setting_of c.args.setting) c.requires.1)

pub float_from_bits-rate : goal.float_from_bits-rate
float_from_bits-rate c = least-no-nan _ (table-first (setting_of c.args.setting) c.requires.1)

pub int_to_float-peak : goal.int_to_float-peak
unfolding in_float
int_to_float-peak c =
    let s = c in
    le→leb s.args.middle 16777216 (peak-small (setting_of s.args.setting) s.requires.0 s.requires.2)

pub guess_all-requires : goal.guess_all-requires
guess_all-requires c =
    let s = c in
    let p = s.requires in
    (whole-finite s.args.middle (peak-small (setting_of s.args.setting) p.0 p.2), p.3, p.4, refl)

pub all_fit-requires : goal.all_fit-requires
all_fit-requires c =
    let p = c.requires in
    (p.3, p.4, ap length p.1 ∙ table-long _, c.guess_all.ensures)

pub place_all-requires : goal.place_all-requires
place_all-requires c =
    let t = c in
    let g = t in
    let p = g.requires in (
      p.3,
      p.4,
      call-confirmed _ p.0 p.1 p.2 _ _ _ p.3 g.guess_all.ensures t.all_fit.ensures t.if-all_fit.true,
      p.5,
      p.6,
      p.7,
    )

pub returns-then-all_fit : goal.returns-then-all_fit
returns-then-all_fit c =
    let t = c in
    let g = t in
    let p = g.requires in
    took_true _ p.0 p.1 p.2 _ _ _ p.3 g.guess_all.ensures t.all_fit.ensures t.if-all_fit.true c.place_all.ensures

pub returns : goal.returns
returns c = took-false _ _ _ _ _
