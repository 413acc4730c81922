-- `iterative_core::iterative_accepted` meets its contract: the rounds run from the samples' bits and levels, which are marked before; what is
-- written and counted is theirs at the end. Assumes nothing.
use mathlib.Core.Path.{refl, ◌∙◌}
use native.Mathlib.Omega.{arith}
use lib.ListN.{replicate}
use Rattle.quantiser_settings.proofs.Ranges.{fits-reads}
use Rattle.iterative_core.proofs.Results.{run_lent, call-bits, call-restorable, call-decoded}
use Rattle.iterative_core.proofs.iterative_accepted.Goals as goal

pub largest_of-middle-requires : goal.largest_of-middle-requires
largest_of-middle-requires c = let r = fits-reads _ c.requires.0.setting in (r.least, r.most)

pub start-requires : goal.start-requires
start-requires c =
    let p = c.requires.0 in (
      record {
        setting = p.setting;
        each_finite = p.each_finite;
        few = omega (arith, p.samples, p.matrix.sizes.n_most);
        room = omega
            (arith, p.samples, p.room_levels);
      },
      c.largest_of-middle.ensures,
      refl,
    )

pub run-stop-requires : goal.run-stop-requires
run-stop-requires c =
    let s = c in
    (run_lent c.requires.0 s.start.ensures c.largest_of-middle.ensures, c.requires.1)

pub pack_into-requires : goal.pack_into-requires
pack_into-requires c =
    let r = c in
    let s = c in
    let p = c.requires.0 in
    (p.matrix.sizes.n_most, p.room_word, call-bits p s.start.ensures c.largest_of-middle.ensures r.run-stop.ensures)

pub unbias-requires : goal.unbias-requires
unbias-requires c =
    let r = c in
    let s = c in
    call-restorable c.requires.0 s.start.ensures c.largest_of-middle.ensures r.run-stop.ensures

pub turned-changed-requires : goal.turned-changed-requires
turned-changed-requires c =
    let r = c in
    let s = c in
    let p = c.requires.0 in
    (p.matrix.sizes.n_most, call-bits p s.start.ensures c.largest_of-middle.ensures r.run-stop.ensures)

pub shape_of-levels : goal.shape_of-levels
shape_of-levels c = c.levels-2-1.given
    ∙ c.levels-1.given

pub returns : goal.returns
returns c =
    let u = c in
    let r = c in
    let s = c in
    call-decoded c.requires.0 s.start.ensures c.largest_of-middle.ensures r.run-stop.ensures (replicate 1023 0)
    r.mark.ensures
    u.pack_into.ensures
    u.unbias.ensures
    c.turned-changed.ensures
    c.ended.ensures
