-- `firmware_decoding::with_room` meets its contract: the entries at the front of the array are those that the bytes are. Assumes nothing.
use mathlib.Core.Path.{refl, sym, ap, ◌∙◌}
use Prim.Native.Nat.{◌/◌}
use lib.ListN.{length}
use Rattle.byte_numbers.proofs.Lists.{length-entries, entries-front}
use Rattle.quantiser_settings.specs.Paper.Settings.{setting_of}
use Rattle.firmware_asking.specs.Paper.Asked.{bytes_verdict}
use Rattle.firmware_decoding.proofs.Answers.{answered-list}
use Rattle.firmware_decoding.proofs.with_room.Goals as goal

pub slice_bounds-on_list-end : goal.slice_bounds-on_list-end
slice_bounds-on_list-end g c =
    let e = c in
    let bs = e.args.list.now in
    sym (ap length (entries-front (length bs / 2) bs _ e.entries.ensures refl) ∙ length-entries bs)

pub returns : goal.returns
returns g c =
    let r = c in
    let e = c in
    let a = e.args in
    let bs = a.list.now in
    answered-list a.shape
    (bytes_verdict a.shape.n (setting_of a.setting) a.samples.now (length a.word.now) (length a.levels.now) (length a.report.now))
    (entries-front (length bs / 2) bs _ e.entries.ensures refl) r.on_list.ensures
