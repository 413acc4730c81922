-- `sheet_to_list::on_sizes`: the list at the front of the array is the sheet's, so what is answered is of the sheet's matrix.
use mathlib.Core.Path.{refl, sym, ap, ◌∙◌}
use native.Mathlib.Omega.{arith}
use lib.ListN.{length}
use Rattle.sheet_to_list.proofs.Answers.{answered-by}
use Rattle.sheet_to_list.proofs.Sizes.{made-lent, made-room, made-count, made-few, made-long, made-front, made-own}
use Rattle.sheet_to_list.proofs.on_sizes.Goals as goal

pub overflow_mul-count : goal.overflow_mul-count
overflow_mul-count c =
    let s = c in
    omega (arith, made-few s.args.sheet.now s.args.h s.args.shape s.requires)

pub put_list-requires : goal.put_list-requires
put_list-requires c =
    let s = c in
    (made-lent s.args.sheet.now s.args.h s.args.shape s.requires, made-room s.args.sheet.now s.args.h s.args.shape s.requires)

pub slice_bounds-made-end : goal.slice_bounds-made-end
slice_bounds-made-end c =
    let s = c in
    omega (
      arith,
      made-few s.args.sheet.now s.args.h s.args.shape s.requires,
      made-long s.args.sheet.now s.args.h s.args.shape s.requires _ _ c.put_list.ensures refl,
    )

pub slice_bounds-on_list-end : goal.slice_bounds-on_list-end
slice_bounds-on_list-end c =
    let s = c in
    made-count s.args.sheet.now s.args.h s.args.shape s.requires
    ∙ sym (ap length (made-front s.args.sheet.now s.args.h s.args.shape s.requires _ _ c.put_list.ensures))

pub returns : goal.returns
returns c =
    let s = c in
    answered-by _ _ (made-own s.args.sheet.now s.args.h s.args.shape s.requires _ _ c.put_list.ensures)
    c.on_list.ensures
