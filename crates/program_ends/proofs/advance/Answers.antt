-- `program_ends::advance` meets its contract: the reply of each stage. Assumes nothing.
use mathlib.Core.Path.{refl}
use Rattle.program_ends.proofs.Replies.{asked-at, replied-at}
use Rattle.program_ends.proofs.advance.Goals as goal

pub after_list-requires : goal.after_list-requires
after_list-requires c =
    let g = c in
    let s = g in
    let q = asked-at g.in-AtList.is _ s.args.tables.now _ s.requires in
    (q.readable, q.came, q.list, q.room)

pub after_setting-requires : goal.after_setting-requires
after_setting-requires c =
    let g = c in
    asked-at g.in-AtSetting.is _ _ _ g.requires

pub after_blocks-requires : goal.after_blocks-requires
after_blocks-requires c =
    let g = c in
    asked-at g.in-AtBlocks.is _ _ _ g.requires

pub returns-in-AtSizes : goal.returns-in-AtSizes
returns-in-AtSizes c =
    let g = c in
    let s = g in
    replied-at g.in-AtSizes.is s.args.list.now s.args.tables.now s.args.bytes.now
    (c.after_sizes.ensures _) refl refl

pub returns-in-AtList : goal.returns-in-AtList
returns-in-AtList c =
    let g = c in
    let s = g in
    let l = c.after_list.ensures in
    replied-at g.in-AtList.is s.args.list.now s.args.tables.now s.args.bytes.now
    l.0 l.1 refl

pub returns-in-AtSetting : goal.returns-in-AtSetting
returns-in-AtSetting c =
    let g = c in
    let s = g in
    let l = c.after_setting.ensures in
    replied-at g.in-AtSetting.is s.args.list.now s.args.tables.now s.args.bytes.now
    l.0 refl l.1

pub returns-in-AtBlocks : goal.returns-in-AtBlocks
returns-in-AtBlocks c =
    let g = c in
    let s = g in
    replied-at g.in-AtBlocks.is s.args.list.now s.args.tables.now s.args.bytes.now
    c.after_blocks.ensures refl refl

pub returns-in-AtEnd : goal.returns-in-AtEnd
returns-in-AtEnd c =
    let g = c in
    let s = g in
    replied-at g.in-AtEnd.is s.args.list.now s.args.tables.now s.args.bytes.now
    (record { reply = c.run_over.ensures.0 _; rest = refl }) refl refl
