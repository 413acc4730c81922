-- `sheet_to_list::on_accepted`: refusal 7 keeps both buffers, else sizes and list are written.
use native.Mathlib.Omega.{arith}
use Rattle.matrix.specs.Paper.Code.{Matrix}
use Rattle.matrix.specs.Paper.Shapes.{matrix_of}
use Rattle.sheet_to_list.proofs.Answers.{refused-sizes, refused-list, both-written}
use Rattle.sheet_to_list.proofs.on_accepted.Goals as goal

pub returns-then-sizes-lt4 : goal.returns-then-sizes-lt4
returns-then-sizes-lt4 c =
    let lent : Matrix = matrix_of c.args.shape c.args.made.now in
    let s = c in
    refused-sizes (lent) s.args.sizes.now s.args.list.now s.requires (omega arith)

pub returns-then-list-count : goal.returns-then-list-count
returns-then-list-count c =
    let lent : Matrix = matrix_of c.args.shape c.args.made.now in
    let s = c in
    refused-list (lent) s.args.sizes.now s.args.list.now s.requires (omega arith) (omega arith)

pub returns : goal.returns
returns c =
    let s = c in
    both-written s.args.shape s.args.made.now _ s.args.sizes.now _ s.args.list.now s.requires (omega arith) (omega arith)
    c.put_sizes.ensures c.copy_from_slice.ensures.after
