-- `sheet_from_list::on_described` meets its contract: refusal 7 keeps the buffer, else the sheet is stored in it. Assumes nothing.
use native.Mathlib.Omega.{arith}
use Rattle.matrix.specs.Paper.Code.{Matrix}
use Rattle.matrix.specs.Paper.Shapes.{matrix_of}
use Rattle.sheet.proofs.Described.{describes-grid}
use Rattle.sheet_from_list.proofs.Answers.{refused-short, stored-sheet}
use Rattle.sheet_from_list.proofs.on_described.Goals as goal

pub sheet_length-length-requires : goal.sheet_length-length-requires
sheet_length-length-requires c =
    let lent : Matrix = matrix_of c.args.shape c.args.list.now in
    let s = c in
    let z = s.requires.0.sizes in
    (z.n_most, z.m_most, z.rho_most, (describes-grid (lent) s.args.z s.requires.1).some)

pub returns-then-sheet-length : goal.returns-then-sheet-length
returns-then-sheet-length c =
    let lent : Matrix = matrix_of c.args.shape c.args.list.now in
    let s = c in
    refused-short (lent) s.args.z s.args.sheet.now s.requires.0 s.requires.1 (omega (arith, c.sheet_length-length.ensures.0 s.args.list.now))

pub store-requires : goal.store-requires
store-requires c =
    let s = c in
    (s.requires.0, s.requires.1, omega (arith, c.sheet_length-length.ensures.0 s.args.list.now))

pub returns : goal.returns
returns c =
    let lent : Matrix = matrix_of c.args.shape c.args.list.now in
    let s = c in
    let size = c.sheet_length-length in
    let is = size.ensures.0 s.args.list.now in
    stored-sheet (lent) s.args.z s.args.sheet.now s.requires.0 s.requires.1 c.store.new.sheet size.result is
    (omega (arith, is)) c.store.ensures
