-- `sheet_bytes::sheet_under` meets its contract: each fault is asked of bytes that have none of those before it. Assumes nothing.
use mathlib.Core.Path.{◌≡◌, sym, ◌∙◌}
use mathlib.Core.Bool.{false}
use native.Mathlib.Omega.{arith}
use Rattle.sheet.specs.Paper.Sheet.{zero_size, unlike_rows, wrong_length}
use Rattle.sheet_bytes.proofs.Maps.{places-are}
use Rattle.sheet_bytes.proofs.Faults.{zero_is, first_says, length-right, short-refused, zero-refused, first-refused, unlike-refused, last-say}
use Rattle.sheet_bytes.proofs.sheet_under.Goals as goal

pub returns-then-zero_size : goal.returns-then-zero_size
returns-then-zero_size c =
    let s = c in
    zero-refused s.args.bytes.now (sym (zero_is s.requires) ∙ sym c.zero_size.ensures ∙ c.if-zero_size.true)

pub returns-then-bytes-map_bytes : goal.returns-then-bytes-map_bytes
returns-then-bytes-map_bytes c =
    let s = c in
    short-refused s.args.bytes.now (omega (arith, places-are s.requires, c.map_bytes.ensures, c.if-bytes-map_bytes.true))

pub returns-then-wrong_length : goal.returns-then-wrong_length
returns-then-wrong_length c =
    first-refused c.args.bytes.now (sym c.wrong_length.ensures ∙ c.if-wrong_length.true)

pub returns-then-unlike_rows : goal.returns-then-unlike_rows
returns-then-unlike_rows c =
    unlike-refused c.args.bytes.now
    (sym c.unlike_rows.ensures ∙ c.if-unlike_rows.true)

pub shift_too_far-requires : goal.shift_too_far-requires
shift_too_far-requires c =
    let alike : unlike_rows c.args.bytes.now ≡ false = sym c.unlike_rows.ensures ∙ c.if-unlike_rows.false in
    let right : wrong_length c.args.bytes.now ≡ false = sym (first_says c.args.bytes.now (alike))
    ∙ sym c.wrong_length.ensures ∙ c.if-wrong_length.false in
    let s = c in
    (s.requires, length-right s.args.bytes.now (right))

pub returns : goal.returns
returns c =
    let alike : unlike_rows c.args.bytes.now ≡ false = sym c.unlike_rows.ensures ∙ c.if-unlike_rows.false in
    let right : wrong_length c.args.bytes.now ≡ false = sym (first_says c.args.bytes.now (alike))
    ∙ sym c.wrong_length.ensures ∙ c.if-wrong_length.false in
    let no_zero : zero_size c.args.bytes.now ≡ false = sym (zero_is c.requires) ∙ sym c.zero_size.ensures ∙ c.if-zero_size.false in
    let e = c in
    last-say c.args.bytes.now
    c.spare_set.result c.shift_too_far.result
    (right) (no_zero) (alike)
    c.spare_set.ensures c.shift_too_far.ensures
