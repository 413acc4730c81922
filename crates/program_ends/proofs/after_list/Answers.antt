-- `program_ends::after_list` meets its contract. Assumes nothing.
use mathlib.Core.Path.{◌≡◌, refl, ap, ◌∙◌}
use mathlib.Core.List.{List, []}
use Prim.Native.Nat.{◌*◌}
use native.Mathlib.Omega.{arith}
use lib.ListN.{length}
use Rattle.matrix.specs.Paper.Shapes.{matrix_of}
use Rattle.program_input.proofs.Openings.{few}
use Rattle.program_ends.specs.Stages.{the_setting, ends}
use Rattle.program_ends.proofs.Replies.{text-alone, replied-as, replied-over, list-short, list-whole, kept-short, written-whole}
use Rattle.byte_numbers.proofs.Lists.{entries-front}
use Rattle.program_ends.proofs.after_list.Goals as goal

pub entries-want-requires : goal.entries-want-requires
entries-want-requires c = few (matrix_of c.args.shape []) c.requires.0

pub overflow_mul-want : goal.overflow_mul-want
overflow_mul-want c =
    let s = c in
    omega (arith, c.entries-want.ensures, few (matrix_of s.args.shape []) s.requires.0)

pub returns-then-bytes-want : goal.returns-then-bytes-want
returns-then-bytes-want c =
    let p = c in
    let s = p in
    let H = matrix_of s.args.shape [] in (
      replied-over p.put_short-end.ensures (omega (arith, s.requires.3)) c.run_over.ensures.1
          (ap ends (text-alone p.put_short-end.ensures (omega (arith, s.requires.3))) ∙ list-short H s.args.bytes.now (omega arith))
          (c.run_over.ensures.0 _),
      kept-short H s.args.bytes.now _ (omega arith),
    )

pub entries-requires : goal.entries-requires
entries-requires c =
    let s = c in
    omega (arith, s.requires.1, s.requires.2, few (matrix_of s.args.shape []) s.requires.0)

pub returns : goal.returns
returns c =
    let s = c in
    let H = matrix_of s.args.shape [] in
    let bs = s.args.bytes.now in
    let whole : length bs ≡ 2 * (H.m * H.rho) = omega (arith, s.requires.1) in (
      record {
        reply = replied-as (list-whole H bs (omega arith))
            (record {
              awaited = ap (λ (l : List _). the_setting (matrix_of s.args.shape l))
                  (entries-front (H.m * H.rho) bs s.args.list.now c.entries.ensures (omega arith));
              want = refl;
              text = refl;
              fits = omega arith;
            });
        rest = refl;
      },
      c.entries.ensures ∙ written-whole H bs _ (omega arith),
    )
