-- `program_ends::first` meets its contract: the heading at the front of the buffer. Assumes nothing.
use mathlib.Core.Path.{refl}
use native.Mathlib.Omega.{arith}
use Rattle.program_ends.proofs.Replies.{text-alone, text-within, text-rest}
use Rattle.program_ends.proofs.first.Goals as goal

pub returns : goal.returns
returns c =
    let p = c.put_heading-end.ensures in
    λ l. record {
      reply = record { awaited = refl; want = refl; text = text-alone p (omega arith); fits = text-within p (omega arith) };
      rest = text-rest p (omega arith);
    }
