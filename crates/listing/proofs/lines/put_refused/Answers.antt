-- `put_refused` meets its contract: a line with the refusal's number. Assumes nothing.
use native.Mathlib.Omega.{arith}
use Rattle.listing.specs.Lines.{refused_line}
use Rattle.listing.proofs.Room.{refused_short}
use Rattle.listing.proofs.lines.put_refused.Goals as goal

pub returns-clause-wrote : goal.returns-clause-wrote
unfolding refused_line
returns-clause-wrote c = rw (← c.number.ensures) c.put_line.ensures

pub returns-clause-refusal_len_bound : goal.returns-clause-refusal_len_bound
unfolding refused_line
returns-clause-refusal_len_bound c = rw (← c.number.ensures) (refused_short _ (omega arith))
