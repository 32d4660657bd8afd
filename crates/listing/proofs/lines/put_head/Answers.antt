-- The lines of a record's head are short.
use native.Mathlib.Omega.{arith}
use Rattle.listing.proofs.Room.{head_short}
use Rattle.listing.proofs.lines.put_head.Goals as goal

pub returns-clause-direction_len_bound : goal.returns-clause-direction_len_bound
returns-clause-direction_len_bound c = head_short _ _ _ _ (omega arith) (omega arith) (omega arith) (omega arith)
