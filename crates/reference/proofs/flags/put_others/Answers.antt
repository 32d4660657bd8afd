-- `put_others` meets its contract, but for the cross trainer. Assumes nothing.
use borrow.Author.Tests.{ne_eqb}
use Rattle.reference.specs.Tables.{other_flags}
use Rattle.text.proofs.Writing.{put_then}
use Rattle.reference.proofs.flags.put_others.Goals as goal

pub returns : goal.returns
unfolding other_flags
returns c = rw (ne_eqb _ 2 c.if-kind-eq-CROSS_TRAINER.false) (put_then (put_then c.put_bytes-2.ensures c.put_decimal.ensures) c.put_bytes-3.ensures)
