-- `put_direction` meets its contract for the cross trainer. Assumes nothing.
use borrow.Author.Tests.{eq-eqb}
use Rattle.reference.specs.Header.{direction_macro}
use Rattle.text.proofs.Writing.{put_then}
use Rattle.reference.proofs.header.put_direction.Goals as goal

pub returns-then-kind-eq-CROSS_TRAINER : goal.returns-then-kind-eq-CROSS_TRAINER
unfolding direction_macro
returns-then-kind-eq-CROSS_TRAINER c = rw (eq-eqb _ 2 c.if-kind-eq-CROSS_TRAINER.true) (put_then c.put_prefix.ensures c.put_bytes.ensures)
