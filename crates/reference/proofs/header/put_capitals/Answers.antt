-- `put_capitals` meets its contract, octet by octet. Assumes nothing.
use native.Mathlib.Omega.{arith}
use Rattle.reference.specs.Header.{capitals}
use Rattle.reference.proofs.Capitals.{then_capital}
use Rattle.text.proofs.Writing.{put_nothing}
use Rattle.reference.proofs.header.put_capitals.Goals as goal

pub loop-b-init : goal.loop-b-init
unfolding capitals
loop-b-init c = put_nothing _ (omega arith)

pub loop-b-preserved : goal.loop-b-preserved
loop-b-preserved c =
    then_capital c.args.text.now c.loop-b.b-index c.loop-b-test.true c.loop-b.invariant (rw c.raised.ensures at c.put_byte.ensures)
