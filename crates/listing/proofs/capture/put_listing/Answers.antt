use native.Mathlib.Omega.{arith}
use borrow.Author.Tests.{not-true}
use Rattle.listing.proofs.Partly.{begin, more}
use Rattle.listing.proofs.Walked.{one_step, falls}
use Rattle.listing.proofs.capture.put_listing.Goals as goal

pub loop-walk-init : goal.loop-walk-init
loop-walk-init c = rw c.begin-walk.ensures (begin _ _ (omega arith))

pub loop-walk-smaller : goal.loop-walk-smaller
loop-walk-smaller c = let s = c.args.capture.now in
    rw c.step-walk.ensures.walk (falls c.loop-walk.walk s (not-true _ c.loop-walk-test.true))

pub loop-walk-preserved : goal.loop-walk-preserved
loop-walk-preserved c = let s = c.args.capture.now in
    more c.loop-walk.invariant (rw c.step-walk.ensures.walk (one_step c.loop-walk.walk s)) c.step-walk.ensures.lines
