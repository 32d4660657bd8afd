use borrow.Author.Tests.{not-true}
use Rattle.listing.proofs.Walked.{falls}
use Rattle.ftlist.proofs.show_listing.Goals as goal

pub loop-walk-smaller : goal.loop-walk-smaller
loop-walk-smaller g c = rw c.step-walk.ensures.walk (falls c.loop-walk.walk c.args.capture.now (not-true _ c.loop-walk-test.true))
