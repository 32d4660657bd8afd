-- `put_listing`: all is written except what the walk has yet to write. The measure is the number of steps that it has yet to take, at most.
use Rattle.listing.specs.Listing.{listing}
use Rattle.listing.proofs.Partly.{Partly}
use Rattle.listing.proofs.Walked.{left_of, remaining}
use Rattle.listing.proofs.capture.put_listing.Given as goal

abbrev pub invariant-loop-walk : goal.invariant-loop-walk
invariant-loop-walk l = Partly l.initial.sheet (listing l.capture) (left_of l.walk l.capture) l.sheet

abbrev pub decreases-loop-walk : goal.decreases-loop-walk
decreases-loop-walk l = remaining l.walk l.capture
