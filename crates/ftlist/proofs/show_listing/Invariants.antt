-- The buffer has room for a step's lines. The measure is the number of steps that the walk has yet to take, at most.
use Rattle.std.proofs.Common.{◌≡◌, length}
use Rattle.listing.specs.Lines.{longest}
use Rattle.listing.proofs.Walked.{remaining}
use Rattle.ftlist.proofs.show_listing.Given as goal

abbrev pub invariant-loop-walk : goal.invariant-loop-walk
invariant-loop-walk g l = length l.lines ≡ longest

abbrev pub decreases-loop-walk : goal.decreases-loop-walk
decreases-loop-walk g l = remaining l.walk l.capture
