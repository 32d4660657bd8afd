-- `start` meets its contract. Assumes nothing.
use mathlib.Core.Path.{ap}
use Rattle.service.specs.declared.collector.Collection.{Collection}
use Rattle.listing.specs.Listing.{state, begins}
use Rattle.listing.proofs.walk.start.Goals as goal

pub returns : goal.returns
unfolding begins
returns c = ap (λ (k : Collection). state k 1) c.open.ensures.collection_value
