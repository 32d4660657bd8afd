-- `collected` meets its contract. The invariant: what is left to hand over ends with the record. Assumes nothing.
use Rattle.demands.proofs.ComingBack.{Left}
use Rattle.demands.proofs.collected.Given as goal

abbrev pub invariant-loop-part : goal.invariant-loop-part
invariant-loop-part l =
    Left l.record l.payload l.part l.collection
