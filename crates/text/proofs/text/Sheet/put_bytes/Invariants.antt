-- `put_bytes`: the octets before this one are written.
use lib.ListN.{take}
use Rattle.text.specs.Sheet.{Put}
use Rattle.text.proofs.text.Sheet.put_bytes.Given as goal

abbrev pub invariant-loop-b : goal.invariant-loop-b
invariant-loop-b l = Put l.initial.self (take l.b-index l.text) l.self
