-- `put_capitals`: the octets before this one are written in capitals.
use lib.ListN.{take}
use Rattle.text.specs.Sheet.{Put}
use Rattle.reference.specs.Header.{capitals}
use Rattle.reference.proofs.header.put_capitals.Given as goal

abbrev pub invariant-loop-b : goal.invariant-loop-b
invariant-loop-b l = Put l.initial.sheet (capitals (take l.b-index l.text)) l.sheet
