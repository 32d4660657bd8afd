-- `run` meets its contract. The invariant: the groups below the bit are taken, their octets are counted, and they fit. Assumes nothing.
use Prim.Native.Nat.{◌%◌, ◌^◌, ◌≤◌}
use mathlib.Core.Path.{◌≡◌}
use Rattle.record.specs.Groups.{set_length}
use Rattle.record.proofs.split.run.Given as goal

abbrev pub invariant-loop-bit : goal.invariant-loop-bit
invariant-loop-bit l =
    (l.bit ≤ 15) × (l.taken ≡ l.set % 2 ^ l.bit) × (l.used ≡ set_length l.kind (l.set % 2 ^ l.bit)) × (l.used ≤ l.room)
