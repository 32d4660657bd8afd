-- `groups_length` meets its contract. The invariant: the sum is that of the groups below the bit. Assumes nothing.
use Prim.Native.Nat.{◌%◌, ◌^◌, ◌≤◌}
use mathlib.Core.Path.{◌≡◌}
use Rattle.record.specs.Groups.{set_length}
use Rattle.record.proofs.groups.groups_length.Given as goal

abbrev pub invariant-loop-bit : goal.invariant-loop-bit
invariant-loop-bit l =
    (l.bit ≤ 15) × (l.sum ≡ set_length l.kind (l.set % 2 ^ l.bit))
