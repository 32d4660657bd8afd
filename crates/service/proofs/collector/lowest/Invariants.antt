-- `lowest` meets its contract. The invariant: no bit below is in the set.
use Prim.Native.Nat.{◌%◌, ◌^◌}
use mathlib.Core.Path.{◌≡◌}
use Rattle.service.proofs.collector.lowest.Given as goal

abbrev pub invariant-loop-bit : goal.invariant-loop-bit
invariant-loop-bit l = l.set % 2 ^ l.bit ≡ 0
