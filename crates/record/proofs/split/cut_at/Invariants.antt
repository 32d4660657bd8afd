-- `cut_at` meets its contract. The invariant: the sets passed, then those of the groups left, are the record's sets. Assumes nothing.
use Prim.Native.Nat.{◌-◌, ◌≤◌}
use Rattle.record.specs.Split.{cut}
use Rattle.record.proofs.Steps.{Reached}
use Rattle.record.proofs.split.cut_at.Given as goal

abbrev pub invariant-loop-parts : goal.invariant-loop-parts
invariant-loop-parts l =
    (l.parts ≤ 16) × (l.left ≤ l.groups) × Reached (cut l.kind l.room l.groups 16) (cut l.kind l.room l.left (16 - l.parts)) l.part l.set l.parts
