-- `put_rows` meets its contract. The invariant: what is left to write from a row on gives the whole result. Assumes nothing.
use Prim.Native.Nat.{◌+◌, ◌*◌, ◌≤◌}
use mathlib.Core.Path.{◌≡◌}
use lib.ListN.{drop}
use Rattle.record.specs.Layout.{layout}
use Rattle.record.specs.Groups.{named, flags_octets}
use Rattle.record.specs.Octets.{placed}
use Rattle.record.specs.Split.{written}
use Rattle.record.proofs.split.put_rows.Given as goal

abbrev pub invariant-loop-row : goal.invariant-loop-row
invariant-loop-row l =
    (l.at ≤ 3 + 3 * l.row-index) ×
    (placed l.out l.at (written (named l.set (drop l.row-index (layout l.kind))) l.numbers) ≡ placed l.initial.out (flags_octets l.kind) (written (named l.set (layout l.kind)) l.numbers))
