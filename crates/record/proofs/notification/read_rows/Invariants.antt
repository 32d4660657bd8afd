-- `read_rows` meets its contract. The invariant: what is left to read from a row on gives the whole result. Assumes nothing.
use Prim.Native.Nat.{◌+◌, ◌*◌, ◌≤◌}
use mathlib.Core.Path.{◌≡◌}
use lib.ListN.{drop}
use Rattle.record.specs.Layout.{layout}
use Rattle.record.specs.Groups.{named}
use Rattle.record.specs.Notification.{read_into, values}
use Rattle.record.proofs.notification.read_rows.Given as goal

abbrev pub invariant-loop-row : goal.invariant-loop-row
invariant-loop-row l =
    (l.at ≤ 3 + 3 * l.row-index) ×
    (read_into (named l.set (drop l.row-index (layout l.kind))) (drop l.at l.notification) l.numbers ≡ values l.kind l.set l.notification l.initial.numbers)
