-- `others` meets its contract. The invariant: the rows that are left give what all rows give. Assumes nothing.
use mathlib.Core.Path.{◌≡◌}
use lib.ListN.{drop}
use Rattle.record.specs.Layout.{layout}
use Rattle.record.specs.Groups.{named}
use Rattle.record.specs.Record.{others}
use Rattle.record.proofs.formed.others.Given as goal

abbrev pub invariant-loop-row : goal.invariant-loop-row
invariant-loop-row l =
    others (named l.set (drop l.row-index (layout l.kind))) l.v ≡ others (named l.set (layout l.kind)) l.numbers
