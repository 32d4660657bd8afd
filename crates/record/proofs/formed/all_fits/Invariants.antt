-- `all_fits` meets its contract. The invariant: the rows that are left decide. Assumes nothing.
use mathlib.Core.Path.{◌≡◌}
use lib.ListN.{drop}
use Rattle.record.specs.Layout.{layout}
use Rattle.record.specs.Groups.{named}
use Rattle.record.specs.Record.{all_fit}
use Rattle.record.proofs.formed.all_fits.Given as goal

abbrev pub invariant-loop-row : goal.invariant-loop-row
invariant-loop-row l =
    all_fit (named l.set (drop l.row-index (layout l.kind))) l.numbers ≡ all_fit (named l.set (layout l.kind)) l.numbers
