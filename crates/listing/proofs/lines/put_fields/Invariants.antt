-- `put_fields`: the lines of the rows before this one are written.
use lib.ListN.{take}
use Rattle.record.specs.Layout.{layout}
use Rattle.listing.specs.Lines.{field_lines}
use Rattle.text.specs.Sheet.{Put}
use Rattle.listing.proofs.lines.put_fields.Given as goal

abbrev pub invariant-loop-row : goal.invariant-loop-row
invariant-loop-row l =
    Put l.initial.sheet (field_lines l.set l.numbers (take l.row-index (layout l.kind))) l.sheet
