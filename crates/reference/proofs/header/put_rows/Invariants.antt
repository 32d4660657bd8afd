-- `put_rows`: the macros of the rows before this one are written, and `before` is the bit of the last of these rows.
use mathlib.Core.Path.{◌≡◌}
use lib.ListN.{take}
use Rattle.record.specs.Layout.{layout}
use Rattle.reference.specs.Header.{row_macros}
use Rattle.reference.specs.Tables.{last_bit, by_bit}
use Rattle.text.specs.Sheet.{Put}
use Rattle.reference.proofs.header.put_rows.Given as goal

abbrev pub invariant-loop-row : goal.invariant-loop-row
invariant-loop-row l = record {
  wrote : Put l.initial.sheet (by_bit (row_macros l.kind) 0 (take l.row-index (layout l.kind))) l.sheet;
  last : l.before ≡ last_bit 0 (take l.row-index (layout l.kind));
}
