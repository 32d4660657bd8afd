-- `put_rows`: the lines of the rows before this one are written, and the next begins after their octets.
use Prim.Native.Nat.{◌+◌, ◌*◌, ◌≤◌}
use mathlib.Core.Path.{◌≡◌}
use lib.ListN.{take}
use Rattle.record.specs.Groups.{size, flags_octets}
use Rattle.reference.specs.Tables.{row_lines}
use Rattle.text.specs.Sheet.{Put}
use Rattle.reference.proofs.tables.put_rows.Given as goal

abbrev pub invariant-loop-row : goal.invariant-loop-row
invariant-loop-row l = record {
  wrote : Put l.initial.sheet (row_lines l.kind (flags_octets l.kind) (take l.row-index l.rows)) l.sheet;
  place : l.offset ≡ flags_octets l.kind + size (take l.row-index l.rows);
  small : l.offset ≤ 3 + 3 * l.row-index;
}
