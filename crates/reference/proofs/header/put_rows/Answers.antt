-- `put_rows` meets its contract, row by row. Assumes nothing.
use mathlib.Core.Path.{refl}
use native.Mathlib.Omega.{arith}
use lib.ListN.{get_or}
use Rattle.record.specs.Layout.{layout, no_row}
use Rattle.reference.specs.Header.{row_macros}
use Rattle.reference.proofs.Bits.{next_row, next_bit}
use Rattle.text.proofs.Writing.{put_nothing}
use Rattle.reference.proofs.header.put_rows.Goals as goal

pub loop-row-init : goal.loop-row-init
loop-row-init c = record { wrote = put_nothing _ (omega arith); last = refl }

pub loop-row-preserved : goal.loop-row-preserved
loop-row-preserved c = let s = c.args in let h = c.loop-row.invariant in record {
  wrote = next_row (row_macros s.kind) 0 (layout s.kind) c.loop-row.row-index c.loop-row.before no_row (get_or c.rows-row-items.result.now c.loop-row.row-index no_row) (rw c.rows-row-items.ensures) (rw (← c.rows-row-items.ensures) c.loop-row-test.true)
      h.last h.wrote c.put_row.ensures;
  last = next_bit 0 (layout s.kind) c.loop-row.row-index no_row (get_or c.rows-row-items.result.now c.loop-row.row-index no_row) (rw c.rows-row-items.ensures) (rw (← c.rows-row-items.ensures) c.loop-row-test.true);
}
