-- `put_bits` meets its contract, row by row. Assumes nothing.
use mathlib.Core.Path.{refl}
use native.Mathlib.Omega.{arith}
use lib.ListN.{get_or}
use Rattle.record.specs.Layout.{layout, no_row}
use Rattle.reference.specs.Tables.{flag_line, bit_lines}
use Rattle.reference.proofs.Bits.{next_row, next_bit, all_rows, all_bits}
use Rattle.text.proofs.Writing.{put_then, put_nothing}
use Rattle.reference.proofs.flags.put_bits.Goals as goal

pub loop-row-init : goal.loop-row-init
loop-row-init c = record { wrote = put_nothing _ (omega arith); last = refl }

pub loop-row-preserved : goal.loop-row-preserved
loop-row-preserved c = let s = c.args in let h = c.loop-row.invariant in record {
  wrote = next_row (flag_line s.kind) 0 (layout s.kind) c.loop-row.row-index c.loop-row.before no_row (get_or c.rows-row-items.result.now c.loop-row.row-index no_row) (rw c.rows-row-items.ensures) (rw (← c.rows-row-items.ensures) c.loop-row-test.true)
      h.last h.wrote c.put_flag.ensures;
  last = next_bit 0 (layout s.kind) c.loop-row.row-index no_row (get_or c.rows-row-items.result.now c.loop-row.row-index no_row) (rw c.rows-row-items.ensures) (rw (← c.rows-row-items.ensures) c.loop-row-test.true);
}

pub returns : goal.returns
unfolding bit_lines
returns c = let s = c.args in let h = c.loop-row.invariant in
    let e = all_bits 0 (layout s.kind) c.loop-row.row-index c.loop-row.before (rw (← c.rows-row-items.ensures) c.loop-row-test.false) h.last in
    rw (← e) (put_then (all_rows (flag_line s.kind) 0 (layout s.kind) c.loop-row.row-index (rw (← c.rows-row-items.ensures) c.loop-row-test.false) h.wrote) c.put_others.ensures)
