-- `put_rows` meets its contract, row by row. Assumes nothing.
use Prim.Native.Nat.{◌≤◌, ◌<◌}
use native.Mathlib.Omega.{arith}
use borrow.Author.Rules.{rules}
use mathlib.Core.Path.{refl}
use lib.ListN.{length, get_or}
use Rattle.record.specs.Groups.{size, flags_octets}
use Rattle.record.specs.Layout.{no_row}
use Rattle.record.proofs.Tables.{flags_most, width_most}
use Rattle.reference.proofs.Lines.{next_line, next_size, all_lines}
use Rattle.text.proofs.Writing.{put_nothing}
use Rattle.reference.proofs.tables.put_rows.Goals as goal

pub loop-row-init : goal.loop-row-init
unfolding size
loop-row-init c = let f = c.flags_length-offset.ensures in
    let b : c.flags_length-offset.result ≤ 3 = rw c.flags_length-offset.ensures (flags_most c.args.kind) in
    record { wrote = put_nothing _ (omega arith); place = omega (arith, f); small = omega arith }

pub overflow_add-offset : goal.overflow_add-offset
overflow_add-offset c = let w : c.width_length.result ≤ 3 = rw c.width_length.ensures (width_most (get_or c.args.rows.now c.loop-row.row-index no_row).2) in
    let m : length c.args.rows.now ≤ 20 = c.requires in
    let i : c.loop-row.row-index < length c.args.rows.now = c.loop-row-test.true in
    let n : c.loop-row.row-index ≤ 20 = omega arith in
    let o = c.loop-row.invariant.small in search rules

pub loop-row-preserved : goal.loop-row-preserved
loop-row-preserved c = let s = c.args in let h = c.loop-row.invariant in
    let w : c.width_length.result ≤ 3 = rw c.width_length.ensures (width_most (get_or s.rows.now c.loop-row.row-index no_row).2) in
    let n = next_size (flags_octets s.kind) s.rows.now c.loop-row.row-index no_row (get_or s.rows.now c.loop-row.row-index no_row) refl c.loop-row-test.true in record {
      wrote = next_line s.kind (flags_octets s.kind) s.rows.now c.loop-row.row-index c.loop-row.offset no_row (get_or s.rows.now c.loop-row.row-index no_row) refl c.loop-row-test.true
          h.place h.wrote c.put_row.ensures;
      place = omega (arith, n, c.width_length.ensures, h.place);
      small = omega (arith, w, h.small);
    }

pub returns : goal.returns
returns c = let s = c.args in all_lines s.kind (flags_octets s.kind) s.rows.now c.loop-row.row-index c.loop-row-test.false c.loop-row.invariant.wrote
