use Prim.Native.Nat.{◌≤◌, ◌<◌}
use mathlib.Core.Path.{◌≡◌, sym, ◌∙◌}
use mathlib.Core.List.{[]}
use native.Mathlib.Omega.{arith}
use lib.ListN.{length, get_or, drop, drop_of_length-le}
use Rattle.record.specs.Layout.{layout, octets_of, no_row}
use Rattle.record.specs.Groups.{has}
use Rattle.record.proofs.Reading.{taken_most}
use Rattle.record.proofs.Writing.{write_next, write_none}
use Rattle.record.proofs.Tables.{rows_most, width_most}
use Rattle.record.proofs.split.put_rows.Goals as goal

pub put_row-at-requires : goal.put_row-at-requires
put_row-at-requires c = let kind = c.args.kind in
    let n : length (layout kind) ≤ 20 = rows_most kind in
    let i : c.loop-row.row-index < length (layout kind) = rw (← c.rows-row-items.ensures) c.loop-row-test.true in
    omega arith

pub loop-row-preserved : goal.loop-row-preserved
loop-row-preserved c = let a = c.args in
    let r = get_or c.rows-row-items.result.now c.loop-row.row-index no_row in
    let w : octets_of r.2 ≤ 3 = width_most r.2 in
    let i : c.loop-row.row-index < length (layout a.kind) = rw (← c.rows-row-items.ensures) c.loop-row-test.true in (
      rw c.put_row-at.ensures.value (taken_most (has a.set r.0) (octets_of r.2) c.loop-row.at c.loop-row.row-index w (omega arith)),
      rw (c.put_row-at.ensures.value, c.put_row-at.ensures.out_after)
          (write_next a.set (layout a.kind) c.loop-row.row-index r a.numbers.now c.loop-row.out c.loop-row.at (rw c.rows-row-items.ensures) i
          ∙ c.loop-row.invariant.1),
    )

pub returns : goal.returns
returns c = let a = c.args in
    let n : length (layout a.kind) ≤ c.loop-row.row-index = rw (← c.rows-row-items.ensures) c.loop-row-test.false in
    let e : drop c.loop-row.row-index (layout a.kind) ≡ [] = drop_of_length-le (layout a.kind) n in
    sym (write_none a.set (drop c.loop-row.row-index (layout a.kind)) a.numbers.now c.loop-row.out c.loop-row.at e) ∙ c.loop-row.invariant.1
