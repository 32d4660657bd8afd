-- `put_fields` meets its contract, row by row. Assumes nothing.
use native.Mathlib.Omega.{arith}
use Rattle.record.specs.Layout.{layout, no_row}
use Rattle.text.proofs.Writing.{put_nothing}
use Rattle.listing.proofs.Room.{fields_short}
use Rattle.listing.proofs.Rows.{next_row}
use Rattle.listing.proofs.lines.put_fields.Goals as goal

pub loop-row-init : goal.loop-row-init
loop-row-init c = put_nothing _ (omega arith)

pub loop-row-preserved : goal.loop-row-preserved
loop-row-preserved c = let s = c.args in
    next_row s.set s.numbers.now (layout s.kind) c.loop-row.row-index no_row _ (rw c.rows-row-items.ensures) (rw (← c.rows-row-items.ensures) c.loop-row-test.true)
    c.loop-row.invariant c.put_row.ensures

pub returns-clause-kind_len_bound : goal.returns-clause-kind_len_bound
returns-clause-kind_len_bound c = let s = c.args in fields_short s.set s.numbers.now (λ i. (c.type_inv.numbers i).fits) s.kind
