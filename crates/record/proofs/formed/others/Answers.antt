use mathlib.Core.Path.{sym, ◌∙◌}
use Rattle.std.proofs.Common.{rules}
use Rattle.record.specs.Layout.{layout}
use Rattle.record.proofs.Turns.{others_turn, others_end}
use Rattle.record.proofs.formed.others.Goals as goal

pub loop-row-preserved : goal.loop-row-preserved
loop-row-preserved c = let a = c.args in
    others_turn a.set (layout a.kind) c.loop-row.row-index _ (rw c.rows-row-items.ensures) (rw (← c.rows-row-items.ensures) c.loop-row-test.true) c.loop-row.v
    c.clear_row.ensures c.loop-row.invariant

pub returns : goal.returns
returns c = let a = c.args in
    sym (others_end a.set (layout a.kind) c.loop-row.row-index (search rules) c.loop-row.v) ∙ c.loop-row.invariant
