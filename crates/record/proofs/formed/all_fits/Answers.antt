use mathlib.Core.Path.{sym, ◌∙◌}
use Rattle.std.proofs.Common.{rules}
use Rattle.record.specs.Layout.{layout}
use Rattle.record.proofs.Turns.{fit_turn, fit_end}
use Rattle.record.proofs.formed.all_fits.Goals as goal

pub returns-then-not-row_fits : goal.returns-then-not-row_fits
returns-then-not-row_fits c = let a = c.args in
    fit_turn a.set (layout a.kind) c.loop-row.row-index _ (rw c.rows-row-items.ensures) (rw (← c.rows-row-items.ensures) c.loop-row-test.true) a.numbers.now
    (sym c.if-not-row_fits.true ∙ c.row_fits.ensures) c.loop-row.invariant

pub loop-row-preserved : goal.loop-row-preserved
loop-row-preserved c = let a = c.args in
    fit_turn a.set (layout a.kind) c.loop-row.row-index _ (rw c.rows-row-items.ensures) (rw (← c.rows-row-items.ensures) c.loop-row-test.true) a.numbers.now
    (sym c.if-not-row_fits.false ∙ c.row_fits.ensures) c.loop-row.invariant

pub returns : goal.returns
returns c = let a = c.args in
    sym (fit_end a.set (layout a.kind) c.loop-row.row-index (search rules) a.numbers.now) ∙ c.loop-row.invariant
