-- `row_fits` meets its contract: by whether the row's group is in the set. Assumes nothing.
use mathlib.Core.Path.{sym, ◌∙◌}
use mathlib.Core.Bool.{and-true}
use Rattle.record.specs.Groups.{named}
use Rattle.record.specs.Record.{all_fit}
use Rattle.record.proofs.formed.row_fits.Goals as goal

pub returns-then-has : goal.returns-then-has
unfolding named all_fit
returns-then-has c = rw (sym c.has.ensures ∙ c.if-has.true, c.limit.ensures, c.number_at.ensures, and-true)

pub returns : goal.returns
unfolding named all_fit
returns c = rw (sym c.has.ensures ∙ c.if-has.false)
