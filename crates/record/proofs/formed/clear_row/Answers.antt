-- `clear_row` meets its contract: by whether the row's group is in the set. Assumes nothing.
use mathlib.Core.Path.{sym, ◌∙◌}
use Rattle.record.specs.Groups.{named}
use Rattle.record.specs.Record.{others}
use Rattle.record.proofs.formed.clear_row.Goals as goal

pub returns-then-has : goal.returns-then-has
unfolding named others
returns-then-has c = rw (sym c.has.ensures ∙ c.if-has.true, c.put_number.ensures)

pub returns-else-has : goal.returns-else-has
unfolding named others
returns-else-has c = rw (sym c.has.ensures ∙ c.if-has.false)
