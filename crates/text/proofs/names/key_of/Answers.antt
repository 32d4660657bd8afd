-- `key_of` meets its contract: its table is the list of names. Assumes nothing.
use mathlib.Core.Path.{sym, ap}
use lib.ListN.{get_or-eq_default}
use Rattle.text.specs.Names.{name, names}
use Rattle.text.specs.Text.{ascii}
use Rattle.text.proofs.Keys.{referred, mapped}
use Rattle.text.proofs.names.key_of.Goals as goal

pub returns-then-field-lt31 : goal.returns-then-field-lt31
unfolding name names
returns-then-field-lt31 c = rw referred (mapped ascii names c.args.field _ "" c.if-field-lt31.true)

pub returns-else-field-lt31 : goal.returns-else-field-lt31
unfolding name names
returns-else-field-lt31 c = sym (ap ascii (get_or-eq_default names "" c.if-field-lt31.false))
