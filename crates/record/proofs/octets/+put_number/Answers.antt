-- `put_number` meets its contract, octet by octet. Assumes nothing.
use mathlib.Core.Path.{◌∙◌}
use Rattle.record.proofs.OctetLaws.{placed_none, placed_more}
use Rattle.record.proofs.octets.+put_number.Goals as goal

pub returns-then-octets-eq0 : goal.returns-then-octets-eq0
returns-then-octets-eq0 t c = rw c.if-octets-eq0.true (placed_none _ _ _)

pub returns : goal.returns
returns t c = c.put_number.ensures ∙ placed_more c.args.octets c.args.x c.args.out.now c.args.at c.if-octets-eq0.false
