-- `well_formed` meets its contract. Assumes nothing.
use Rattle.record.proofs.formed.well_formed.Goals as goal

pub returns : goal.returns
returns c = rw (c.formed.ensures, c.from.ensures)
