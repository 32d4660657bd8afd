-- `unit` meets its contract. Assumes nothing.
use Rattle.reference.proofs.words.unit.Goals as goal

pub returns-in-7 : goal.returns-in-7
returns-in-7 c = rw c.in-7.is

pub returns-in-8 : goal.returns-in-8
returns-in-8 c = rw c.in-8.is
