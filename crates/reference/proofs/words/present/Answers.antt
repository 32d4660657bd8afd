-- `present` meets its contract. Assumes nothing.
use native.Mathlib.Omega.{arith}
use borrow.Author.Tests.{ne_eqb}
use Rattle.reference.proofs.words.present.Goals as goal

pub returns-in-0 : goal.returns-in-0
returns-in-0 c = rw c.in-0.is

pub returns-in_default : goal.returns-in_default
returns-in_default c = rw (ne_eqb c.args.bit 0 (omega arith))
