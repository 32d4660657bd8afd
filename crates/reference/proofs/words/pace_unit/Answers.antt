-- `pace_unit` meets its contract. Assumes nothing.
use native.Mathlib.Omega.{arith}
use borrow.Author.Tests.{ne_eqb}
use Rattle.record.specs.Layout.{pace, average_pace}
use Rattle.reference.proofs.words.pace_unit.Goals as goal

pub returns-in-11 : goal.returns-in-11
returns-in-11 c = rw c.in-11.is

pub returns-in-12 : goal.returns-in-12
returns-in-12 c = rw c.in-12.is

pub returns-in_default : goal.returns-in_default
returns-in_default c = rw (ne_eqb c.args.field pace (omega arith), ne_eqb c.args.field average_pace (omega arith))
