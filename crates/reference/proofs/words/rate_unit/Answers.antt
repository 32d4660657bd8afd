-- `rate_unit` meets its contract. Assumes nothing.
use borrow.Author.Tests.{eq-eqb, ne_eqb}
use Rattle.record.specs.Layout.{step_rate}
use Rattle.reference.proofs.words.rate_unit.Goals as goal

pub returns-then-field-eq-STEP_RATE : goal.returns-then-field-eq-STEP_RATE
returns-then-field-eq-STEP_RATE c = rw (eq-eqb _ step_rate c.if-field-eq-STEP_RATE.true)

pub returns : goal.returns
returns c = rw (ne_eqb _ step_rate c.if-field-eq-STEP_RATE.false, ne_eqb _ 5 c.if-kind-eq-ROWER.false)
