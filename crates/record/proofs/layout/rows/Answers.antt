-- `rows` meets its contract, kind by kind. Assumes nothing.
use Rattle.record.specs.Layout.{layout, tables, treadmill, cross_trainer, step_climber, stair_climber, rower, indoor_bike}
use Rattle.record.proofs.Arms.{no_kind}
use Rattle.record.proofs.layout.rows.Goals as goal

pub returns-in-1 : goal.returns-in-1
unfolding layout tables treadmill
returns-in-1 c = rw c.in-1.is

pub returns-in-2 : goal.returns-in-2
unfolding layout tables cross_trainer
returns-in-2 c = rw c.in-2.is

pub returns-in-3 : goal.returns-in-3
unfolding layout tables step_climber
returns-in-3 c = rw c.in-3.is

pub returns-in-4 : goal.returns-in-4
unfolding layout tables stair_climber
returns-in-4 c = rw c.in-4.is

pub returns-in-5 : goal.returns-in-5
unfolding layout tables rower
returns-in-5 c = rw c.in-5.is

pub returns-in-6 : goal.returns-in-6
unfolding layout tables indoor_bike
returns-in-6 c = rw c.in-6.is

pub returns-in_default : goal.returns-in_default
unfolding layout tables
returns-in_default c = rw (no_kind _ c.in_default.in_default-own.rest)
