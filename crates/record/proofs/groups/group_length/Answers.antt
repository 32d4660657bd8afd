-- `group_length` meets its contract: the table has the octets of each group. Assumes nothing.
use mathlib.Core.Path.{sym, ◌∙◌}
use Rattle.record.specs.Layout.{treadmill, cross_trainer, step_climber, stair_climber, rower, indoor_bike}
use Rattle.record.specs.Groups.{has, named, size}
use Rattle.record.proofs.Lengths.{at_kind, past_bits, unknown_kind}
use Rattle.record.proofs.groups.group_length.Goals as goal

pub returns-then-not-is_known : goal.returns-then-not-is_known
returns-then-not-is_known c = sym (unknown_kind c.args.kind c.args.bit (sym c.is_known.ensures ∙ c.if-not-is_known.true))

pub returns-then-bit-ge-BITS : goal.returns-then-bit-ge-BITS
returns-then-bit-ge-BITS c = sym (past_bits c.args.kind c.args.bit c.if-bit-ge-BITS.true)

pub returns : goal.returns
unfolding treadmill cross_trainer step_climber stair_climber rower indoor_bike has named size
returns c = at_kind c.args.kind c.args.bit (sym c.is_known.ensures ∙ c.if-not-is_known.false) c.if-bit-ge-BITS.false
