-- `list` meets its contract: measured first, then written if it fits. Assumes nothing.
use native.Mathlib.Omega.{arith}
use Rattle.listing.specs.Listing.{listing}
use Rattle.listing.proofs.Measured.{too_short, roomy_enough}
use Rattle.listing.proofs.capture.list.Goals as goal

pub returns-then-out-length-clause-result_value : goal.returns-then-out-length-clause-result_value
returns-then-out-length-clause-result_value c = let it = too_short (c.args.out.now) ((listing c.args.capture.now)) c.list_length-length.result c.list_length-length.ensures (omega arith) in it.0

pub returns-then-out-length-clause-out_after : goal.returns-then-out-length-clause-out_after
returns-then-out-length-clause-out_after c = let it = too_short (c.args.out.now) ((listing c.args.capture.now)) c.list_length-length.result c.list_length-length.ensures (omega arith) in it.1

pub returns-clause-result_value : goal.returns-clause-result_value
returns-clause-result_value c = let it = roomy_enough (c.args.out.now) ((listing c.args.capture.now)) c.list_length-length.result c.list_length-length.ensures c.new.ensures.octets c.new.ensures.position (omega arith) (omega arith) c.put_listing.ensures in it.0

pub returns-clause-out_after : goal.returns-clause-out_after
returns-clause-out_after c = let it = roomy_enough (c.args.out.now) ((listing c.args.capture.now)) c.list_length-length.result c.list_length-length.ensures c.new.ensures.octets c.new.ensures.position (omega arith) (omega arith) c.put_listing.ensures in let e = it.1 in grind arith
