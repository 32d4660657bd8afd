-- `advance` meets its contract: the end of the capture, 37, or one notification. Assumes nothing.
use native.Mathlib.Omega.{arith}
use lib.ListN.{drop, length-drop}
use Rattle.listing.proofs.Steps.{no_more, breaks, moves, stopped}
use Rattle.listing.proofs.walk.advance.Goals as goal

pub returns-then-capture-position : goal.returns-then-capture-position
returns-then-capture-position c = let s = c.args in
    rw (no_more s.walk (drop s.walk.position s.capture.now) (omega (arith, length-drop s.walk.position s.capture.now)))
    (stopped s.walk _ (omega arith) c.end.ensures)

pub returns-then-left-size : goal.returns-then-left-size
returns-then-left-size c = let s = c.args in
    rw (breaks s.walk s.capture.now _ c.u16_at-size.ensures c.if-capture-position.false c.if-left-size.true) c.refuse.ensures

pub returns : goal.returns
returns c = let s = c.args in
    let n = c.put_notification.ensures in
    moves s.walk s.capture.now _ c.u16_at-size.ensures c.if-capture-position.false c.if-left-size.false n.wrote n.listing_value n.notification_len_bound
