-- `step` meets its contract: a walk that has ended, its beginning, and what follows the kind. Assumes nothing.
use native.Mathlib.Omega.{arith}
use Rattle.listing.proofs.Steps.{over, at_first, behind_kind, stopped}
use Rattle.listing.proofs.walk.step.Goals as goal

pub returns-then-walk : goal.returns-then-walk
returns-then-walk c = let s = c.args in
    rw (over s.walk s.capture.now c.if-walk.true) (stopped s.walk _ (omega arith) c.end.ensures)

pub returns-then-walk-eq0 : goal.returns-then-walk-eq0
returns-then-walk-eq0 c = let s = c.args in
    rw (at_first s.walk s.capture.now c.if-walk.false c.if-walk-eq0.true) c.judge.ensures

pub returns : goal.returns
returns c = let s = c.args in
    rw (behind_kind s.walk s.capture.now c.if-walk.false c.if-walk-eq0.false) c.advance.ensures
