use Prim.Native.Nat.{◌+◌, ◌-◌}
use mathlib.Core.Path.{◌≡◌, sym, ◌∙◌}
use mathlib.Core.Bool.{true, false}
use mathlib.Core.List.{[], ◌∷◌}
use native.Mathlib.Omega.{arith}
use borrow.Author.Tests.{le-leb, lt-leb}
use Rattle.record.specs.Split.{fits, run, cut}
use Rattle.record.proofs.Steps.{onward, arrived, cut_last, cut_more}
use Rattle.record.proofs.split.cut_at.Goals as goal

pub returns-then-groups_length-room : goal.returns-then-groups_length-room
returns-then-groups_length-room c = let a = c.args in
    let f : fits a.kind (1 + c.loop-parts.left) a.room ≡ true = le-leb _ _ (rw c.groups_length.ensures at c.if-groups_length-room.true) in
    let e : cut a.kind a.room c.loop-parts.left (16 - c.loop-parts.parts) ≡ (1 + c.loop-parts.left) ∷ [] =
    cut_last a.kind a.room c.loop-parts.left c.loop-parts.parts c.loop-parts-test.true f in
    rw c.chosen-last.ensures
    (arrived _ _ _ _ (onward _ (1 + c.loop-parts.left) [] a.part c.loop-parts.set c.loop-parts.parts (rw e at c.loop-parts.invariant.2)))

pub loop-parts-preserved : goal.loop-parts-preserved
loop-parts-preserved c = let a = c.args in
    let f : fits a.kind (1 + c.loop-parts.left) a.room ≡ false = lt-leb _ _ (rw c.groups_length.ensures at c.if-groups_length-room.false) in
    let r = run a.kind a.room c.loop-parts.left in
    let e : cut a.kind a.room c.loop-parts.left (16 - c.loop-parts.parts) ≡ r ∷ cut a.kind a.room (c.loop-parts.left - r) (16 - (c.loop-parts.parts + 1)) =
    cut_more a.kind a.room c.loop-parts.left c.loop-parts.parts c.loop-parts-test.true f in (
      omega arith,
      omega arith,
      rw (c.chosen-set.ensures, c.run-next.ensures)
          (onward _ r (cut a.kind a.room (c.loop-parts.left - r) (16 - (c.loop-parts.parts + 1))) a.part c.loop-parts.set c.loop-parts.parts (rw e at c.loop-parts.invariant.2)),
    )

pub returns : goal.returns
unfolding cut
returns c =
    let e : c.loop-parts.parts ≡ 16 = omega arith in
    let n : 16 - c.loop-parts.parts ≡ 0 = omega arith in
    let r = arrived _ _ _ _ (rw n at c.loop-parts.invariant.2) in (r.0, sym e ∙ r.1)
