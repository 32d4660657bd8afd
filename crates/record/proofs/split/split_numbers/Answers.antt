-- `split_numbers` meets its contract: each return rewrites with the tests that led there. Assumes nothing.
use Prim.Native.Nat.{◌≤◌, ◌<◌, ◌%◌}
use mathlib.Core.Path.{◌≡◌, refl, sym, ◌∙◌}
use native.Mathlib.Omega.{arith}
use borrow.Author.Tests.{leb-true}
use lib.Dec.{leb}
use Rattle.record.specs.Split.{split_wire}
use Rattle.record.proofs.Tests.{and_l}
use Rattle.record.proofs.Records.{formed_listed}
use Rattle.record.proofs.Parts.{listed_groups_low, listed_groups_even}
use Rattle.record.proofs.split.split_numbers.Goals as goal

pub returns-then-not-is_known-clause-result_value : goal.returns-then-not-is_known-clause-result_value
unfolding split_wire
returns-then-not-is_known-clause-result_value c = rw (sym c.is_known.ensures ∙ c.if-not-is_known.true) refl

pub returns-then-not-is_known-clause-out_after : goal.returns-then-not-is_known-clause-out_after
unfolding split_wire
returns-then-not-is_known-clause-out_after c = rw (sym c.is_known.ensures ∙ c.if-not-is_known.true) refl

pub returns-then-not-is_payload-clause-result_value : goal.returns-then-not-is_payload-clause-result_value
unfolding split_wire
returns-then-not-is_payload-clause-result_value c = rw ((sym c.is_known.ensures ∙ c.if-not-is_known.false), (sym c.is_payload.ensures ∙ c.if-not-is_payload.true)) refl

pub returns-then-not-is_payload-clause-out_after : goal.returns-then-not-is_payload-clause-out_after
unfolding split_wire
returns-then-not-is_payload-clause-out_after c = rw ((sym c.is_known.ensures ∙ c.if-not-is_known.false), (sym c.is_payload.ensures ∙ c.if-not-is_payload.true)) refl

pub returns-then-not-formed-clause-result_value : goal.returns-then-not-formed-clause-result_value
unfolding split_wire
returns-then-not-formed-clause-result_value c = rw ((sym c.is_known.ensures ∙ c.if-not-is_known.false), (sym c.is_payload.ensures ∙ c.if-not-is_payload.false), (sym c.formed.ensures ∙ c.if-not-formed.true)) refl

pub returns-then-not-formed-clause-out_after : goal.returns-then-not-formed-clause-out_after
unfolding split_wire
returns-then-not-formed-clause-out_after c = rw ((sym c.is_known.ensures ∙ c.if-not-is_known.false), (sym c.is_payload.ensures ∙ c.if-not-is_payload.false), (sym c.formed.ensures ∙ c.if-not-formed.true)) refl

pub write_part-requires : goal.write_part-requires
write_part-requires c = let a = c.args in
    let g = formed_listed a.wire.now.kind a.wire.now.groups a.wire.now.direction a.wire.now.numbers ((sym c.formed.ensures ∙ c.if-not-formed.false)) in
    let l : a.wire.now.groups < 32768 = listed_groups_low a.wire.now.kind a.wire.now.groups g in
    let z : a.wire.now.groups % 2 ≡ 0 = listed_groups_even a.wire.now.kind a.wire.now.groups g in
    let p : 20 ≤ a.payload = leb-true 20 a.payload (and_l (leb 20 a.payload) (leb a.payload 512) ((sym c.is_payload.ensures ∙ c.if-not-is_payload.false))) in
    (omega arith, p)

pub returns-clause-result_value : goal.returns-clause-result_value
unfolding split_wire
returns-clause-result_value c = rw ((sym c.is_known.ensures ∙ c.if-not-is_known.false), (sym c.is_payload.ensures ∙ c.if-not-is_payload.false), (sym c.formed.ensures ∙ c.if-not-formed.false)) c.write_part.ensures.result_value

pub returns-clause-out_after : goal.returns-clause-out_after
unfolding split_wire
returns-clause-out_after c = rw ((sym c.is_known.ensures ∙ c.if-not-is_known.false), (sym c.is_payload.ensures ∙ c.if-not-is_payload.false), (sym c.formed.ensures ∙ c.if-not-formed.false)) c.write_part.ensures.out_after
