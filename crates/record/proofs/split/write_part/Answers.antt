-- `write_part` meets its contract: each return cites what the tests before it found. Assumes nothing.
use Prim.Native.Nat.{ℕ, ◌+◌, ◌-◌, ◌≤◌}
use mathlib.Core.Path.{sym, ap, ◌∙◌}
use native.Mathlib.Omega.{arith}
use lib.ListN.{length}
use Rattle.record.specs.Groups.{flags_octets, set_length}
use Rattle.record.specs.Octets.{placed}
use Rattle.record.specs.Split.{set_at, octets}
use Rattle.record.proofs.OctetLaws.{placed_over}
use Rattle.record.proofs.Tables.{flags_most, octets_most}
use Rattle.record.proofs.Steps.{cut_most}
use Rattle.record.proofs.Parts.{octets_length, no_part, too_short, whole_part}
use Rattle.record.proofs.split.write_part.Goals as goal

pub returns-then-parts-part-clause-result_value : goal.returns-then-parts-part-clause-result_value
returns-then-parts-part-clause-result_value c = sym (no_part _ _ _ _ _ _ _ (rw (← c.cut_part-cut.ensures.parts_value) c.if-parts-part.true))

pub returns-then-parts-part-clause-out_after : goal.returns-then-parts-part-clause-out_after
returns-then-parts-part-clause-out_after c = let w = c.args.wire.now in
    rw (no_part w.kind w.groups w.direction w.numbers c.args.payload c.args.part (length c.args.out.now) (rw (← c.cut_part-cut.ensures.parts_value) c.if-parts-part.true))

pub overflow_add-length : goal.overflow_add-length
overflow_add-length c = let w = c.args.wire.now in
    record { fits = omega (arith, c.flags_length.ensures, c.groups_length.ensures, flags_most w.kind, octets_most w.kind c.cut_part-cut.result.set) }

pub returns-then-out-length-clause-result_value : goal.returns-then-out-length-clause-result_value
returns-then-out-length-clause-result_value c = sym (too_short _ _ _ _ _ _ _ (rw (← c.cut_part-cut.ensures.parts_value) c.if-parts-part.false) (rw (← c.cut_part-cut.ensures.set_value, ← c.groups_length.ensures, ← c.flags_length.ensures) c.if-out-length.true))

pub returns-then-out-length-clause-out_after : goal.returns-then-out-length-clause-out_after
returns-then-out-length-clause-out_after c = let w = c.args.wire.now in
    rw (too_short w.kind w.groups w.direction w.numbers c.args.payload c.args.part (length c.args.out.now) (rw (← c.cut_part-cut.ensures.parts_value) c.if-parts-part.false)
    (rw (← c.cut_part-cut.ensures.set_value, ← c.groups_length.ensures, ← c.flags_length.ensures) c.if-out-length.true))

pub put_part-requires : goal.put_part-requires
put_part-requires c = let w = c.args.wire.now in
    let m : set_at w.kind w.groups c.args.payload c.args.part ≤ 1 + w.groups = cut_most w.kind (c.args.payload - flags_octets w.kind) 16 w.groups c.args.part in
    rw c.cut_part-cut.ensures.set_value (omega arith)

pub returns-clause-result_value : goal.returns-clause-result_value
returns-clause-result_value c = let w = c.args.wire.now in
    rw (
      whole_part w.kind w.groups w.direction w.numbers c.args.payload c.args.part (length c.args.out.now) (rw (← c.cut_part-cut.ensures.parts_value) c.if-parts-part.false)
          (rw (← c.cut_part-cut.ensures.set_value, ← c.groups_length.ensures, ← c.flags_length.ensures) c.if-out-length.false),
      c.flags_length.ensures,
      c.groups_length.ensures,
      c.cut_part-cut.ensures.set_value,
      c.cut_part-cut.ensures.parts_value,
    )

pub returns-clause-out_after : goal.returns-clause-out_after
returns-clause-out_after c = let w = c.args.wire.now in
    let set = set_at w.kind w.groups c.args.payload c.args.part in
    let fit : flags_octets w.kind + set_length w.kind set ≤ length c.args.out.now = rw (← c.cut_part-cut.ensures.set_value, ← c.groups_length.ensures, ← c.flags_length.ensures) c.if-out-length.false in
    rw (whole_part w.kind w.groups w.direction w.numbers c.args.payload c.args.part (length c.args.out.now) (rw (← c.cut_part-cut.ensures.parts_value) c.if-parts-part.false) fit)
    (c.put_part.ensures ∙ ap (λ (n : ℕ). placed c.args.out.now 0 (octets w.kind n w.direction w.numbers)) c.cut_part-cut.ensures.set_value
    ∙ placed_over c.args.out.now (octets w.kind set w.direction w.numbers) (rw (octets_length w.kind set w.direction w.numbers) fit))
