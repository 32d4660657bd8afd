use Prim.Native.Nat.{ℕ, ◌+◌, ◌%◌, ◌^◌, ◌≤◌}
use mathlib.Core.Path.{◌≡◌, sym, ap, ap₂, ◌∙◌}
use native.Mathlib.Nat.{mod-one}
use native.Mathlib.Omega.{arith}
use Rattle.record.specs.Groups.{set_length}
use Rattle.record.proofs.Sets.{mod_next, mod_stays, one_bit}
use Rattle.record.proofs.Tables.{octets_most, length_none, length_next, length_stays}
use Rattle.record.proofs.Runs.{run_stops, run_whole}
use Rattle.record.proofs.split.run.Goals as goal
use Rattle.record.proofs.split.run.Goals.{then-has+else-room-used, else-has}

pub loop-bit-init : goal.loop-bit-init
loop-bit-init c = (omega arith, sym (mod-one c.args.set), sym (length_none c.args.kind c.args.set), omega arith)

pub overflow_add-used : goal.overflow_add-used
overflow_add-used c = let a = c.args in
    let h : set_length a.kind (a.set % 2 ^ (c.loop-bit.bit + 1)) ≤ 64 = octets_most a.kind (a.set % 2 ^ (c.loop-bit.bit + 1)) in
    record {
      fits = omega (
        arith,
        (let a = c.args in
            ap₂ ◌+◌ c.loop-bit.invariant.2 c.group_length-used.ensures
            ∙ sym (length_next a.kind a.set c.loop-bit.bit (sym c.has.ensures ∙ c.if-has.true))),
      );
    }

pub returns-then-room-used : goal.returns-then-room-used
returns-then-room-used c = let a = c.args in
    c.loop-bit.invariant.1
    ∙ run_stops a.kind a.set a.room c.loop-bit.bit (omega arith) (rw c.loop-bit.invariant.2 at c.loop-bit.invariant.3) (rw ((let a = c.args in
    ap₂ ◌+◌ c.loop-bit.invariant.2 c.group_length-used.ensures
    ∙ sym (length_next a.kind a.set c.loop-bit.bit (sym c.has.ensures ∙ c.if-has.true)))) at c.if-room-used.true)

pub loop-bit-preserved : goal.loop-bit-preserved
loop-bit-preserved c =
    let a = c.args in
    let v = c.loop-bit.invariant in
    elim c.if-has.branch [
      | then-has+else-room-used w ↦
          let in_set = sym c.has.ensures ∙ w.if-has.true in (
            omega arith,
            w.taken-is ∙ rw (one_bit c.loop-bit.bit (omega arith), v.1) (sym (mod_next a.set c.loop-bit.bit in_set)),
            w.used-is ∙ ap₂ ◌+◌ v.2 w.group_length-used.ensures ∙ sym (length_next a.kind a.set c.loop-bit.bit in_set),
            rw w.used-is w.if-room-used.false,
          )
      | else-has w ↦
          let out = sym c.has.ensures ∙ w.if-has.false in (
            omega arith,
            w.taken-is ∙ v.1 ∙ sym (mod_stays a.set c.loop-bit.bit out),
            w.used-is ∙ v.2 ∙ sym (length_stays a.kind a.set c.loop-bit.bit out),
            rw w.used-is v.3,
          )
    ]

pub returns : goal.returns
returns c = let a = c.args in
    let e : c.loop-bit.bit ≡ 15 = omega arith in
    c.loop-bit.invariant.1 ∙ ap (λ (b : ℕ). a.set % 2 ^ b) e
    ∙ run_whole a.kind a.set a.room (rw (c.loop-bit.invariant.2, e) at c.loop-bit.invariant.3)
