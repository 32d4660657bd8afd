use Prim.Native.Nat.{ℕ, ◌+◌, ◌%◌, ◌^◌, ◌≤◌}
use mathlib.Core.Path.{◌≡◌, sym, ap, ap₂, ◌∙◌}
use native.Mathlib.Omega.{arith}
use Rattle.record.specs.Groups.{size, set_length}
use Rattle.record.proofs.Tables.{octets_most, all_named, length_next, length_stays, length_none}
use Rattle.record.proofs.groups.groups_length.Goals as goal
use Rattle.record.proofs.groups.groups_length.Goals.{then-has, else-has}

pub loop-bit-init : goal.loop-bit-init
loop-bit-init c = (omega arith, sym (length_none c.args.kind c.args.set))

pub overflow_add-sum : goal.overflow_add-sum
overflow_add-sum c =
    let s = c.args in
    let a : c.loop-bit.sum ≤ 64 = rw c.loop-bit.invariant.1 (octets_most s.kind (s.set % 2 ^ c.loop-bit.bit)) in
    let b : c.group_length-sum.result ≤ 64 = rw c.group_length-sum.ensures (octets_most s.kind (2 ^ c.loop-bit.bit)) in record { fits = omega arith }

pub loop-bit-preserved : goal.loop-bit-preserved
loop-bit-preserved c =
    let s = c.args in (
      omega arith,
      elim c.if-has.branch [
        | then-has w ↦ w.sum-is ∙ ap₂ ◌+◌ c.loop-bit.invariant.1 w.group_length-sum.ensures ∙ sym (length_next s.kind s.set c.loop-bit.bit (sym c.has.ensures ∙ w.if-has.true))
        | else-has w ↦ w.sum-is ∙ c.loop-bit.invariant.1 ∙ sym (length_stays s.kind s.set c.loop-bit.bit (sym c.has.ensures ∙ w.if-has.false))
      ],
    )

pub returns : goal.returns
returns c =
    let s = c.args in
    let e : c.loop-bit.bit ≡ 15 = omega arith in
    c.loop-bit.invariant.1 ∙ ap (λ (b : ℕ). set_length s.kind (s.set % 2 ^ b)) e ∙ ap size (all_named s.kind s.set)
