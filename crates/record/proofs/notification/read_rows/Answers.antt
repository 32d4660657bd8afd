use Prim.Native.Nat.{ℕ, ◌≤◌, ◌<◌}
use mathlib.Core.Path.{◌≡◌, sym, ap, ◌∙◌}
use mathlib.Core.List.{[]}
use native.Mathlib.Omega.{arith}
use lib.ListN.{length, get_or, drop, drop_of_length-le}
use Rattle.record.specs.Layout.{layout, octets_of, no_row}
use Rattle.record.specs.Groups.{has, named, flags_octets}
use Rattle.record.specs.Notification.{read_into, values}
use Rattle.record.proofs.Reading.{read_next, read_none, taken_most}
use Rattle.record.proofs.Tables.{rows_most, flags_most, width_most}
use Rattle.record.proofs.notification.read_rows.Goals as goal

pub loop-row-init : goal.loop-row-init
unfolding values
loop-row-init c = let a = c.args in
    let f : flags_octets a.kind ≤ 3 = flags_most a.kind in (
      omega (arith, c.flags_length-at.ensures),
      ap (λ (n : ℕ). read_into (named a.set (layout a.kind)) (drop n a.notification.now) a.numbers.now) c.flags_length-at.ensures,
    )

pub read_row-at-requires : goal.read_row-at-requires
read_row-at-requires c = let kind = c.args.kind in
    let n : length (layout kind) ≤ 20 = rows_most kind in
    let i : c.loop-row.row-index < length (layout kind) = rw (← c.rows-row-items.ensures) c.loop-row-test.true in
    omega arith

pub loop-row-preserved : goal.loop-row-preserved
loop-row-preserved c = let a = c.args in
    let r = get_or c.rows-row-items.result.now c.loop-row.row-index no_row in
    let w : octets_of r.2 ≤ 3 = width_most r.2 in
    let i : c.loop-row.row-index < length (layout a.kind) = rw (← c.rows-row-items.ensures) c.loop-row-test.true in (
      rw c.read_row-at.ensures.value (taken_most (has a.set r.0) (octets_of r.2) c.loop-row.at c.loop-row.row-index w (omega arith)),
      rw (c.read_row-at.ensures.value, c.read_row-at.ensures.numbers_after)
          (read_next a.set (layout a.kind) c.loop-row.row-index r a.notification.now c.loop-row.at c.loop-row.numbers (rw c.rows-row-items.ensures) i
          ∙ c.loop-row.invariant.1),
    )

pub returns : goal.returns
returns c = let a = c.args in
    let n : length (layout a.kind) ≤ c.loop-row.row-index = rw (← c.rows-row-items.ensures) c.loop-row-test.false in
    let e : drop c.loop-row.row-index (layout a.kind) ≡ [] = drop_of_length-le (layout a.kind) n in
    sym (read_none a.set (drop c.loop-row.row-index (layout a.kind)) _ _ e) ∙ c.loop-row.invariant.1
