-- `shared_name` meets its contract, range by range. Assumes nothing.
use Prim.Native.Nat.{◌≤◌, ◌<◌}
use native.Mathlib.Omega.{arith}
use Rattle.record.proofs.Tests.{leb_true, leb_false}
use Rattle.reference.proofs.words.shared_name.Goals as goal

pub returns-in-0-to-8 : goal.returns-in-0-to-8
returns-in-0-to-8 c = let h : c.args.field ≤ 8 = omega arith in rw (leb_true h)

pub returns-in-0-to-10 : goal.returns-in-0-to-10
returns-in-0-to-10 c = let h : 8 < c.args.field = omega arith in let k : c.args.field ≤ 10 = omega arith in rw (leb_false h, leb_true k)

pub returns-in-0-to-15 : goal.returns-in-0-to-15
returns-in-0-to-15 c = let h : 8 < c.args.field = omega arith in let i : 10 < c.args.field = omega arith in let k : c.args.field ≤ 15 = omega arith in
    rw (leb_false h, leb_false i, leb_true k)

pub returns-in-0-to-21 : goal.returns-in-0-to-21
returns-in-0-to-21 c = let h : 8 < c.args.field = omega arith in let i : 10 < c.args.field = omega arith in let j : 15 < c.args.field = omega arith in
    let k : c.args.field ≤ 21 = omega arith in rw (leb_false h, leb_false i, leb_false j, leb_true k)

pub returns-in_default : goal.returns-in_default
returns-in_default c = let h : 8 < c.args.field = omega arith in let i : 10 < c.args.field = omega arith in let j : 15 < c.args.field = omega arith in
    let k : 21 < c.args.field = omega arith in rw (leb_false h, leb_false i, leb_false j, leb_false k)
