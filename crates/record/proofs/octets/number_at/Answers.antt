-- `number_at` meets its contract, count by count. Assumes nothing.
use mathlib.Core.Path.{◌≡◌, sym}
use borrow.Author.Rules.{rules}
use Rattle.record.proofs.OctetLaws.{number_none, number_two, number_three, number_four, number_past}
use Rattle.record.proofs.octets.number_at.Goals as goal

pub returns-then-s-at : goal.returns-then-s-at
returns-then-s-at c = sym (number_past c.args.octets _ c.if-s-at.true)

pub returns-in-0 : goal.returns-in-0
returns-in-0 c = rw (c.in-0.is, number_none _)

pub returns-in-2 : goal.returns-in-2
returns-in-2 c = rw (c.in-2.is, number_two c.args.at c.args.s.now, c.u8_at-a.ensures, c.u8_at.ensures)

pub returns-in-3 : goal.returns-in-3
returns-in-3 c = rw (c.in-3.is, number_three c.args.at c.args.s.now, c.u8_at-a.ensures, c.u8_at-in-3.ensures, c.u8_at-in-3-2.ensures)

pub returns-in_default : goal.returns-in_default
returns-in_default c =
    let four : c.args.octets ≡ 4 = search rules in
    rw (four, number_four c.args.at c.args.s.now, c.u8_at-a.ensures, c.u8_at-in_default-3.ensures, c.u8_at-in_default.ensures, c.u8_at-in_default-2.ensures)
