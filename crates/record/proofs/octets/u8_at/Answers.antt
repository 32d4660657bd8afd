-- `u8_at` meets its contract. Assumes nothing.
use mathlib.Core.Path.{sym}
use Rattle.record.proofs.OctetLaws.{number_one, number_past}
use Rattle.record.proofs.octets.u8_at.Goals as goal

pub returns-then-at-s : goal.returns-then-at-s
returns-then-at-s c = rw number_one

pub returns : goal.returns
returns c = sym (number_past 1 _ c.if-at-s.false)
