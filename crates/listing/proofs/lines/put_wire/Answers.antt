-- `put_wire` meets its contract. Assumes nothing.
use native.Mathlib.Omega.{arith}
use Rattle.text.proofs.Writing.{put_then}
use Rattle.listing.proofs.Rows.{plain_text, minus_text}
use Rattle.listing.proofs.lines.put_wire.Goals as goal

pub returns-then-w-lt32768 : goal.returns-then-w-lt32768
returns-then-w-lt32768 c = rw (plain_text _ c.if-w-lt32768.true) c.put_decimal.ensures

pub returns : goal.returns
returns c = rw (minus_text _ c.if-w-lt32768.false (omega arith)) (put_then c.put_byte.ensures c.put_decimal-2.ensures)
