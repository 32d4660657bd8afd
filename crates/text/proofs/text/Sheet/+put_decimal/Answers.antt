-- `put_decimal` meets its contract: the digits of n / 10, then the last.
use native.Mathlib.Omega.{arith}
use Rattle.text.proofs.Writing.{put_then, more_digits}
use Rattle.text.proofs.text.Sheet.+put_decimal.Goals as goal

pub returns : goal.returns
returns t c = rw (more_digits c.args.n (omega arith), ← c.digit-2.ensures) (put_then c.put_decimal.ensures c.put_byte-2.ensures)
