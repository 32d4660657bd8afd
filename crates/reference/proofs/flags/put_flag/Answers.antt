-- `put_flag` meets its contract, where the group begins. Assumes nothing.
use borrow.Author.Tests.{ne_eqb}
use Rattle.reference.specs.Tables.{flag_line}
use Rattle.text.proofs.Writing.{put_then}
use Rattle.reference.proofs.flags.put_flag.Goals as goal

pub returns : goal.returns
unfolding flag_line
returns c = rw (ne_eqb _ _ c.if-bit-before.false, ← c.group_name.ensures)
    (put_then (put_then (put_then (put_then c.put_bytes.ensures c.put_decimal.ensures) c.put_bytes-2.ensures) c.put_bytes-3.ensures) c.put_bytes-4.ensures)
