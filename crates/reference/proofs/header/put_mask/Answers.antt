-- `put_mask` meets its contract, where the group begins. Assumes nothing.
use borrow.Author.Tests.{ne_eqb}
use Rattle.reference.specs.Header.{mask_line}
use Rattle.text.proofs.Writing.{put_then}
use Rattle.reference.proofs.header.put_mask.Goals as goal

pub returns : goal.returns
unfolding mask_line
returns c = rw (ne_eqb _ _ c.if-bit-before.false, ← c.group_name.ensures)
    (put_then (put_then (put_then (put_then (put_then c.put_prefix.ensures c.put_bytes.ensures) c.put_capitals.ensures) c.put_bytes-2.ensures) c.put_decimal.ensures) c.put_bytes-3.ensures)
