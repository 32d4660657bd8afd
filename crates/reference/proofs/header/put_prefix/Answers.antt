-- `put_prefix` meets its contract. Assumes nothing.
use Rattle.reference.specs.Header.{prefix}
use Rattle.text.proofs.Writing.{put_then}
use Rattle.reference.proofs.header.put_prefix.Goals as goal

pub returns : goal.returns
unfolding prefix
returns c = put_then c.put_bytes.ensures (rw c.kind_name.ensures at c.put_capitals.ensures)
