-- `put_all` meets its contract. Assumes nothing.
use Rattle.reference.specs.Header.{all_macro}
use Rattle.text.proofs.Writing.{put_then}
use Rattle.reference.proofs.header.put_all.Goals as goal

pub returns : goal.returns
unfolding all_macro
returns c = rw (← c.listed-all.ensures)
    (put_then (put_then (put_then (put_then c.put_prefix.ensures c.put_bytes.ensures) c.put_hex.ensures) c.put_hex-2.ensures) c.put_bytes-2.ensures)
