-- `put_first` meets its contract. Assumes nothing.
use Rattle.reference.specs.Header.{first_macros}
use Rattle.text.proofs.Writing.{put_then}
use Rattle.reference.proofs.header.put_first.Goals as goal

pub returns : goal.returns
unfolding first_macros
returns c = rw (← c.flags_length.ensures) (put_then c.put_number.ensures c.put_number-2.ensures)
