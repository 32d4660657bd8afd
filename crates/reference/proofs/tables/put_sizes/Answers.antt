-- `put_sizes` meets its contract. Assumes nothing.
use Prim.Native.Nat.{◌≤◌}
use borrow.Author.Rules.{rules}
use Rattle.reference.specs.Tables.{sizes}
use Rattle.reference.proofs.Lengths.{whole_most}
use Rattle.text.proofs.Writing.{put_then}
use Rattle.reference.proofs.tables.put_sizes.Goals as goal

pub overflow_cast-whole_length : goal.overflow_cast-whole_length
overflow_cast-whole_length c = let w : c.whole_length.result ≤ 67 = rw c.whole_length.ensures (whole_most c.args.kind) in search rules

pub returns : goal.returns
unfolding sizes
returns c = rw (← c.whole_length.ensures, ← c.flags_length.ensures)
    (put_then (put_then (put_then (put_then c.put_bytes.ensures c.put_decimal.ensures) c.put_bytes-2.ensures) c.put_decimal-2.ensures) c.put_bytes-3.ensures)
