-- `put_macros` meets its contract. Assumes nothing.
use Prim.Native.Nat.{◌≤◌}
use borrow.Author.Rules.{rules}
use Rattle.reference.proofs.Lengths.{whole_most}
use Rattle.reference.proofs.header.put_macros.Goals as goal

pub overflow_cast-whole_length : goal.overflow_cast-whole_length
overflow_cast-whole_length c = let w : c.whole_length.result ≤ 67 = rw c.whole_length.ensures (whole_most c.args.kind) in search rules
