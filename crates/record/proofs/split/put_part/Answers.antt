-- `put_part` meets its contract: the flags, and the rows after them. Assumes nothing.
use Prim.Native.Nat.{ℕ}
use mathlib.Core.Path.{sym, ap, ◌∙◌}
use mathlib.Core.List.{List}
use native.Mathlib.Nat.{zero-add}
use lib.ListN.{length}
use Rattle.record.specs.Layout.{layout}
use Rattle.record.specs.Groups.{named, flags_octets}
use Rattle.record.specs.Octets.{spelled, placed}
use Rattle.record.specs.Split.{written, flags}
use Rattle.record.proofs.OctetLaws.{length_spelled, placed_append}
use Rattle.record.proofs.split.put_part.Goals as goal

pub returns : goal.returns
returns c = let w = c.args.wire.now in
    let head = spelled (flags_octets w.kind) (flags c.args.set w.direction) in
    let body = written (named c.args.set (layout w.kind)) w.numbers in
    c.put_rows.ensures ∙ ap (λ (l : List ℕ). placed l (flags_octets w.kind) body) c.put_flags.ensures
    ∙ ap (λ (n : ℕ). placed (placed c.args.out.now 0 head) n body) (sym (length_spelled (flags_octets w.kind) (flags c.args.set w.direction)) ∙ sym (zero-add (length head)))
    ∙ placed_append c.args.out.now 0 head body
