-- `whole_length` meets its contract. Assumes nothing.
use Prim.Native.Nat.{◌+◌, ◌<◌, ◌≤◌}
use mathlib.Core.Path.{ap, ◌∙◌}
use borrow.Author.Rules.{rules}
use Rattle.record.specs.Groups.{set_length}
use Rattle.record.proofs.Tables.{listed_below, octets_most, flags_most}
use Rattle.reference.specs.Tables.{whole_length}
use Rattle.reference.proofs.tables.whole_length.Goals as goal

pub overflow_add-listed : goal.overflow_add-listed
overflow_add-listed c = let h : c.listed.result < 32768 = rw c.listed.ensures (listed_below _) in search rules

pub overflow_add-result : goal.overflow_add-result
overflow_add-result c = let h : c.groups_length.result ≤ 64 = rw c.groups_length.ensures (octets_most _ _) in
    let f : c.flags_length.result ≤ 3 = rw c.flags_length.ensures (flags_most c.args.kind) in search rules

pub returns : goal.returns
unfolding whole_length
returns c = let f = c.flags_length.ensures in
    let g = c.groups_length.ensures ∙ ap (λ s. set_length c.args.kind (s + 1)) c.listed.ensures in
    λ i. f i + g i
