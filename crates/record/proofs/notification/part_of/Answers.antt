-- `part_of` meets its contract: each return rewrites with the tests that led there. Assumes nothing.
use Prim.Native.Nat.{◌+◌, ◌≤◌}
use mathlib.Core.Path.{◌≡◌, refl, sym, ap, ap₂, ◌∙◌}
use mathlib.Core.Bool.{true, false}
use native.Mathlib.Omega.{arith}
use borrow.Author.Tests.{le-leb, lt-leb}
use lib.Dec.{leb}
use lib.ListN.{length}
use Rattle.record.specs.Groups.{known, flags_octets, set_length}
use Rattle.record.specs.Notification.{part_of, flags_of, names, heading}
use Rattle.record.proofs.Tables.{octets_most, flags_most}
use Rattle.record.proofs.notification.part_of.Goals as goal

pub returns-then-not-is_known : goal.returns-then-not-is_known
unfolding part_of
returns-then-not-is_known c = let k : known (c.args.kind) ≡ false = sym c.is_known.ensures ∙ c.if-not-is_known.true in
    rw k

pub returns-then-notification-gt-LONGEST : goal.returns-then-notification-gt-LONGEST
unfolding part_of
returns-then-notification-gt-LONGEST c = rw ((sym c.is_known.ensures ∙ c.if-not-is_known.false), lt-leb _ _ c.if-notification-gt-LONGEST.true)

pub returns-then-notification-start : goal.returns-then-notification-start
unfolding part_of
returns-then-notification-start c = let f : leb (flags_octets (c.args.kind)) (length (c.args.notification.now)) ≡ false = lt-leb _ _ (rw c.flags_length-start.ensures at c.if-notification-start.true) in
    rw ((sym c.is_known.ensures ∙ c.if-not-is_known.false), (le-leb _ _ c.if-notification-gt-LONGEST.false), f)

pub overflow_add-start : goal.overflow_add-start
overflow_add-start c = let a : flags_octets (c.args.kind) ≤ 3 = flags_most (c.args.kind) in
    let b : set_length (c.args.kind) ((names c.args.kind (flags_of c.args.kind c.args.notification.now))) ≤ 64 = octets_most (c.args.kind) ((names c.args.kind (flags_of c.args.kind c.args.notification.now))) in
    record { fits = omega (arith, (ap₂ ◌+◌ c.flags_length-start.ensures (c.groups_length.ensures ∙ ap (set_length (c.args.kind)) ((c.names-set.ensures ∙ ap (names (c.args.kind)) c.flags-word.ensures))))) }

pub returns-then-notification-start-2 : goal.returns-then-notification-start-2
unfolding part_of
returns-then-notification-start-2 c = let e : leb (flags_octets (c.args.kind) + set_length (c.args.kind) ((names c.args.kind (flags_of c.args.kind c.args.notification.now)))) (length (c.args.notification.now)) ≡ false = lt-leb _ _ (rw ((ap₂ ◌+◌ c.flags_length-start.ensures (c.groups_length.ensures ∙ ap (set_length (c.args.kind)) ((c.names-set.ensures ∙ ap (names (c.args.kind)) c.flags-word.ensures))))) at c.if-notification-start-2.true) in
    rw ((sym c.is_known.ensures ∙ c.if-not-is_known.false), (le-leb _ _ c.if-notification-gt-LONGEST.false), (le-leb _ _ (rw c.flags_length-start.ensures at c.if-notification-start.false)), e)

pub returns : goal.returns
unfolding part_of
returns c = let e : leb (flags_octets (c.args.kind) + set_length (c.args.kind) ((names c.args.kind (flags_of c.args.kind c.args.notification.now)))) (length (c.args.notification.now)) ≡ true = le-leb _ _ (rw ((ap₂ ◌+◌ c.flags_length-start.ensures (c.groups_length.ensures ∙ ap (set_length (c.args.kind)) ((c.names-set.ensures ∙ ap (names (c.args.kind)) c.flags-word.ensures))))) at c.if-notification-start-2.false) in
    rw ((sym c.is_known.ensures ∙ c.if-not-is_known.false), (le-leb _ _ c.if-notification-gt-LONGEST.false), (le-leb _ _ (rw c.flags_length-start.ensures at c.if-notification-start.false)), e)
    (rw ((c.names-set.ensures ∙ ap (names (c.args.kind)) c.flags-word.ensures), c.flags-word.ensures, c.heading-direction.ensures ∙ ap (heading (c.args.kind)) c.flags-word.ensures) refl)
