-- `judge` meets its contract: 36, then 11, then the kind. Assumes nothing.
use mathlib.Core.Path.{ap, sym, ◌∙◌}
use native.Mathlib.Omega.{arith}
use borrow.Author.Rules.{rules}
use borrow.Author.Tests.{not-true, not-false}
use Rattle.record.specs.Groups.{known}
use Rattle.record.proofs.OctetLaws.{number_one}
use Rattle.listing.specs.Listing.{begins}
use Rattle.listing.proofs.Steps.{too_long, no_kind, of_a_kind, begun}
use Rattle.listing.proofs.walk.judge.Goals as goal

pub returns-then-capture-gt-LONGEST_CAPTURE : goal.returns-then-capture-gt-LONGEST_CAPTURE
returns-then-capture-gt-LONGEST_CAPTURE c = rw (too_long (c.args.walk) (c.args.capture.now) (omega arith)) (search rules)

pub returns-then-not-known : goal.returns-then-not-known
returns-then-not-known c = rw (no_kind (c.args.walk) (c.args.capture.now) (omega arith) ((sym (c.is_known-known.ensures ∙ ap known (c.u8_at-kind.ensures ∙ number_one 0 c.args.capture.now))) ∙ not-true _ c.if-not-known.true-raw)) (search rules)

pub returns : goal.returns
returns c = rw (of_a_kind (c.args.walk) (c.args.capture.now) (omega arith) ((sym (c.is_known-known.ensures ∙ ap known (c.u8_at-kind.ensures ∙ number_one 0 c.args.capture.now))) ∙ not-false _ c.if-not-known.false-raw))
    (begun _ _ (omega arith) (c.start.ensures ∙ ap begins ((c.u8_at-kind.ensures ∙ number_one 0 c.args.capture.now))))
