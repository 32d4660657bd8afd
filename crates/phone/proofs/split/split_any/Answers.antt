-- `split_any` meets its contract: each return rewrites with the tests that led there. Assumes nothing.
use Prim.Native.Nat.{ℕ, ◌<◌}
use mathlib.Core.Path.{◌≡◌, refl, sym, ◌∙◌}
use mathlib.Core.Bool.{Bool, true, false, ◌&&◌}
use native.Mathlib.Omega.{arith}
use Rattle.std.proofs.Common.{rules}
use borrow.Author.Tests.{leb-true}
use lib.Dec.{leb}
use Rattle.record.specs.Groups.{known}
use Rattle.record.specs.Split.{payload_known}
use Rattle.phone.specs.Host.{split_answer}
use Rattle.phone.proofs.split.split_any.Goals as goal

-- a number above 255 is no kind
too_high : (kind : ℕ) → 255 < kind → known kind ≡ false
too_high kind h = at_most (leb 1 kind) (leb kind 6) refl
  where
    at_most : (low high : Bool) → leb kind 6 ≡ high → (low && high) ≡ false
    at_most low true e = absurd (omega (arith, leb-true kind 6 e, h))
    at_most false false e = refl
    at_most true false e = refl

pub returns-in_default-clause-result_value : goal.returns-in_default-clause-result_value
unfolding split_answer
returns-in_default-clause-result_value c = let n : c.args.kind < 256 → ⊥ = c.in_default.ensures in rw (too_high c.args.kind (omega arith)) refl

pub returns-in_default-clause-out_after : goal.returns-in_default-clause-out_after
unfolding split_answer
returns-in_default-clause-out_after c = let n : c.args.kind < 256 → ⊥ = c.in_default.ensures in rw (too_high c.args.kind (omega arith)) refl

pub returns-then-not-is_known-clause-result_value : goal.returns-then-not-is_known-clause-result_value
unfolding split_answer
returns-then-not-is_known-clause-result_value c = let e : c.in-Ok.known ≡ c.args.kind = search rules in
    let k : known c.args.kind ≡ false = rw e at (sym c.is_known.ensures ∙ c.if-not-is_known.true) in rw k refl

pub returns-then-not-is_known-clause-out_after : goal.returns-then-not-is_known-clause-out_after
unfolding split_answer
returns-then-not-is_known-clause-out_after c = let e : c.in-Ok.known ≡ c.args.kind = search rules in
    let k : known c.args.kind ≡ false = rw e at (sym c.is_known.ensures ∙ c.if-not-is_known.true) in rw k refl

pub returns-then-not-is_payload-clause-result_value : goal.returns-then-not-is_payload-clause-result_value
unfolding split_answer
returns-then-not-is_payload-clause-result_value c = let e : c.in-Ok.known ≡ c.args.kind = search rules in
    let k : known c.args.kind ≡ true = rw e at (sym c.is_known.ensures ∙ c.if-not-is_known.false) in
    let p : payload_known c.args.payload ≡ false = sym c.is_payload.ensures ∙ c.if-not-is_payload.true in rw (k, p) refl

pub returns-then-not-is_payload-clause-out_after : goal.returns-then-not-is_payload-clause-out_after
unfolding split_answer
returns-then-not-is_payload-clause-out_after c = let e : c.in-Ok.known ≡ c.args.kind = search rules in
    let k : known c.args.kind ≡ true = rw e at (sym c.is_known.ensures ∙ c.if-not-is_known.false) in
    let p : payload_known c.args.payload ≡ false = sym c.is_payload.ensures ∙ c.if-not-is_payload.true in rw (k, p) refl

pub returns-clause-result_value : goal.returns-clause-result_value
unfolding split_answer
returns-clause-result_value c = let e : c.in-Ok.known ≡ c.args.kind = search rules in
    let k : known c.args.kind ≡ true = rw e at (sym c.is_known.ensures ∙ c.if-not-is_known.false) in
    let p : payload_known c.args.payload ≡ true = sym c.is_payload.ensures ∙ c.if-not-is_payload.false in
    rw (k, p) (rw e at c.split_read.ensures.result_value)

pub returns-clause-out_after : goal.returns-clause-out_after
unfolding split_answer
returns-clause-out_after c = let e : c.in-Ok.known ≡ c.args.kind = search rules in
    let k : known c.args.kind ≡ true = rw e at (sym c.is_known.ensures ∙ c.if-not-is_known.false) in
    let p : payload_known c.args.payload ≡ true = sym c.is_payload.ensures ∙ c.if-not-is_payload.false in
    rw (k, p) (rw e at c.split_read.ensures.out_after)
