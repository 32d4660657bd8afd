-- `formed` meets its contract, test by test: each point after a test knows the test's result. Assumes nothing.
use mathlib.Core.Path.{◌≡◌, refl, sym, ap, ◌∙◌}
use native.Mathlib.Omega.{arith}
use borrow.Author.Tests.{eq-eqb, ne_eqb, le-leb, lt-leb}
use lib.Bits.{bit_and, and_le_r}
use Rattle.record.specs.Record.{all_zero}
use Rattle.record.proofs.Tables.{listed_below}
use Rattle.record.proofs.Turns.{tests, listed_test, way_test}
use Rattle.record.proofs.formed.formed.Goals as goal

pub returns-then-not-is_known : goal.returns-then-not-is_known
returns-then-not-is_known c = sym (tests _ _ _ _ (sym c.is_known.ensures ∙ c.if-not-is_known.true) refl refl refl refl)

pub returns-then-groups-listed : goal.returns-then-groups-listed
returns-then-groups-listed c = sym (tests _ _ _ _ (sym c.is_known.ensures ∙ c.if-not-is_known.false) (listed_test _ _ c.listed.ensures (ne_eqb _ _ c.if-groups-listed.true)) refl refl refl)

pub returns-then-last_direction-wire : goal.returns-then-last_direction-wire
returns-then-last_direction-wire c = sym (tests _ _ _ _ (sym c.is_known.ensures ∙ c.if-not-is_known.false) (listed_test _ _ c.listed.ensures (eq-eqb _ _ c.if-groups-listed.false)) (way_test _ _ c.last_direction.ensures (lt-leb _ _ c.if-last_direction-wire.true)) refl refl)

pub overflow_add-set : goal.overflow_add-set
overflow_add-set c = let w = c.args.wire.now in
    let e : bit_and w.groups c.listed.result ≡ w.groups = c.if-groups-listed.false in
    omega (arith, and_le_r w.groups c.listed.result, c.listed.ensures, listed_below w.kind)

pub returns-then-not-all_fits : goal.returns-then-not-all_fits
returns-then-not-all_fits c = sym (tests _ _ _ _ (sym c.is_known.ensures ∙ c.if-not-is_known.false) (listed_test _ _ c.listed.ensures (eq-eqb _ _ c.if-groups-listed.false)) (way_test _ _ c.last_direction.ensures (le-leb _ _ c.if-last_direction-wire.false)) (sym c.all_fits.ensures ∙ c.if-not-all_fits.true) refl)

pub returns : goal.returns
returns c = c.all_zeros.ensures ∙ ap all_zero c.others-left.ensures
    ∙ sym (tests _ _ _ _ (sym c.is_known.ensures ∙ c.if-not-is_known.false) (listed_test _ _ c.listed.ensures (eq-eqb _ _ c.if-groups-listed.false)) (way_test _ _ c.last_direction.ensures (le-leb _ _ c.if-last_direction-wire.false)) (sym c.all_fits.ensures ∙ c.if-not-all_fits.false) refl)
