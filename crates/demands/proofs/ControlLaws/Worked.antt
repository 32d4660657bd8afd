-- The worked cases with their states hold, by computation.
use mathlib.Core.Path.{◌≡◌, refl}
use mathlib.Core.List.{map}
use Rattle.record.specs.Groups.{has}
use Rattle.record.specs.Octets.{spelled, number}
use Rattle.service.specs.Control.OpCodes.{op_code}
use Rattle.service.specs.Control.Judging.{fit, judged}
use Rattle.service.specs.Control.Effects.{setting}
use Rattle.service.specs.Control.Calls.{opened, connects, disconnects, indicates, confirms, writes, feeds}
use Rattle.demands.specs.Control.Point.{run}
use Rattle.demands.specs.Control.Worked.Seen.{told, each, in_turn, found}
use Rattle.demands.specs.Control.Worked.Modes.{modes}
use Rattle.demands.specs.Control.Worked.Ends.{ends}
use Rattle.demands.specs.Control.Worked.Openings.{opened_to, expected_to}
use Rattle.demands.specs.Control.Worked.Callers.{callers}
use Rattle.demands.specs.Control.Worked.Courses.{courses, each_setting}
use Rattle.demands.specs.Control.Worked.Needs.{needs}
use Rattle.demands.specs.Control.Worked.Orders.{orders}
use Rattle.demands.specs.Control.Worked.Coasting.{ends_or_not, coasting}
use Rattle.demands.specs.Control.Worked.Stepped.{on_and_off, resets}

pub modes_hold : map (found each) modes ≡ map told modes
unfolding spelled number has op_code fit judged setting opened connects disconnects indicates confirms writes run
modes_hold = refl

pub ends_hold : map (found each) ends ≡ map told ends
unfolding spelled number has op_code fit judged setting opened connects disconnects indicates confirms writes run
ends_hold = refl

pub openings_hold : opened_to ≡ expected_to
unfolding number opened op_code setting
openings_hold = refl

pub callers_hold : map (found each) callers ≡ map told callers
unfolding spelled number has op_code fit judged setting opened connects disconnects indicates confirms writes run
callers_hold = refl

pub courses_hold : map (found in_turn) courses ≡ map told courses
unfolding spelled number has op_code fit judged setting opened connects disconnects indicates confirms writes run
courses_hold = refl

pub each_setting_holds : found each each_setting ≡ told each_setting
unfolding spelled number has op_code fit judged setting opened connects disconnects indicates confirms writes run
each_setting_holds = refl

pub needs_hold : map (found each) needs ≡ map told needs
unfolding spelled number has op_code fit judged setting opened connects disconnects indicates confirms writes run
needs_hold = refl

pub orders_hold : map (found each) orders ≡ map told orders
unfolding spelled number has op_code fit judged setting opened connects disconnects indicates confirms writes run
orders_hold = refl

pub coasting_holds : map (found in_turn) coasting ≡ map told coasting
unfolding spelled number has op_code fit judged setting opened connects disconnects indicates confirms writes feeds run
coasting_holds = refl

pub ends_or_not_holds : map (found each) ends_or_not ≡ map told ends_or_not
unfolding spelled number has op_code fit judged setting opened connects disconnects indicates confirms writes feeds run
ends_or_not_holds = refl

pub steps_hold : map (found each) on_and_off ≡ map told on_and_off
unfolding spelled number has op_code fit judged setting opened connects disconnects indicates confirms writes run
steps_hold = refl

pub resets_hold : found in_turn resets ≡ told resets
unfolding spelled number has op_code fit judged setting opened connects disconnects indicates confirms writes run
resets_hold = refl
