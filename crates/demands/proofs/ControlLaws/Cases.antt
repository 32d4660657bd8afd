-- The worked cases hold, by computation.
use mathlib.Core.Path.{◌≡◌, refl}
use Rattle.record.specs.Groups.{has}
use Rattle.record.specs.Octets.{number}
use Rattle.service.specs.Control.OpCodes.{op_code}
use Rattle.service.specs.Control.Judging.{fit, judged}
use Rattle.service.specs.Control.Calls.{opened, connects, disconnects, indicates, confirms, writes}
use Rattle.demands.specs.Control.Point.{run}
use Rattle.demands.specs.Control.Cases.{answered, expected_all}

pub cases_hold : answered ≡ expected_all
unfolding number has op_code fit judged opened connects disconnects indicates confirms writes run
cases_hold = refl
