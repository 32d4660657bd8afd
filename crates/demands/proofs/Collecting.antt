-- The worked cases of collecting hold, by computation.
use mathlib.Core.Path.{◌≡◌, refl}
use mathlib.Core.List.{List, map}
use Rattle.record.specs.Layout.{layout, tables, cross_trainer, indoor_bike, treadmill, step_climber}
use Rattle.record.specs.Groups.{has, named, size, groups_of, listed}
use Rattle.record.specs.Octets.{number}
use Rattle.record.specs.Notification.{part_of, read_into, values}
use Rattle.record.specs.Record.{all_fit, others, all_zero, formed}
use Rattle.service.specs.Collector.{lowest, joins, opens, collect}
use Rattle.demands.specs.Collecting.Seen.{Row, Case, found}
use Rattle.demands.specs.Collecting.Open.{open_bike, open_trainer}
use Rattle.demands.specs.Collecting.Told.{fixed_bike, fixed_bare, fixed_trainer}
use Rattle.demands.specs.Collecting.Openings as Openings

abbrev told : List Case → List (List Row)
told cases = map (λ k. k.rows) cases

pub open_hold : (map found open_bike ≡ told open_bike) × (map found open_trainer ≡ told open_trainer)
unfolding collect joins part_of values read_into number layout tables cross_trainer indoor_bike has named size groups_of listed all_fit others all_zero formed
open_hold = (refl, refl)

pub fixed_hold : (map found fixed_bike ≡ told fixed_bike) × (map found fixed_bare ≡ told fixed_bare) × (map found fixed_trainer ≡ told fixed_trainer)
unfolding collect joins lowest part_of values read_into number layout tables cross_trainer indoor_bike has named size groups_of listed all_fit others all_zero formed
fixed_hold = (refl, refl, refl)

pub openings_hold : (Openings.opened ≡ Openings.expected) × (found Openings.by_hand ≡ (Openings.by_hand).rows)
unfolding opens collect part_of layout tables treadmill cross_trainer step_climber indoor_bike has groups_of listed
openings_hold = (refl, refl)
