-- The worked cases of splitting hold, by computation.
use mathlib.Core.Path.{◌≡◌, refl}
use Rattle.record.specs.Layout.{layout, tables, treadmill, cross_trainer, indoor_bike}
use Rattle.record.specs.Groups.{has, named, size, groups_of, listed}
use Rattle.record.specs.Octets.{spelled}
use Rattle.record.specs.Record.{all_fit, others, all_zero, formed}
use Rattle.record.specs.Split.{longest, cut, written, extent_of, split_wire}
use Rattle.demands.specs.Splitting as Splitting
use Rattle.demands.specs.Splitting.{order, answered, expected, left, expected_left}

pub splitting_holds : (answered order ≡ expected order) × (answered Splitting.formed ≡ expected Splitting.formed) × (left ≡ expected_left)
unfolding split_wire extent_of layout tables treadmill cross_trainer indoor_bike has named size groups_of listed all_fit others all_zero formed longest cut spelled written
splitting_holds = (refl, refl, refl)
