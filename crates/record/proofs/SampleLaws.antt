-- The cross trainer's sample is a well-formed record, and each of its fields is a value of its type.
use mathlib.Core.Path.{◌≡◌, refl}
use mathlib.Core.Bool.{true}
use mir.Facts.{sfits_lit}
use Rattle.record.specs.Layout.{layout, tables, cross_trainer}
use Rattle.record.specs.Groups.{has, named, groups_of, listed}
use Rattle.record.specs.Record.{well_formed, Typed, all_fit, others, all_zero, formed, bits_within}
use Rattle.record.specs.Samples as Samples

pub trainer_formed : well_formed Samples.cross_trainer ≡ true
unfolding layout tables cross_trainer has named groups_of listed all_fit others all_zero formed
trainer_formed = refl

pub trainer_typed : Typed Samples.cross_trainer
unfolding bits_within
trainer_typed = record {
  numbers = refl;
  inclination = sfits_lit tt;
  ramp_angle = sfits_lit tt;
  belt = sfits_lit tt;
  power_output = sfits_lit tt;
  resistance = sfits_lit tt;
  power = sfits_lit tt;
  average_power = sfits_lit tt;
}
