-- The sample of each kind, with all groups and no two values the same, as a capture of one notification; its lines, proved by computation, were
-- worked out from document 01's table and names alone.
use Rattle.std.specs.Prelude.{◌≡◌, refl, ◌∷◌}
use Rattle.record.specs.Layout.{layout, tables, treadmill, cross_trainer, step_climber, stair_climber, rower, indoor_bike}
use Rattle.record.specs.Groups.{has, named, size, groups_of, listed}
use Rattle.record.specs.Octets.{number}
use Rattle.record.specs.Notification.{part_of, read_into, values}
use Rattle.record.specs.Samples as Samples
use Rattle.service.specs.Collector.{joins, collect}
use Rattle.text.specs.Text.{ascii, decimal, integer, line}
use Rattle.text.specs.Names.{name, names}
use Rattle.listing.specs.Lines.{field_line, head_lines, record_lines, refused_line}
use Rattle.listing.specs.Listing.{begins, notifications, from_kind, listing}

pub kinds_listed :
    (listing (1 ∷ 34 ∷ 0 ∷ Samples.treadmill_octets) ≡ ascii "record=1\nkind=1\ngroups=8190\ndirection=0\nspeed=1001\naverage_speed=1006\ndistance=1000007\ninclination=-8\nramp_angle=-9\npositive_gain=1010\nnegative_gain=1011\npace=12\naverage_pace=13\ntotal_energy=1014\nenergy_per_hour=1015\nenergy_per_minute=16\nheart_rate=17\nmetabolic_equivalent=18\nelapsed=1019\nremaining=1020\nbelt_force=-21\npower_output=-22\n") ×
    (listing (2 ∷ 41 ∷ 0 ∷ Samples.cross_trainer_octets) ≡ ascii "record=1\nkind=2\ngroups=32766\ndirection=1\nspeed=1001\naverage_speed=1006\ndistance=1000007\nstep_rate=1023\naverage_step_rate=1024\nstride_count=1025\npositive_gain=1010\nnegative_gain=1011\ninclination=-8\nramp_angle=-9\nresistance=-26\npower=-27\naverage_power=-28\ntotal_energy=1014\nenergy_per_hour=1015\nenergy_per_minute=16\nheart_rate=17\nmetabolic_equivalent=18\nelapsed=1019\nremaining=1020\n") ×
    (listing (3 ∷ 23 ∷ 0 ∷ Samples.step_climber_octets) ≡ ascii "record=1\nkind=3\ngroups=510\ndirection=0\nfloors=1002\nsteps=1003\nstep_rate=1023\naverage_step_rate=1024\npositive_gain=1010\ntotal_energy=1014\nenergy_per_hour=1015\nenergy_per_minute=16\nheart_rate=17\nmetabolic_equivalent=18\nelapsed=1019\nremaining=1020\n") ×
    (listing (4 ∷ 23 ∷ 0 ∷ Samples.stair_climber_octets) ≡ ascii "record=1\nkind=4\ngroups=1022\ndirection=0\nfloors=1002\nstep_rate=1023\naverage_step_rate=1024\npositive_gain=1010\nstride_count=1025\ntotal_energy=1014\nenergy_per_hour=1015\nenergy_per_minute=16\nheart_rate=17\nmetabolic_equivalent=18\nelapsed=1019\nremaining=1020\n") ×
    (listing (5 ∷ 30 ∷ 0 ∷ Samples.rower_octets) ≡ ascii "record=1\nkind=5\ngroups=8190\ndirection=0\nstroke_rate=4\nstroke_count=1005\naverage_stroke_rate=29\ndistance=1000007\npace=12\naverage_pace=13\npower=-27\naverage_power=-28\nresistance=-26\ntotal_energy=1014\nenergy_per_hour=1015\nenergy_per_minute=16\nheart_rate=17\nmetabolic_equivalent=18\nelapsed=1019\nremaining=1020\n") ×
    (listing (6 ∷ 30 ∷ 0 ∷ Samples.indoor_bike_octets) ≡ ascii "record=1\nkind=6\ngroups=8190\ndirection=0\nspeed=1001\naverage_speed=1006\ncadence=1030\naverage_cadence=1031\ndistance=1000007\nresistance=-26\npower=-27\naverage_power=-28\ntotal_energy=1014\nenergy_per_hour=1015\nenergy_per_minute=16\nheart_rate=17\nmetabolic_equivalent=18\nelapsed=1019\nremaining=1020\n")
unfolding listing from_kind notifications begins collect joins part_of values read_into number record_lines head_lines refused_line field_line line decimal integer name names layout has named size groups_of listed treadmill cross_trainer step_climber stair_climber rower indoor_bike tables
kinds_listed = (refl, refl, refl, refl, refl, refl)
