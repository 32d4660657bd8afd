-- A record of each kind with all of its groups, no two values the same, given by its named fields; and the octets that it is split into and
-- read back from. The octets were worked out from document 01's table alone, one group per line.
use Rattle.std.specs.Prelude.{ℕ, ◌-◌, ◌≡◌, refl, true, List, [], ◌∷◌, ◌++◌, pos, negsuc, length, replicate}
use Rattle.record.specs.declared.record.Record.{Record}
use Rattle.record.specs.Answer.{given}
use Rattle.record.specs.Layout as Layout
use Rattle.record.specs.Layout.{layout, tables}
use Rattle.record.specs.Groups.{has, named, size, groups_of, listed}
use Rattle.record.specs.Octets.{number, spelled}
use Rattle.record.specs.Record.{of_wire, all_fit, others, all_zero, formed}
use Rattle.record.specs.Notification.{part_of, read_into, values, held_after}
use Rattle.record.specs.Split.{longest, cut, written, extent_of, split_wire, split_of, lent_after}

-- at payload 512 a record is split into one notification, in a longer buffer whose other octets stay; and it is read back as the record
pub record Stands (r : Record) (octets : List ℕ) : Type 0 where
  pub answers : split_of r 512 0 48 ≡ given (record { length = length octets; parts = 1 })
  pub leaves : lent_after r 512 0 (replicate 48 0xAA) ≡ octets ++ replicate (48 - length octets) 0xAA
  pub reads : part_of r.kind octets ≡ given (record { groups = r.groups; last = true; direction = r.direction })
  pub holds : of_wire r.kind r.groups r.direction (held_after r.kind octets (replicate 31 0)) ≡ r

abbrev pub treadmill : Record
treadmill = record {
  kind = 1;
  groups = 0x1FFE;
  direction = 0;
  speed = 1001;
  climb = record { floors = 0; steps = 0 };
  stroke = record { rate = 0; count = 0 };
  average_speed = 1006;
  distance = 1000007;
  slope = record { inclination = record { 0 = negsuc 7 }; ramp_angle = record { 0 = negsuc 8 } };
  gain = record { positive = 1010; negative = 1011 };
  pace = 12;
  average_pace = 13;
  energy = record { total = 1014; per_hour = 1015; per_minute = 16 };
  heart_rate = 17;
  metabolic_equivalent = 18;
  elapsed = 1019;
  remaining = 1020;
  force = record { belt = negsuc 20; power_output = negsuc 21 };
  step_rates = record { rate = 0; average = 0 };
  stride_count = 0;
  resistance = pos 0;
  power = pos 0;
  average_power = pos 0;
  average_stroke_rate = 0;
  cadence = 0;
  average_cadence = 0;
}

abbrev pub treadmill_octets : List ℕ
treadmill_octets =
    0xFE ∷ 0x1F ∷
    0xE9 ∷ 0x03 ∷
    0xEE ∷ 0x03 ∷
    0x47 ∷ 0x42 ∷ 0x0F ∷
    0xF8 ∷ 0xFF ∷ 0xF7 ∷ 0xFF ∷
    0xF2 ∷ 0x03 ∷ 0xF3 ∷ 0x03 ∷
    0x0C ∷
    0x0D ∷
    0xF6 ∷ 0x03 ∷ 0xF7 ∷ 0x03 ∷ 0x10 ∷
    0x11 ∷
    0x12 ∷
    0xFB ∷ 0x03 ∷
    0xFC ∷ 0x03 ∷
    0xEB ∷ 0xFF ∷ 0xEA ∷ 0xFF ∷ []

abbrev pub cross_trainer : Record
cross_trainer = record {
  kind = 2;
  groups = 0x7FFE;
  direction = 1;
  speed = 1001;
  climb = record { floors = 0; steps = 0 };
  stroke = record { rate = 0; count = 0 };
  average_speed = 1006;
  distance = 1000007;
  slope = record { inclination = record { 0 = negsuc 7 }; ramp_angle = record { 0 = negsuc 8 } };
  gain = record { positive = 1010; negative = 1011 };
  pace = 0;
  average_pace = 0;
  energy = record { total = 1014; per_hour = 1015; per_minute = 16 };
  heart_rate = 17;
  metabolic_equivalent = 18;
  elapsed = 1019;
  remaining = 1020;
  force = record { belt = pos 0; power_output = pos 0 };
  step_rates = record { rate = 1023; average = 1024 };
  stride_count = 1025;
  resistance = negsuc 25;
  power = negsuc 26;
  average_power = negsuc 27;
  average_stroke_rate = 0;
  cadence = 0;
  average_cadence = 0;
}

abbrev pub cross_trainer_octets : List ℕ
cross_trainer_octets =
    0xFE ∷ 0xFF ∷ 0x00 ∷
    0xE9 ∷ 0x03 ∷
    0xEE ∷ 0x03 ∷
    0x47 ∷ 0x42 ∷ 0x0F ∷
    0xFF ∷ 0x03 ∷ 0x00 ∷ 0x04 ∷
    0x01 ∷ 0x04 ∷
    0xF2 ∷ 0x03 ∷ 0xF3 ∷ 0x03 ∷
    0xF8 ∷ 0xFF ∷ 0xF7 ∷ 0xFF ∷
    0xE6 ∷ 0xFF ∷
    0xE5 ∷ 0xFF ∷
    0xE4 ∷ 0xFF ∷
    0xF6 ∷ 0x03 ∷ 0xF7 ∷ 0x03 ∷ 0x10 ∷
    0x11 ∷
    0x12 ∷
    0xFB ∷ 0x03 ∷
    0xFC ∷ 0x03 ∷ []

abbrev pub step_climber : Record
step_climber = record {
  kind = 3;
  groups = 0x1FE;
  direction = 0;
  speed = 0;
  climb = record { floors = 1002; steps = 1003 };
  stroke = record { rate = 0; count = 0 };
  average_speed = 0;
  distance = 0;
  slope = record { inclination = record { 0 = pos 0 }; ramp_angle = record { 0 = pos 0 } };
  gain = record { positive = 1010; negative = 0 };
  pace = 0;
  average_pace = 0;
  energy = record { total = 1014; per_hour = 1015; per_minute = 16 };
  heart_rate = 17;
  metabolic_equivalent = 18;
  elapsed = 1019;
  remaining = 1020;
  force = record { belt = pos 0; power_output = pos 0 };
  step_rates = record { rate = 1023; average = 1024 };
  stride_count = 0;
  resistance = pos 0;
  power = pos 0;
  average_power = pos 0;
  average_stroke_rate = 0;
  cadence = 0;
  average_cadence = 0;
}

abbrev pub step_climber_octets : List ℕ
step_climber_octets =
    0xFE ∷ 0x01 ∷
    0xEA ∷ 0x03 ∷ 0xEB ∷ 0x03 ∷
    0xFF ∷ 0x03 ∷
    0x00 ∷ 0x04 ∷
    0xF2 ∷ 0x03 ∷
    0xF6 ∷ 0x03 ∷ 0xF7 ∷ 0x03 ∷ 0x10 ∷
    0x11 ∷
    0x12 ∷
    0xFB ∷ 0x03 ∷
    0xFC ∷ 0x03 ∷ []

abbrev pub stair_climber : Record
stair_climber = record {
  kind = 4;
  groups = 0x3FE;
  direction = 0;
  speed = 0;
  climb = record { floors = 1002; steps = 0 };
  stroke = record { rate = 0; count = 0 };
  average_speed = 0;
  distance = 0;
  slope = record { inclination = record { 0 = pos 0 }; ramp_angle = record { 0 = pos 0 } };
  gain = record { positive = 1010; negative = 0 };
  pace = 0;
  average_pace = 0;
  energy = record { total = 1014; per_hour = 1015; per_minute = 16 };
  heart_rate = 17;
  metabolic_equivalent = 18;
  elapsed = 1019;
  remaining = 1020;
  force = record { belt = pos 0; power_output = pos 0 };
  step_rates = record { rate = 1023; average = 1024 };
  stride_count = 1025;
  resistance = pos 0;
  power = pos 0;
  average_power = pos 0;
  average_stroke_rate = 0;
  cadence = 0;
  average_cadence = 0;
}

abbrev pub stair_climber_octets : List ℕ
stair_climber_octets =
    0xFE ∷ 0x03 ∷
    0xEA ∷ 0x03 ∷
    0xFF ∷ 0x03 ∷
    0x00 ∷ 0x04 ∷
    0xF2 ∷ 0x03 ∷
    0x01 ∷ 0x04 ∷
    0xF6 ∷ 0x03 ∷ 0xF7 ∷ 0x03 ∷ 0x10 ∷
    0x11 ∷
    0x12 ∷
    0xFB ∷ 0x03 ∷
    0xFC ∷ 0x03 ∷ []

abbrev pub rower : Record
rower = record {
  kind = 5;
  groups = 0x1FFE;
  direction = 0;
  speed = 0;
  climb = record { floors = 0; steps = 0 };
  stroke = record { rate = 4; count = 1005 };
  average_speed = 0;
  distance = 1000007;
  slope = record { inclination = record { 0 = pos 0 }; ramp_angle = record { 0 = pos 0 } };
  gain = record { positive = 0; negative = 0 };
  pace = 12;
  average_pace = 13;
  energy = record { total = 1014; per_hour = 1015; per_minute = 16 };
  heart_rate = 17;
  metabolic_equivalent = 18;
  elapsed = 1019;
  remaining = 1020;
  force = record { belt = pos 0; power_output = pos 0 };
  step_rates = record { rate = 0; average = 0 };
  stride_count = 0;
  resistance = negsuc 25;
  power = negsuc 26;
  average_power = negsuc 27;
  average_stroke_rate = 29;
  cadence = 0;
  average_cadence = 0;
}

abbrev pub rower_octets : List ℕ
rower_octets =
    0xFE ∷ 0x1F ∷
    0x04 ∷ 0xED ∷ 0x03 ∷
    0x1D ∷
    0x47 ∷ 0x42 ∷ 0x0F ∷
    0x0C ∷ 0x00 ∷
    0x0D ∷ 0x00 ∷
    0xE5 ∷ 0xFF ∷
    0xE4 ∷ 0xFF ∷
    0xE6 ∷ 0xFF ∷
    0xF6 ∷ 0x03 ∷ 0xF7 ∷ 0x03 ∷ 0x10 ∷
    0x11 ∷
    0x12 ∷
    0xFB ∷ 0x03 ∷
    0xFC ∷ 0x03 ∷ []

abbrev pub indoor_bike : Record
indoor_bike = record {
  kind = 6;
  groups = 0x1FFE;
  direction = 0;
  speed = 1001;
  climb = record { floors = 0; steps = 0 };
  stroke = record { rate = 0; count = 0 };
  average_speed = 1006;
  distance = 1000007;
  slope = record { inclination = record { 0 = pos 0 }; ramp_angle = record { 0 = pos 0 } };
  gain = record { positive = 0; negative = 0 };
  pace = 0;
  average_pace = 0;
  energy = record { total = 1014; per_hour = 1015; per_minute = 16 };
  heart_rate = 17;
  metabolic_equivalent = 18;
  elapsed = 1019;
  remaining = 1020;
  force = record { belt = pos 0; power_output = pos 0 };
  step_rates = record { rate = 0; average = 0 };
  stride_count = 0;
  resistance = negsuc 25;
  power = negsuc 26;
  average_power = negsuc 27;
  average_stroke_rate = 0;
  cadence = 1030;
  average_cadence = 1031;
}

abbrev pub indoor_bike_octets : List ℕ
indoor_bike_octets =
    0xFE ∷ 0x1F ∷
    0xE9 ∷ 0x03 ∷
    0xEE ∷ 0x03 ∷
    0x06 ∷ 0x04 ∷
    0x07 ∷ 0x04 ∷
    0x47 ∷ 0x42 ∷ 0x0F ∷
    0xE6 ∷ 0xFF ∷
    0xE5 ∷ 0xFF ∷
    0xE4 ∷ 0xFF ∷
    0xF6 ∷ 0x03 ∷ 0xF7 ∷ 0x03 ∷ 0x10 ∷
    0x11 ∷
    0x12 ∷
    0xFB ∷ 0x03 ∷
    0xFC ∷ 0x03 ∷ []

pub treadmill_stands : Stands treadmill treadmill_octets
unfolding split_wire extent_of layout tables Layout.treadmill has named size groups_of listed all_fit others all_zero formed longest cut spelled written part_of values read_into number
treadmill_stands = record { answers = refl; leaves = refl; reads = refl; holds = refl }

pub cross_trainer_stands : Stands cross_trainer cross_trainer_octets
unfolding split_wire extent_of layout tables Layout.cross_trainer has named size groups_of listed all_fit others all_zero formed longest cut spelled written part_of values read_into number
cross_trainer_stands = record { answers = refl; leaves = refl; reads = refl; holds = refl }

pub step_climber_stands : Stands step_climber step_climber_octets
unfolding split_wire extent_of layout tables Layout.step_climber has named size groups_of listed all_fit others all_zero formed longest cut spelled written part_of values read_into number
step_climber_stands = record { answers = refl; leaves = refl; reads = refl; holds = refl }

pub stair_climber_stands : Stands stair_climber stair_climber_octets
unfolding split_wire extent_of layout tables Layout.stair_climber has named size groups_of listed all_fit others all_zero formed longest cut spelled written part_of values read_into number
stair_climber_stands = record { answers = refl; leaves = refl; reads = refl; holds = refl }

pub rower_stands : Stands rower rower_octets
unfolding split_wire extent_of layout tables Layout.rower has named size groups_of listed all_fit others all_zero formed longest cut spelled written part_of values read_into number
rower_stands = record { answers = refl; leaves = refl; reads = refl; holds = refl }

pub indoor_bike_stands : Stands indoor_bike indoor_bike_octets
unfolding split_wire extent_of layout tables Layout.indoor_bike has named size groups_of listed all_fit others all_zero formed longest cut spelled written part_of values read_into number
indoor_bike_stands = record { answers = refl; leaves = refl; reads = refl; holds = refl }
