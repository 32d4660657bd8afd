-- "Feature value, 8 octets, two u32": features, then target settings.
use Rattle.std.specs.Prelude.{ℕ, ◌%◌, ◌^◌, ◌≡◌, refl, Bool, true, false, cond, ◌&&◌, List, [], ◌∷◌, ◌++◌, map, eqb, leb, length, drop}
use Rattle.record.specs.declared.feature.Feature.{Feature}
use Rattle.record.specs.Groups.{has}
use Rattle.record.specs.Octets.{number, spelled}
use Rattle.record.specs.Answer.{Answer, refused, given}

-- "features 0 average speed, 1 cadence, 2 distance, 3 inclination, 4 elevation gain, 5 pace, 6 step count, 7 resistance, 8 stride count,
-- 9 energy, 10 heart rate, 11 metabolic equivalent, 12 elapsed, 13 remaining, 14 power, 15 belt force and power output, 16 user data retention"
pub data FeatureBit : Type 0 where
  average_speed cadence distance inclination elevation-gain pace step_count resistance stride_count : FeatureBit
  energy heart_rate metabolic_equivalent elapsed remaining power belt-force-and-power-output user-data-retention : FeatureBit

abbrev pub feature_bit : FeatureBit → ℕ
feature_bit average_speed = 0
feature_bit cadence = 1
feature_bit distance = 2
feature_bit inclination = 3
feature_bit elevation-gain = 4
feature_bit pace = 5
feature_bit step_count = 6
feature_bit resistance = 7
feature_bit stride_count = 8
feature_bit energy = 9
feature_bit heart_rate = 10
feature_bit metabolic_equivalent = 11
feature_bit elapsed = 12
feature_bit remaining = 13
feature_bit power = 14
feature_bit belt-force-and-power-output = 15
feature_bit user-data-retention = 16

-- "Target settings: 0 speed, 1 inclination, 2 resistance, 3 power, 4 heart rate, 5 energy, 6 steps, 7 strides, 8 distance, 9 training time,
-- 10, 11, 12 time in two, three, five heart rate zones, 13 bike simulation, 14 wheel circumference, 15 spin down, 16 cadence"
pub data TargetBit : Type 0 where
  target-speed target-inclination target-resistance target-power target-heart-rate target-energy target-steps target-strides : TargetBit
  target-distance target-training-time target-time-in-two-zones target-time-in-three-zones target-time-in-five-zones target-bike-simulation : TargetBit
  target-wheel-circumference target-spin-down target-cadence : TargetBit

abbrev pub target_bit : TargetBit → ℕ
target_bit target-speed = 0
target_bit target-inclination = 1
target_bit target-resistance = 2
target_bit target-power = 3
target_bit target-heart-rate = 4
target_bit target-energy = 5
target_bit target-steps = 6
target_bit target-strides = 7
target_bit target-distance = 8
target_bit target-training-time = 9
target_bit target-time-in-two-zones = 10
target_bit target-time-in-three-zones = 11
target_bit target-time-in-five-zones = 12
target_bit target-bike-simulation = 13
target_bit target-wheel-circumference = 14
target_bit target-spin-down = 15
target_bit target-cadence = 16

-- the bits by their names, in the order in which the code lists its constants
abbrev pub feature_bits : List ℕ
feature_bits =
    map feature_bit
    (average_speed ∷ cadence ∷ distance ∷ inclination ∷ elevation-gain ∷ pace ∷ step_count ∷ resistance ∷ stride_count ∷ energy ∷
    heart_rate ∷ metabolic_equivalent ∷ elapsed ∷ remaining ∷ power ∷ belt-force-and-power-output ∷ user-data-retention ∷ [])

abbrev pub target_bits : List ℕ
target_bits =
    map target_bit
    (target-speed ∷ target-inclination ∷ target-resistance ∷ target-power ∷ target-heart-rate ∷ target-energy ∷ target-steps ∷
    target-strides ∷ target-distance ∷ target-training-time ∷ target-time-in-two-zones ∷ target-time-in-three-zones ∷ target-time-in-five-zones ∷
    target-bike-simulation ∷ target-wheel-circumference ∷ target-spin-down ∷ target-cadence ∷ [])

-- "Other bits are written 0 and ignored when read": in either word, those above 16
abbrev pub named_bits : ℕ → ℕ
named_bits word = word % 2 ^ 17

abbrev pub named : Feature → Feature
named f = record { features = named_bits f.features; targets = named_bits f.targets }

-- whether a bit has a name and is set
abbrev pub has_named : ℕ → ℕ → Bool
has_named word bit = leb bit 16 && has word bit

-- "8 octets, two u32", least octet first
abbrev pub words : List ℕ → Feature
words octets = record { features = number 4 octets; targets = number 4 (drop 4 octets) }

-- "22: Feature value not 8 octets"
abbrev pub feature_of : List ℕ → Answer Feature
feature_of octets = cond (eqb (length octets) 8) (given (named (words octets))) (refused 22)

-- the octets of a Feature value
abbrev pub feature_octets : Feature → List ℕ
feature_octets f = spelled 4 (named_bits f.features) ++ spelled 4 (named_bits f.targets)

-- both sentences name their bits in ascending order, none left out: 0 to 16
pub in_order : (feature_bits ≡ 0 ∷ 1 ∷ 2 ∷ 3 ∷ 4 ∷ 5 ∷ 6 ∷ 7 ∷ 8 ∷ 9 ∷ 10 ∷ 11 ∷ 12 ∷ 13 ∷ 14 ∷ 15 ∷ 16 ∷ []) × (target_bits ≡ feature_bits)
in_order = (refl, refl)

-- "Feature value, 8 octets, two u32", least octet first; "Other bits are written 0 and ignored when read."; "22: Feature value not 8 octets"
pub read_and_written :
    (feature_of (0x01 ∷ 0x02 ∷ 0x00 ∷ 0x00 ∷ 0x04 ∷ 0x00 ∷ 0x01 ∷ 0x00 ∷ []) ≡ given (record { features = 0x201; targets = 0x10004 })) ×
    (feature_of (0xFF ∷ 0xFF ∷ 0xFF ∷ 0xFF ∷ 0xFF ∷ 0xFF ∷ 0xFF ∷ 0xFF ∷ []) ≡ given (record { features = 0x1FFFF; targets = 0x1FFFF })) ×
    (feature_of (0 ∷ 0 ∷ 0 ∷ 0 ∷ 0 ∷ 0 ∷ 0 ∷ []) ≡ refused 22) × (feature_of (0 ∷ 0 ∷ 0 ∷ 0 ∷ 0 ∷ 0 ∷ 0 ∷ 0 ∷ 0 ∷ []) ≡ refused 22) ×
    (feature_octets (record { features = 0x201; targets = 0x10004 }) ≡ 0x01 ∷ 0x02 ∷ 0x00 ∷ 0x00 ∷ 0x04 ∷ 0x00 ∷ 0x01 ∷ 0x00 ∷ []) ×
    (feature_octets (record { features = 0xFFFFFFFF; targets = 0x20000 }) ≡ 0xFF ∷ 0xFF ∷ 0x01 ∷ 0x00 ∷ 0x00 ∷ 0x00 ∷ 0x00 ∷ 0x00 ∷ []) ×
    (has_named 0x10000 16 ≡ true) × (has_named 0x20000 17 ≡ false) × (has_named 0x1FFFE 0 ≡ false)
unfolding number spelled has
read_and_written = (refl, refl, refl, refl, refl, refl, refl, refl, refl)
