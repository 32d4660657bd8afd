-- The field tables of the six kinds. "A notification is a flags field, then the groups named by its bits, in ascending bit order, least
-- octet first. Bit 0 is More Data: the main group is present exactly when it is 0." So bit 0 stands for the main group here.
use Rattle.std.specs.Prelude.{ℕ, suc, List, [], ◌∷◌, ◌++◌, get_or}
use Rattle.record.specs.declared.layout.Row.{Row}
use Rattle.record.specs.declared.layout.Width.{Width}
use Rattle.record.specs.declared.layout.Width.TheVariants.{U8, U16, U24, S16}

-- a field is an index into a record's wire numbers

abbrev pub speed : ℕ
speed = 0

abbrev pub floors : ℕ
floors = 1

abbrev pub steps : ℕ
steps = 2

abbrev pub stroke_rate : ℕ
stroke_rate = 3

abbrev pub stroke_count : ℕ
stroke_count = 4

abbrev pub average_speed : ℕ
average_speed = 5

abbrev pub distance : ℕ
distance = 6

abbrev pub inclination : ℕ
inclination = 7

abbrev pub ramp_angle : ℕ
ramp_angle = 8

abbrev pub positive_gain : ℕ
positive_gain = 9

abbrev pub negative_gain : ℕ
negative_gain = 10

abbrev pub pace : ℕ
pace = 11

abbrev pub average_pace : ℕ
average_pace = 12

abbrev pub total_energy : ℕ
total_energy = 13

abbrev pub energy_per_hour : ℕ
energy_per_hour = 14

abbrev pub energy_per_minute : ℕ
energy_per_minute = 15

abbrev pub heart_rate : ℕ
heart_rate = 16

abbrev pub metabolic_equivalent : ℕ
metabolic_equivalent = 17

abbrev pub elapsed : ℕ
elapsed = 18

abbrev pub remaining : ℕ
remaining = 19

abbrev pub belt_force : ℕ
belt_force = 20

abbrev pub power_output : ℕ
power_output = 21

abbrev pub step_rate : ℕ
step_rate = 22

abbrev pub average_step_rate : ℕ
average_step_rate = 23

abbrev pub stride_count : ℕ
stride_count = 24

abbrev pub resistance : ℕ
resistance = 25

abbrev pub power : ℕ
power = 26

abbrev pub average_power : ℕ
average_power = 27

abbrev pub average_stroke_rate : ℕ
average_stroke_rate = 28

abbrev pub cadence : ℕ
cadence = 29

abbrev pub average_cadence : ℕ
average_cadence = 30

-- how many fields there are
abbrev pub fields : ℕ
fields = 31

-- a row: the bit that names the group, the field, its width
abbrev pub at : ℕ → ℕ → Width → Row
at b f w = record { 0 = b; 1 = f; 2 = w }

-- the row past the last one, and of an unknown kind
abbrev pub no_row : Row
no_row = at 0 speed U8

-- "Widths: u8, u16, u24, s16": the number of octets of each
abbrev pub octets_of : Width → ℕ
octets_of U8 = 1
octets_of U16 = 2
octets_of U24 = 3
octets_of S16 = 2

-- ---- groups: each is its fields in the order of the wire, with their widths

infixl 95 ◌u8 ◌u16 ◌u24 ◌s16
infixr 90 ◌and◌
-- "Widths: u8, u16, u24, s16": a group of one field
abbrev pub ◌u8 : ℕ → List (ℕ × Width)
◌u8 field = (field, U8) ∷ []

abbrev pub ◌u16 : ℕ → List (ℕ × Width)
◌u16 field = (field, U16) ∷ []

abbrev pub ◌u24 : ℕ → List (ℕ × Width)
◌u24 field = (field, U24) ∷ []

abbrev pub ◌s16 : ℕ → List (ℕ × Width)
◌s16 field = (field, S16) ∷ []

-- two lists of fields joined into one group
abbrev pub ◌and◌ : List (ℕ × Width) → List (ℕ × Width) → List (ℕ × Width)
◌and◌ fields others = fields ++ others

-- "E is energy: total u16, per hour u16, per minute u8."
abbrev pub E : List (ℕ × Width)
E = total_energy u16 and energy_per_hour u16 and energy_per_minute u8

-- "H heart rate u8, M metabolic equivalent u8, T elapsed u16, R remaining u16."
abbrev pub H : List (ℕ × Width)
H = heart_rate u8

abbrev pub M : List (ℕ × Width)
M = metabolic_equivalent u8

abbrev pub T : List (ℕ × Width)
T = elapsed u16

abbrev pub R : List (ℕ × Width)
R = remaining u16

-- "Slope is inclination s16, in tenths of a percent, then ramp angle s16, in tenths of a degree."
abbrev pub slope : List (ℕ × Width)
slope = inclination s16 and ramp_angle s16

-- "Gain is positive u16, then negative u16."
abbrev pub gain : List (ℕ × Width)
gain = positive_gain u16 and negative_gain u16

-- ---- kinds

-- the rows of a group that a bit names
abbrev pub rows_of : ℕ → List (ℕ × Width) → List Row
rows_of bit [] = []
rows_of bit (x ∷ fields) = at bit x.0 x.1 ∷ rows_of bit fields

-- the rows of groups, each at the next bit: "in ascending bit order"
abbrev pub in_turn : ℕ → List (List (ℕ × Width)) → List Row
in_turn bit [] = []
in_turn bit (group ∷ groups) = rows_of bit group ++ in_turn (suc bit) groups

-- a line of the table, "kind | main | bits 1, 2, 3 ..": the main group, which bit 0 stands for, and the groups of the bits from 1 up
abbrev pub line : List (ℕ × Width) → List (List (ℕ × Width)) → List Row
line main groups = in_turn 0 (main ∷ groups)

-- "1 treadmill"
unfoldable pub treadmill : List Row
treadmill =
    line (speed u16)
    (average_speed u16 ∷ distance u24 ∷ slope ∷ gain ∷ pace u8 ∷ average_pace u8 ∷ E ∷ H ∷ M ∷ T ∷ R ∷ belt_force s16 and power_output s16 ∷ [])

-- "2 cross trainer"
unfoldable pub cross_trainer : List Row
cross_trainer =
    line (speed u16)
    (average_speed u16 ∷ distance u24 ∷ step_rate u16 and average_step_rate u16 ∷ stride_count u16 ∷ gain ∷ slope ∷
    resistance s16 ∷ power s16 ∷ average_power s16 ∷ E ∷ H ∷ M ∷ T ∷ R ∷ [])

-- "3 step climber"
unfoldable pub step_climber : List Row
step_climber = line (floors u16 and steps u16) (step_rate u16 ∷ average_step_rate u16 ∷ positive_gain u16 ∷ E ∷ H ∷ M ∷ T ∷ R ∷ [])

-- "4 stair climber"
unfoldable pub stair_climber : List Row
stair_climber = line (floors u16) (step_rate u16 ∷ average_step_rate u16 ∷ positive_gain u16 ∷ stride_count u16 ∷ E ∷ H ∷ M ∷ T ∷ R ∷ [])

-- "5 rower"
unfoldable pub rower : List Row
rower =
    line (stroke_rate u8 and stroke_count u16)
    (average_stroke_rate u8 ∷ distance u24 ∷ pace u16 ∷ average_pace u16 ∷ power s16 ∷ average_power s16 ∷ resistance s16 ∷
    E ∷ H ∷ M ∷ T ∷ R ∷ [])

-- "6 indoor bike"
unfoldable pub indoor_bike : List Row
indoor_bike =
    line (speed u16)
    (average_speed u16 ∷ cadence u16 ∷ average_cadence u16 ∷ distance u24 ∷ resistance s16 ∷ power s16 ∷ average_power s16 ∷
    E ∷ H ∷ M ∷ T ∷ R ∷ [])

-- the tables by kind: a seventh kind adds one more
unfoldable pub tables : List (List Row)
tables = [] ∷ treadmill ∷ cross_trainer ∷ step_climber ∷ stair_climber ∷ rower ∷ indoor_bike ∷ []

-- the rows of a kind: none for an unknown kind
unfoldable pub layout : ℕ → List Row
layout kind = get_or tables kind []
