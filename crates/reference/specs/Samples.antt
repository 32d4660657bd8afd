-- Lines of the tables and macros, by computation: document 01's order, widths and units, and the lengths of its own numbers.
use Rattle.std.specs.Prelude.{◌+◌, ◌-◌, ◌≡◌, refl, ◌++◌, map, get_or}
use Rattle.record.specs.declared.layout.Row.{Row}
use Rattle.record.specs.Layout.{layout, no_row, tables, treadmill, cross_trainer, step_climber, stair_climber, rower, indoor_bike}
use Rattle.record.specs.Groups.{has, named, size, groups_of, listed}
use Rattle.text.specs.Names.{names, name, bare}
use Rattle.text.specs.Text.{ascii, decimal, hex}
use Rattle.reference.specs.Header.{capitals, prefix, mask_line, width_note, octets_line, row_macros, number_macro, first_macros, direction_macro, all_macro, macros}
use Rattle.reference.specs.Tables.{group_word, unit_word, unit_cell, flag_line, other_flags, bit_lines, row_names, row_place, row_line, kind_word, title, whole_length, sizes}

-- "Slope is inclination s16, in tenths of a percent, then ramp angle s16, in tenths of a degree." "Gain is positive u16, then negative u16."
pub treadmill_lines :
    (row_line 1 9 (get_or (layout 1) 3 no_row) ≡ ascii "| bit 3 is 1 | slope | inclination | s16 | 9 | tenths of a percent |\n") ×
    (row_line 1 11 (get_or (layout 1) 4 no_row) ≡ ascii "| bit 3 is 1 | slope | ramp_angle | s16 | 11 | tenths of a degree |\n") ×
    (row_line 1 13 (get_or (layout 1) 5 no_row) ≡ ascii "| bit 4 is 1 | gain | positive_gain | u16 | 13 | |\n") ×
    (row_line 1 15 (get_or (layout 1) 6 no_row) ≡ ascii "| bit 4 is 1 | gain | negative_gain | u16 | 15 | |\n")
unfolding layout tables treadmill has named size names name bare decimal group_word row_names unit_cell row_place row_line
treadmill_lines = (refl, refl, refl, refl)

-- a group of one field has the field's name, the main group is `main`, and other groups of several fields are named by their fields
pub other_lines :
    (row_line 3 4 (get_or (layout 3) 1 no_row) ≡ ascii "| bit 0 is 0 | main | steps | u16 | 4 | |\n") ×
    (row_line 3 10 (get_or (layout 3) 4 no_row) ≡ ascii "| bit 3 is 1 | positive_gain | positive_gain | u16 | 10 | |\n") ×
    (row_line 2 12 (get_or (layout 2) 4 no_row) ≡ ascii "| bit 3 is 1 | step_rate and average_step_rate | average_step_rate | u16 | 12 | |\n")
unfolding layout tables step_climber cross_trainer has named size names name bare decimal group_word row_names unit_cell row_place row_line
other_lines = (refl, refl, refl)

-- the indoor bike's 30 octets at payload 30, in one part; and the cross trainer's 18, 20 and 9 less twice its flags
pub all_groups :
    (sizes 6 ≡ ascii "Flags: 2 octets. With all groups present: 30 octets.\n\n") ×
    (sizes 2 ≡ ascii "Flags: 3 octets. With all groups present: 41 octets.\n\n") ×
    (title 2 ≡ ascii "# Kind 2: cross trainer\n\n")
unfolding layout tables cross_trainer indoor_bike has named size groups_of listed decimal kind_word title whole_length sizes
all_groups = (refl, refl, refl)

-- the units: of every kind but the indoor bike, as document 01 and source document 000 give them; a bike's table has no column of units
pub units :
    (unit_cell 2 22 ≡ ascii " | steps per minute |\n") ×
    (unit_cell 5 11 ≡ ascii " | time per 500 meters |\n") ×
    (unit_cell 5 12 ≡ ascii " | time per 500 meters |\n") ×
    (unit_cell 1 11 ≡ ascii " | |\n") ×
    (row_line 6 2 (get_or (layout 6) 0 no_row) ≡ ascii "| bit 0 is 0 | main | speed | u16 | 2 |\n") ×
    (map (λ (r : Row). unit_word 6 r.1) (layout 6) ≡ map (λ (r : Row). "") (layout 6))
unfolding layout tables indoor_bike has named size names name bare decimal group_word row_names unit_cell row_place row_line
units = (refl, refl, refl, refl, refl, refl)

-- the flags after More Data: each group's bit once, under the group's name; then what is reserved, and the direction of kind 2
pub flag_samples :
    (bit_lines 3 ≡ ascii "| 1 | 1: step_rate present |\n| 2 | 1: average_step_rate present |\n| 3 | 1: positive_gain present |\n"
    ++ ascii "| 4 | 1: energy present |\n| 5 | 1: heart_rate present |\n| 6 | 1: metabolic_equivalent present |\n"
    ++ ascii "| 7 | 1: elapsed present |\n| 8 | 1: remaining present |\n| 9 to 15 | reserved: written 0, ignored when read |\n") ×
    (other_flags 2 14 ≡ ascii "| 15 | direction: 0 forward, 1 backward |\n| 16 to 23 | reserved: written 0, ignored when read |\n")
unfolding layout tables step_climber has named size names name bare decimal group_word flag_line other_flags bit_lines
flag_samples = (refl, refl)

-- the macros of a step climber, whole: "floors u16, steps u16 | step rate u16; average step rate u16; positive gain u16; E; H; M; T; R"
pub macro_samples :
    (macros 3 ≡ ascii "#define HORDIVASZ_STEP_CLIMBER 3u\n#define HORDIVASZ_STEP_CLIMBER_FLAGS_OCTETS 2u\n"
    ++ ascii "#define HORDIVASZ_STEP_CLIMBER_FLOORS_OCTETS 2u /* u16 */\n#define HORDIVASZ_STEP_CLIMBER_STEPS_OCTETS 2u /* u16 */\n"
    ++ ascii "#define HORDIVASZ_STEP_CLIMBER_STEP_RATE_MASK (1u << 1)\n#define HORDIVASZ_STEP_CLIMBER_STEP_RATE_OCTETS 2u /* u16 steps per minute */\n"
    ++ ascii "#define HORDIVASZ_STEP_CLIMBER_AVERAGE_STEP_RATE_MASK (1u << 2)\n#define HORDIVASZ_STEP_CLIMBER_AVERAGE_STEP_RATE_OCTETS 2u /* u16 */\n"
    ++ ascii "#define HORDIVASZ_STEP_CLIMBER_POSITIVE_GAIN_MASK (1u << 3)\n#define HORDIVASZ_STEP_CLIMBER_POSITIVE_GAIN_OCTETS 2u /* u16 */\n"
    ++ ascii "#define HORDIVASZ_STEP_CLIMBER_ENERGY_MASK (1u << 4)\n#define HORDIVASZ_STEP_CLIMBER_TOTAL_ENERGY_OCTETS 2u /* u16 */\n"
    ++ ascii "#define HORDIVASZ_STEP_CLIMBER_ENERGY_PER_HOUR_OCTETS 2u /* u16 */\n#define HORDIVASZ_STEP_CLIMBER_ENERGY_PER_MINUTE_OCTETS 1u /* u8 */\n"
    ++ ascii "#define HORDIVASZ_STEP_CLIMBER_HEART_RATE_MASK (1u << 5)\n#define HORDIVASZ_STEP_CLIMBER_HEART_RATE_OCTETS 1u /* u8 */\n"
    ++ ascii "#define HORDIVASZ_STEP_CLIMBER_METABOLIC_EQUIVALENT_MASK (1u << 6)\n#define HORDIVASZ_STEP_CLIMBER_METABOLIC_EQUIVALENT_OCTETS 1u /* u8 */\n"
    ++ ascii "#define HORDIVASZ_STEP_CLIMBER_ELAPSED_MASK (1u << 7)\n#define HORDIVASZ_STEP_CLIMBER_ELAPSED_OCTETS 2u /* u16 */\n"
    ++ ascii "#define HORDIVASZ_STEP_CLIMBER_REMAINING_MASK (1u << 8)\n#define HORDIVASZ_STEP_CLIMBER_REMAINING_OCTETS 2u /* u16 */\n"
    ++ ascii "#define HORDIVASZ_STEP_CLIMBER_ALL_GROUPS 0x01FEu\n#define HORDIVASZ_STEP_CLIMBER_LONGEST 23u\n") ×
    (direction_macro 2 ≡ ascii "#define HORDIVASZ_CROSS_TRAINER_BACKWARD_MASK (1u << 15)\n") ×
    (width_note 1 (get_or (layout 1) 3 no_row) ≡ ascii "/* s16 tenths of a percent */\n") ×
    (width_note 2 (get_or (layout 2) 9 no_row) ≡ ascii "/* s16 tenths of a degree */\n")
unfolding layout tables treadmill cross_trainer step_climber has named size groups_of listed names name bare decimal hex group_word kind_word whole_length capitals prefix mask_line width_note octets_line row_macros number_macro first_macros direction_macro all_macro macros
macro_samples = (refl, refl, refl, refl)

-- document 01's flags of an indoor bike with all groups, FE 1F; and of each kind the length of one notification with all groups, from document 01's part lengths: their sum,
-- less the flags of all parts but one
pub whole_samples :
    (all_macro 6 ≡ ascii "#define HORDIVASZ_INDOOR_BIKE_ALL_GROUPS 0x1FFEu\n") ×
    (whole_length 1 ≡ 17 + 19 - 2) × (whole_length 2 ≡ 18 + 20 + 9 - 6) × (whole_length 3 ≡ 19 + 6 - 2) × (whole_length 4 ≡ 19 + 6 - 2) ×
    (whole_length 5 ≡ 16 + 16 - 2) × (whole_length 6 ≡ 30)
unfolding layout tables treadmill cross_trainer step_climber stair_climber rower indoor_bike has named size groups_of listed hex kind_word whole_length capitals prefix all_macro
whole_samples = (refl, refl, refl, refl, refl, refl, refl)

-- each kind under its own name: "1 treadmill", "2 cross trainer", "3 step climber", "4 stair climber", "5 rower", "6 indoor bike"
pub kind_samples :
    (title 1 ≡ ascii "# Kind 1: treadmill\n\n") × (title 2 ≡ ascii "# Kind 2: cross trainer\n\n") × (title 3 ≡ ascii "# Kind 3: step climber\n\n") ×
    (title 4 ≡ ascii "# Kind 4: stair climber\n\n") × (title 5 ≡ ascii "# Kind 5: rower\n\n") × (title 6 ≡ ascii "# Kind 6: indoor bike\n\n")
unfolding decimal kind_word title
kind_samples = (refl, refl, refl, refl, refl, refl)
