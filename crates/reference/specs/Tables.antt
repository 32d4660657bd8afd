-- The printed table of a kind: a line for each row of its layout, in the order of the wire, each once.
use Rattle.std.specs.Prelude.{ℕ, ◌+◌, cond, List, [], ◌∷◌, ◌++◌, eqb, leb, get_or}
use Prim.Native.String.{String}
use Rattle.record.specs.declared.layout.Row.{Row}
use Rattle.record.specs.declared.layout.Width.{Width}
use Rattle.record.specs.declared.layout.Width.TheVariants.{U8, U16, U24, S16}
use Rattle.record.specs.Layout.{layout, octets_of, inclination, ramp_angle, negative_gain, pace, average_pace, energy_per_minute, power_output, step_rate}
use Rattle.record.specs.Groups.{listed, flags_octets, set_length, group_length}
use Rattle.text.specs.Text.{ascii, decimal}
use Rattle.text.specs.Names.{bare}

-- "Widths: u8, u16, u24, s16"
abbrev pub width_word : Width → String
width_word U8 = "u8"
width_word U16 = "u16"
width_word U24 = "u24"
width_word S16 = "s16"

-- a rower's pace, by source document 000, 4.8.1.6: "pace (time per 500 meters)"; and 4.8.1.7 of the average
abbrev pub pace_word : ℕ → String
pace_word f = cond (eqb f pace) "time per 500 meters " (cond (eqb f average_pace) "time per 500 meters " "")

-- source document 000, 4.5.1.5, 4.6.1.4 and 4.7.1.3, the "Step per Minute Rate": "the average step rate of a user during a period of one minute"
abbrev pub rate_word : ℕ → ℕ → String
rate_word kind f = cond (eqb f step_rate) "steps per minute " (cond (eqb kind 5) (pace_word f) "")

-- "inclination s16, in tenths of a percent, then ramp angle s16, in tenths of a degree"; no document gives another field of a record a unit
abbrev pub unit_word : ℕ → ℕ → String
unit_word kind f =
    cond (eqb f inclination) "tenths of a percent " (cond (eqb f ramp_angle) "tenths of a degree " (rate_word kind f))

-- the column of units; no field of an indoor bike, kind 6, has one, and its table leaves the column out
unfoldable pub unit_cell : ℕ → ℕ → List ℕ
unit_cell kind f = cond (eqb kind 6) (ascii " |\n") (ascii " | " ++ ascii (unit_word kind f) ++ ascii "|\n")

unfoldable pub columns : ℕ → List ℕ
columns kind =
    cond (eqb kind 6) (ascii "| present when | group | field | width | first octet |\n|---|---|---|---|---|\n")
    (ascii "| present when | group | field | width | first octet | unit |\n|---|---|---|---|---|---|\n")

-- "Bit 0 is More Data: the main group is present exactly when it is 0."; the others are "the groups named by its bits"
abbrev pub present_word : ℕ → String
present_word bit = cond (eqb bit 0) " is 0 | " " is 1 | "

-- the name of a group of several fields, given one of them: the numbers of its fields are consecutive
abbrev pub shared_word : ℕ → String
shared_word f =
    cond (leb f ramp_angle) "slope" (cond (leb f negative_gain) "gain" (cond (leb f energy_per_minute) "energy"
    (cond (leb f power_output) "belt_force and power_output" "step_rate and average_step_rate")))

-- the name of a row's group: a group of one field has the field's
unfoldable pub group_word : ℕ → Row → List ℕ
group_word kind r =
    cond (eqb r.0 0) (ascii "main") (cond (eqb (group_length kind r.0) (octets_of r.2)) (bare r.1) (ascii (shared_word r.1)))

-- when the group is present, group, field; width, octet, unit
unfoldable pub row_names : ℕ → Row → List ℕ
row_names kind r = ascii "| bit " ++ decimal r.0 ++ ascii (present_word r.0) ++ group_word kind r ++ ascii " | " ++ bare r.1

unfoldable pub row_place : ℕ → ℕ → Row → List ℕ
row_place kind o r = ascii " | " ++ ascii (width_word r.2) ++ ascii " | " ++ decimal o ++ unit_cell kind r.1

unfoldable pub row_line : ℕ → ℕ → Row → List ℕ
row_line kind o r = row_names kind r ++ row_place kind o r

-- the lines of rows, the first of which begins at an octet
abbrev pub row_lines : ℕ → ℕ → List Row → List ℕ
row_lines kind o [] = []
row_lines kind o (r ∷ rows) = row_line kind o r ++ row_lines kind (o + octets_of r.2) rows

-- every row of the layout, in its order, after the flags
unfoldable pub table : ℕ → List ℕ
table kind = row_lines kind (flags_octets kind) (layout kind)

-- the bit of the last of some rows; if there are none, the given bit
abbrev pub last_bit : ℕ → List Row → ℕ
last_bit b [] = b
last_bit b (r ∷ rows) = last_bit r.0 rows

-- a group's bit of the flags, once, at the group's first row: the row before has another bit
unfoldable pub flag_line : ℕ → ℕ → Row → List ℕ
flag_line kind b r = cond (eqb r.0 b) [] (ascii "| " ++ decimal r.0 ++ ascii " | 1: " ++ group_word kind r ++ ascii " present |\n")

-- the lines of rows; each line depends on the bit of the row before it and on the row itself
abbrev pub by_bit : (ℕ → Row → List ℕ) → ℕ → List Row → List ℕ
by_bit line b [] = []
by_bit line b (r ∷ rows) = line b r ++ by_bit line r.0 rows

-- "Kind 2 has direction in bit 15 (0 forward, 1 backward). All other bits are reserved: written 0, ignored when read."
unfoldable pub other_flags : ℕ → ℕ → List ℕ
other_flags kind b =
    cond (eqb kind 2) (ascii "| 15 | direction: 0 forward, 1 backward |\n| 16 to 23 | reserved: written 0, ignored when read |\n")
    (ascii "| " ++ decimal (b + 1) ++ ascii " to 15 | reserved: written 0, ignored when read |\n")

-- the bits after More Data
unfoldable pub bit_lines : ℕ → List ℕ
bit_lines kind = by_bit (flag_line kind) 0 (layout kind) ++ other_flags kind (last_bit 0 (layout kind))

-- every bit of the flags. "Bit 0 is More Data: the main group is present exactly when it is 0."
unfoldable pub flags_table : ℕ → List ℕ
flags_table kind =
    ascii "| bit | what it says |\n|---|---|\n| 0 | More Data: the main group is present exactly when this bit is 0 |\n" ++ bit_lines kind

-- the kinds' names, by their numbers
abbrev pub kind_words : List String
kind_words = "" ∷ "treadmill" ∷ "cross trainer" ∷ "step climber" ∷ "stair climber" ∷ "rower" ∷ "indoor bike" ∷ []

unfoldable pub kind_word : ℕ → String
kind_word kind = get_or kind_words kind ""

unfoldable pub title : ℕ → List ℕ
title kind = ascii "# Kind " ++ decimal kind ++ ascii ": " ++ ascii (kind_word kind) ++ ascii "\n\n"

-- the octets of a notification with all groups: the flags, the main group and every optional one
unfoldable pub whole_length : ℕ → ℕ
whole_length kind = flags_octets kind + set_length kind (listed kind + 1)

-- the octets of the flags, and of a notification with all groups
unfoldable pub sizes : ℕ → List ℕ
sizes kind =
    ascii "Flags: " ++ decimal (flags_octets kind) ++ ascii " octets. With all groups present: " ++ decimal (whole_length kind) ++ ascii " octets.\n\n"

unfoldable pub page : ℕ → List ℕ
page kind =
    title kind ++ sizes kind ++ ascii "## Flags\n\n" ++ flags_table kind ++ ascii "\n## Fields\n\n" ++ columns kind ++ table kind
