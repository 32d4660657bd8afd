-- The macros for C of a kind: the mask of each group in the flags, the octets of each field, and the longest notification.
use Rattle.std.specs.Prelude.{ℕ, ◌-◌, ◌/◌, ◌%◌, cond, List, [], ◌++◌, map, eqb, leb}
use Rattle.record.specs.declared.layout.Row.{Row}
use Rattle.record.specs.Layout.{layout, octets_of}
use Rattle.record.specs.Groups.{listed, flags_octets}
use Rattle.text.specs.Text.{ascii, decimal, hex}
use Rattle.text.specs.Names.{bare}
use Rattle.reference.specs.Tables.{width_word, unit_word, group_word, kind_word, by_bit, whole_length}

-- a small letter as a capital, and `_` for a space
abbrev pub capital : ℕ → ℕ
capital c = cond (leb 97 c) (cond (leb c 122) (c - 32) c) (cond (eqb c 32) 95 c)

unfoldable pub capitals : List ℕ → List ℕ
capitals text = map capital text

-- the beginning of each macro of a kind
unfoldable pub prefix : ℕ → List ℕ
prefix kind = ascii "#define HORDIVASZ_" ++ capitals (ascii (kind_word kind))

-- the mask of a group, once, at the group's first row: the row before has another bit. "Bit 0 is More Data", so the main group has none
unfoldable pub mask_line : ℕ → ℕ → Row → List ℕ
mask_line kind b r =
    cond (eqb r.0 b) []
    (prefix kind ++ ascii "_" ++ capitals (group_word kind r) ++ ascii "_MASK (1u << " ++ decimal r.0 ++ ascii ")\n")

-- a comment with the width of a field, and its unit: "inclination s16, in tenths of a percent, then ramp angle s16, in tenths of a degree"
unfoldable pub width_note : ℕ → Row → List ℕ
width_note kind r = ascii "/* " ++ ascii (width_word r.2) ++ ascii " " ++ ascii (unit_word kind r.1) ++ ascii "*/\n"

-- the number of octets of a field
unfoldable pub octets_line : ℕ → Row → List ℕ
octets_line kind r =
    prefix kind ++ ascii "_" ++ capitals (bare r.1) ++ ascii "_OCTETS " ++ decimal (octets_of r.2) ++ ascii "u " ++ width_note kind r

-- the macros of a row: the mask of its group, if it is the group's first row, and its own octets
unfoldable pub row_macros : ℕ → ℕ → Row → List ℕ
row_macros kind b r = mask_line kind b r ++ octets_line kind r

-- a macro of a kind whose value is a number, with the rest of its name
unfoldable pub number_macro : ℕ → List ℕ → ℕ → List ℕ
number_macro kind name n = prefix kind ++ name ++ decimal n ++ ascii "u\n"

-- the kind's number, and the octets of its flags
unfoldable pub first_macros : ℕ → List ℕ
first_macros kind = number_macro kind (ascii " ") kind ++ number_macro kind (ascii "_FLAGS_OCTETS ") (flags_octets kind)

-- "Kind 2 has direction in bit 15 (0 forward, 1 backward)."
unfoldable pub direction_macro : ℕ → List ℕ
direction_macro kind = cond (eqb kind 2) (prefix kind ++ ascii "_BACKWARD_MASK (1u << 15)\n") []

-- the set of all optional groups
unfoldable pub all_macro : ℕ → List ℕ
all_macro kind = prefix kind ++ ascii "_ALL_GROUPS 0x" ++ hex (listed kind / 256 % 256) ++ hex (listed kind % 256) ++ ascii "u\n"

-- the macros of a kind: those of each row of its layout, in the order of the wire, between the kind's own; the last is the octets of a notification with all groups
unfoldable pub macros : ℕ → List ℕ
macros kind =
    first_macros kind ++ by_bit (row_macros kind) 0 (layout kind) ++ direction_macro kind ++ all_macro kind
    ++ number_macro kind (ascii "_LONGEST ") (whole_length kind)
