-- The lines of a record and of a refusal.
use Rattle.std.specs.Prelude.{ℕ, ◌+◌, ◌%◌, ◌^◌, cond, List, [], ◌∷◌, ◌++◌, get_or}
use Rattle.record.specs.declared.layout.Row.{Row}
use Rattle.record.specs.declared.layout.Width.{Width}
use Rattle.record.specs.declared.layout.Width.TheVariants.{U8, U16, U24, S16}
use Rattle.record.specs.declared.record.Record.{Record}
use Rattle.record.specs.Layout.{layout}
use Rattle.record.specs.Groups.{has, optional}
use Rattle.record.specs.Octets.{signed}
use Rattle.record.specs.Record.{wire}
use Rattle.text.specs.Names.{name}
use Rattle.text.specs.Text.{ascii, decimal, integer, line}

-- the text of a field's wire number: "Numbers print as they stand, negative ones after `-`."
abbrev pub value : Width → ℕ → List ℕ
value U8 n = decimal n
value U16 n = decimal n
value U24 n = decimal n
value S16 n = integer (signed (n % 2 ^ 16))

-- the line of a row, if its group is in the set
unfoldable pub field_line : ℕ → List ℕ → Row → List ℕ
field_line set v r = cond (has set r.0) (line (name r.1) (value r.2 (get_or v r.1 0))) []

-- "then each present field, main group first": the rows are in the order of the wire
abbrev pub field_lines : ℕ → List ℕ → List Row → List ℕ
field_lines set v [] = []
field_lines set v (r ∷ rows) = field_line set v r ++ field_lines set v rows

-- "`record=` (1 up), `kind=`, `groups=` (the set in decimal), `direction=`"
unfoldable pub head_lines : ℕ → ℕ → ℕ → ℕ → List ℕ
head_lines number kind groups direction =
    line (ascii "record=") (decimal number) ++ line (ascii "kind=") (decimal kind) ++ line (ascii "groups=") (decimal groups)
    ++ line (ascii "direction=") (decimal direction)

-- a record's lines; bit 0 of a set stands for the main group, which every record has
unfoldable pub record_lines : ℕ → Record → List ℕ
record_lines number r =
    head_lines number r.kind r.groups r.direction ++ field_lines (optional r.groups + 1) (wire r) (layout r.kind)

-- "prints `refused=`" and the table's number
unfoldable pub refused_line : ℕ → List ℕ
refused_line n = line (ascii "refused=") (decimal n)

-- the room for a record's first four lines, for its fields' lines, and for the lines of one notification: a record's, or a refusal's
abbrev pub head_room : ℕ
head_room = 73

abbrev pub fields_room : ℕ
fields_room = 640

abbrev pub longest : ℕ
longest = 1024
