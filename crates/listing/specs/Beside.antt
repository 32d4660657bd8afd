-- "then each present field, main group first, as a bare decimal number under its name above with underscores": the names beside the values, taken from
-- a record's named fields, and a predicate on any function that lists a record.
use Rattle.std.specs.Prelude.{ℕ, ◌≡◌, Bool, true, cond, ◌||◌, List, [], ◌∷◌, ◌++◌, eqb, ℤ, pos, get_or}
use Prim.Native.String.{String}
use Rattle.record.specs.declared.layout.Row.{Row}
use Rattle.record.specs.declared.record.Record.{Record}
use Rattle.record.specs.Layout.{layout}
use Rattle.record.specs.Groups.{has}
use Rattle.record.specs.Record.{well_formed, Typed}
use Rattle.text.specs.Text.{ascii, decimal, integer, line}

-- a name, and its value in a record
abbrev pub entry : String → (Record → ℤ) → String × (Record → ℤ)
entry name value = (name, value)

-- the 31 fields, in the order of their numbers. "E prints `total_energy`, `energy_per_hour`, `energy_per_minute`; gain `positive_gain`, `negative_gain`."
abbrev pub entries : List (String × (Record → ℤ))
entries =
    entry "speed" (λ r. pos r.speed) ∷
    entry "floors" (λ r. pos r.climb.floors) ∷
    entry "steps" (λ r. pos r.climb.steps) ∷
    entry "stroke_rate" (λ r. pos r.stroke.rate) ∷
    entry "stroke_count" (λ r. pos r.stroke.count) ∷
    entry "average_speed" (λ r. pos r.average_speed) ∷
    entry "distance" (λ r. pos r.distance) ∷
    entry "inclination" (λ r. r.slope.inclination.0) ∷
    entry "ramp_angle" (λ r. r.slope.ramp_angle.0) ∷
    entry "positive_gain" (λ r. pos r.gain.positive) ∷
    entry "negative_gain" (λ r. pos r.gain.negative) ∷
    entry "pace" (λ r. pos r.pace) ∷
    entry "average_pace" (λ r. pos r.average_pace) ∷
    entry "total_energy" (λ r. pos r.energy.total) ∷
    entry "energy_per_hour" (λ r. pos r.energy.per_hour) ∷
    entry "energy_per_minute" (λ r. pos r.energy.per_minute) ∷
    entry "heart_rate" (λ r. pos r.heart_rate) ∷
    entry "metabolic_equivalent" (λ r. pos r.metabolic_equivalent) ∷
    entry "elapsed" (λ r. pos r.elapsed) ∷
    entry "remaining" (λ r. pos r.remaining) ∷
    entry "belt_force" (λ r. r.force.belt) ∷
    entry "power_output" (λ r. r.force.power_output) ∷
    entry "step_rate" (λ r. pos r.step_rates.rate) ∷
    entry "average_step_rate" (λ r. pos r.step_rates.average) ∷
    entry "stride_count" (λ r. pos r.stride_count) ∷
    entry "resistance" (λ r. r.resistance) ∷
    entry "power" (λ r. r.power) ∷
    entry "average_power" (λ r. r.average_power) ∷
    entry "average_stroke_rate" (λ r. pos r.average_stroke_rate) ∷
    entry "cadence" (λ r. pos r.cadence) ∷
    entry "average_cadence" (λ r. pos r.average_cadence) ∷ []

-- for a number that is no field's
abbrev pub no_entry : String × (Record → ℤ)
no_entry = entry "" (λ r. pos 0)

-- a name, `=`, and the value
abbrev pub entry_line : Record → String × (Record → ℤ) → List ℕ
entry_line r e = line (ascii e.0 ++ ascii "=") (integer (e.1 r))

-- a field is present if its group is; the main group always is
abbrev pub present : Record → Row → Bool
present r row = eqb row.0 0 || has r.groups row.0

-- the lines of the present fields of rows
abbrev pub lines_beside : Record → List Row → List ℕ
lines_beside r [] = []
lines_beside r (row ∷ rows) = cond (present r row) (entry_line r (get_or entries row.1 no_entry)) [] ++ lines_beside r rows

-- what any function that lists records must print for a well-formed record, where n is the record's number
abbrev pub Lists : (ℕ → Record → List ℕ) → Type 0
Lists lister =
    (n : ℕ) (r : Record) → Typed r → well_formed r ≡ true →
    lister n r ≡
    (line (ascii "record=") (decimal n) ++ line (ascii "kind=") (decimal r.kind) ++ line (ascii "groups=") (decimal r.groups)
    ++ line (ascii "direction=") (decimal r.direction))
    ++ lines_beside r (layout r.kind)
