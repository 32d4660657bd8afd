-- Which fields follow each other in document 01's layouts, for any rows, and computed for all kinds: a law in words other than the table's.
use Rattle.std.specs.Prelude.{ℕ, ◌≡◌, refl, Bool, true, false, cond, not, ◌&&◌, ◌||◌, List, [], ◌∷◌, eqb, get_or, set}
use Rattle.record.specs.declared.layout.Row.{Row}
use Rattle.record.specs.declared.layout.Width.TheVariants.{U8, U16}
use Rattle.record.specs.declared.record.Record.{Record}
use Rattle.record.specs.Layout.{at, fields, inclination, ramp_angle, positive_gain, negative_gain, total_energy, energy_per_hour, energy_per_minute, tables, treadmill, cross_trainer, step_climber, stair_climber, rower, indoor_bike}
use Rattle.record.specs.Record.{wire, of_wire}

-- a row and the next: the first has field a exactly when the second has field b, and then both belong to one group
abbrev pub beside : ℕ → ℕ → Row → Row → Bool
beside a b r s = cond (eqb r.1 a) (eqb s.1 b && eqb r.0 s.0) (not (eqb s.1 b))

-- a row of no field, which serves as the row before the first and as the row after the last
abbrev pub edge : Row
edge = at 0 fields U8

-- `beside` holds for each row and the next, from a row on
abbrev pub each_next : ℕ → ℕ → Row → List Row → Bool
each_next a b r [] = beside a b r edge
each_next a b r (s ∷ rows) = beside a b r s && each_next a b s rows

-- wherever field a is, field b follows it in the same group; and b is nowhere else
abbrev pub followed : ℕ → ℕ → List Row → Bool
followed a b rows = each_next a b edge rows

-- a field is in no row
abbrev pub nowhere : ℕ → List Row → Bool
nowhere a [] = true
nowhere a (r ∷ rows) = not (eqb r.1 a) && nowhere a rows

-- "Slope is inclination s16, .. then ramp angle s16", "E is energy: total u16, per hour u16, per minute u8", "Gain is positive u16, then negative
-- u16": wherever a kind has them. The climbers have "positive gain u16" alone, and negative gain nowhere.
abbrev pub ordered : List Row → Bool
ordered rows =
    followed inclination ramp_angle rows && followed total_energy energy_per_hour rows && followed energy_per_hour energy_per_minute rows
    && (followed positive_gain negative_gain rows || nowhere negative_gain rows)

abbrev pub all_ordered : List (List Row) → Bool
all_ordered [] = true
all_ordered (rows ∷ more) = ordered rows && all_ordered more

-- the tables of all kinds are ordered
pub kinds_ordered : all_ordered tables ≡ true
unfolding tables treadmill cross_trainer step_climber stair_climber rower indoor_bike
kinds_ordered = refl

-- the kinds that have negative gain are the treadmill and the cross trainer
pub gain_kinds :
    (nowhere negative_gain treadmill ≡ false) × (nowhere negative_gain cross_trainer ≡ false) × (nowhere negative_gain step_climber ≡ true)
    × (nowhere negative_gain stair_climber ≡ true) × (nowhere negative_gain rower ≡ true) × (nowhere negative_gain indoor_bike ≡ true)
unfolding treadmill cross_trainer step_climber stair_climber rower indoor_bike
gain_kinds = (refl, refl, refl, refl, refl, refl)

-- `ordered` rejects negative gain before positive gain, and the two in the right order but in two groups
pub exchanged_refused :
    (ordered (at 5 negative_gain U16 ∷ at 5 positive_gain U16 ∷ []) ≡ false) × (ordered (at 5 positive_gain U16 ∷ at 6 negative_gain U16 ∷ []) ≡ false)
exchanged_refused = (refl, refl)

-- a record with its positive and negative gain exchanged, which the samples, demand 2 and the listing's law reject
abbrev pub exchanged : Record → Record
exchanged r =
    let v : List ℕ = wire r in
    of_wire r.kind r.groups r.direction (set (set v positive_gain (get_or v negative_gain 0)) negative_gain (get_or v positive_gain 0))
