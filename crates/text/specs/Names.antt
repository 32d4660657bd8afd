-- "each present field .. under its name above with underscores. E prints `total_energy`, `energy_per_hour`, `energy_per_minute`; gain `positive_gain`,
-- `negative_gain`." The key of each field, by its number.
use Rattle.std.specs.Prelude.{ℕ, ◌-◌, List, [], ◌∷◌, length, get_or, take}
use Prim.Native.String.{String}
use Rattle.text.specs.Text.{ascii}

unfoldable pub names : List String
names =
    "speed=" ∷ "floors=" ∷ "steps=" ∷ "stroke_rate=" ∷ "stroke_count=" ∷ "average_speed=" ∷ "distance=" ∷ "inclination=" ∷ "ramp_angle=" ∷
    "positive_gain=" ∷ "negative_gain=" ∷ "pace=" ∷ "average_pace=" ∷ "total_energy=" ∷ "energy_per_hour=" ∷ "energy_per_minute=" ∷ "heart_rate=" ∷
    "metabolic_equivalent=" ∷ "elapsed=" ∷ "remaining=" ∷ "belt_force=" ∷ "power_output=" ∷ "step_rate=" ∷ "average_step_rate=" ∷ "stride_count=" ∷
    "resistance=" ∷ "power=" ∷ "average_power=" ∷ "average_stroke_rate=" ∷ "cadence=" ∷ "average_cadence=" ∷ []

-- the key of a field as octets; empty if there is no such field
unfoldable pub name : ℕ → List ℕ
unfolding names
name field = ascii (get_or names field "")

-- the name of a field: its key without the `=`
unfoldable pub bare : ℕ → List ℕ
bare field = take (length (name field) - 1) (name field)
