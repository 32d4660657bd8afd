-- Records: "A record is a kind, a set of optional groups as the bits above, a direction and the field values."
use Rattle.std.specs.Prelude.{ℕ, ◌+◌, ◌%◌, ◌^◌, ◌<◌, ◌≤◌, ◌≡◌, Bool, true, cond, ◌&&◌, List, [], ◌∷◌, eqb, leb, ltb, get_or, set, replicate}
use Rattle.std.specs.Int.Bits.{bit_and}
use Rattle.std.specs.Int.{w16}
use Rattle.std.proofs.Common.{SFits}
use Rattle.record.specs.declared.layout.Row.{Row}
use Rattle.record.specs.declared.record.Record.{Record}
use Rattle.record.specs.declared.numbers.Wire.{Wire}
use Rattle.record.specs.Layout as Layout
use Rattle.record.specs.Layout.{layout, octets_of}
use Rattle.record.specs.Groups.{named, listed, known, within}
use Rattle.record.specs.Octets.{signed, unsigned}

-- a record's wire numbers, one for each field, in the fields' order
abbrev pub wire : Record → List ℕ
wire r =
    r.speed ∷ r.climb.floors ∷ r.climb.steps ∷ r.stroke.rate ∷ r.stroke.count ∷ r.average_speed ∷ r.distance ∷
    unsigned r.slope.inclination.0 ∷ unsigned r.slope.ramp_angle.0 ∷ r.gain.positive ∷ r.gain.negative ∷
    r.pace ∷ r.average_pace ∷ r.energy.total ∷ r.energy.per_hour ∷ r.energy.per_minute ∷
    r.heart_rate ∷ r.metabolic_equivalent ∷ r.elapsed ∷ r.remaining ∷
    unsigned r.force.belt ∷ unsigned r.force.power_output ∷ r.step_rates.rate ∷ r.step_rates.average ∷
    r.stride_count ∷ unsigned r.resistance ∷ unsigned r.power ∷ unsigned r.average_power ∷
    r.average_stroke_rate ∷ r.cadence ∷ r.average_cadence ∷ []

-- a record with its wire numbers
abbrev pub wired : Record → Wire
wired r = record { kind = r.kind; groups = r.groups; direction = r.direction; numbers = wire r }

-- the record with these wire numbers, each truncated to its field's type
abbrev pub of_wire : ℕ → ℕ → ℕ → List ℕ → Record
of_wire k g d v =
    let n : ℕ → ℕ = λ field. get_or v field 0 % 2 ^ 16 in
    let b : ℕ → ℕ = λ field. get_or v field 0 % 2 ^ 8 in
    record {
      kind = k;
      groups = g;
      direction = d;
      speed = n Layout.speed;
      climb = record { floors = n Layout.floors; steps = n Layout.steps };
      stroke = record { rate = b Layout.stroke_rate; count = n Layout.stroke_count };
      average_speed = n Layout.average_speed;
      distance = get_or v Layout.distance 0;
      slope = record { inclination = record { 0 = signed (n Layout.inclination) }; ramp_angle = record { 0 = signed (n Layout.ramp_angle) } };
      gain = record { positive = n Layout.positive_gain; negative = n Layout.negative_gain };
      pace = n Layout.pace;
      average_pace = n Layout.average_pace;
      energy = record { total = n Layout.total_energy; per_hour = n Layout.energy_per_hour; per_minute = b Layout.energy_per_minute };
      heart_rate = b Layout.heart_rate;
      metabolic_equivalent = b Layout.metabolic_equivalent;
      elapsed = n Layout.elapsed;
      remaining = n Layout.remaining;
      force = record { belt = signed (n Layout.belt_force); power_output = signed (n Layout.power_output) };
      step_rates = record { rate = n Layout.step_rate; average = n Layout.average_step_rate };
      stride_count = n Layout.stride_count;
      resistance = signed (n Layout.resistance);
      power = signed (n Layout.power);
      average_power = signed (n Layout.average_power);
      average_stroke_rate = b Layout.average_stroke_rate;
      cadence = n Layout.cadence;
      average_cadence = n Layout.average_cadence;
    }

-- "each value fits its width"
unfoldable pub all_fit : List Row → List ℕ → Bool
all_fit [] v = true
all_fit (r ∷ rows) v = ltb (get_or v r.1 0) (256 ^ octets_of r.2) && all_fit rows v

-- numbers, with 0 for every field that is in one of the rows
unfoldable pub others : List Row → List ℕ → List ℕ
others [] v = v
others (r ∷ rows) v = others rows (set v r.1 0)

unfoldable pub all_zero : List ℕ → Bool
all_zero [] = true
all_zero (x ∷ v) = eqb x 0 && all_zero v

-- "It is well formed when the set has only bits listed for its kind, each value fits its width, fields of absent groups are 0, and
-- direction is 0 unless kind 2."
unfoldable pub formed : ℕ → ℕ → ℕ → List ℕ → Bool
formed kind groups direction v =
    let rows : List Row = named (1 + groups) (layout kind) in
    known kind && within groups (listed kind) && leb direction (cond (eqb kind 2) 1 0) && all_fit rows v && all_zero (others rows v)

abbrev pub well_formed : Record → Bool
well_formed r = formed r.kind r.groups r.direction (wire r)

-- the numbers z, with v's number for every field that is in one of the rows
unfoldable pub kept : List Row → List ℕ → List ℕ → List ℕ
kept [] v z = z
kept (r ∷ rows) v z = kept rows v (set z r.1 (get_or v r.1 0))

-- what the tests of `formed` say about a well-formed record
pub record Formed (k g d : ℕ) (v : List ℕ) : Type 0 where
  pub kind_least : 1 ≤ k
  pub kind_greatest : k ≤ 6
  pub listed_only : bit_and g (listed k) ≡ g
  pub way : d < 2
  pub ways : (k ≡ 2 → ⊥) → d ≡ 0
  pub fit : all_fit (named (1 + g) (layout k)) v ≡ true
  pub absent : kept (named (1 + g) (layout k)) v (replicate 31 0) ≡ v

-- the bits of each field's type
abbrev pub type_bits : List ℕ
type_bits =
    16 ∷ 16 ∷ 16 ∷ 8 ∷ 16 ∷ 16 ∷ 32 ∷ 16 ∷ 16 ∷ 16 ∷ 16 ∷ 16 ∷ 16 ∷ 16 ∷ 16 ∷ 8 ∷ 8 ∷ 8 ∷ 16 ∷ 16 ∷ 16 ∷ 16 ∷ 16 ∷ 16 ∷ 16 ∷ 16 ∷ 16 ∷ 16 ∷ 8 ∷ 16 ∷ 16 ∷ []

-- each number of a list has at most as many bits as the other list says
unfoldable pub bits_within : List ℕ → List ℕ → Bool
bits_within [] v = true
bits_within (b ∷ bs) [] = true
bits_within (b ∷ bs) (x ∷ v) = ltb x (2 ^ b) && bits_within bs v

abbrev pub in_types : List ℕ → Bool
in_types v = bits_within type_bits v

-- each field of a record fits its type
pub record Typed (r : Record) : Type 0 where
  pub numbers : in_types (wire r) ≡ true
  pub inclination : SFits w16 r.slope.inclination.0
  pub ramp_angle : SFits w16 r.slope.ramp_angle.0
  pub belt : SFits w16 r.force.belt
  pub power_output : SFits w16 r.force.power_output
  pub resistance : SFits w16 r.resistance
  pub power : SFits w16 r.power
  pub average_power : SFits w16 r.average_power
