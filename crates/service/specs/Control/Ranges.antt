-- "Ranges (least, greatest, both allowed) exist for speed u16, inclination s16, resistance s16, power s16, heart rate u8." W-206: "Each range gets its
-- increment, u16 (for heart rate u8)."
use Rattle.std.specs.Prelude.{ℕ, ◌%◌, Bool, true, not, ◌&&◌, List, eqb, ℤ, pos, nat_abs, ◌-ℤ◌}
use Rattle.std.specs.Int.Signed.{le_z}
use Rattle.record.specs.Octets.{number, signed}
use Rattle.service.specs.declared.control.ranges.Range.{Range as Declared}
use Rattle.service.specs.declared.control.ranges.Ranges.{Ranges}
use Rattle.service.specs.declared.control.op_codes.Bound.{Bound}
use Rattle.service.specs.declared.control.op_codes.Bound.TheVariants.{Free, Speed, Inclination, Resistance, Power, HeartRate, OneOrTwo}

-- W-206: "The increment stands in the same shared range as the two ends.": a range in numbers, whatever their widths
pub record Range : Type 0 where
  pub least : ℤ
  pub greatest : ℤ
  pub increment : ℕ

abbrev pub bounds : ℤ → ℤ → ℕ → Range
bounds a b i = record { least = a; greatest = b; increment = i }

abbrev pub of_speed : Declared ℕ ℕ → Range
of_speed r = bounds (pos r.least) (pos r.greatest) r.increment

abbrev pub of_signed : Declared ℤ ℕ → Range
of_signed r = bounds r.least r.greatest r.increment

abbrev pub of_heart_rate : Declared ℕ ℕ → Range
of_heart_rate r = bounds (pos r.least) (pos r.greatest) r.increment

-- "both allowed"
abbrev pub in_range : ℤ → ℤ → ℤ → Bool
in_range least greatest x = le_z least x && le_z x greatest

-- W-206: "its distance from the least value"
abbrev pub distance : ℤ → ℤ → ℕ
distance least x = nat_abs (x -ℤ least)

-- W-206: "a multiple of the increment": nothing remains. The remainder by 0 is the number itself, so 0 alone is a multiple of 0.
abbrev pub multiple : ℕ → ℕ → Bool
multiple increment n = eqb (n % increment) 0

-- W-206: "A target is allowed when it is in the range and its distance from the least value is a multiple of the increment."
abbrev pub admits : Range → ℤ → Bool
admits r x = in_range r.least r.greatest x && multiple r.increment (distance r.least x)

-- the opposite of "some range has least above greatest", and of W-206's "16 also for an increment of 0"
abbrev pub is_range : Range → Bool
is_range r = le_z r.least r.greatest && not (eqb r.increment 0)

-- the number that is bounded: "02 speed u16, 03 inclination s16, 04 resistance u8, 05 power s16, 06 heart rate u8", "08 stop (1) or pause (2)"; W-201:
-- "parameter 1 starts, 2 ignores"
abbrev pub value : Bound → List ℕ → ℤ
value Free p = pos 0
value Speed p = pos (number 2 p)
value Inclination p = signed (number 2 p)
value Resistance p = pos (number 1 p)
value Power p = signed (number 2 p)
value HeartRate p = pos (number 1 p)
value OneOrTwo p = pos (number 1 p)

-- whether that number is allowed
abbrev pub bounded : Ranges → Bound → ℤ → Bool
bounded r Free x = true
bounded r Speed x = admits (of_speed r.speed) x
bounded r Inclination x = admits (of_signed r.inclination) x
bounded r Resistance x = admits (of_signed r.resistance) x
bounded r Power x = admits (of_signed r.power) x
bounded r HeartRate x = admits (of_heart_rate r.heart_rate) x
bounded r OneOrTwo x = in_range (pos 1) (pos 2) x

-- the opposite of "value outside its range or 08 with neither 1 nor 2", of W-201's "result 03 for neither 1 nor 2", and of W-206's "result 03 also for a
-- target off the steps"
abbrev pub allowed : Ranges → Bound → List ℕ → Bool
allowed r b p = bounded r b (value b p)

-- the opposite of "16: some range has least above greatest" and "an increment of 0", of each of the five
abbrev pub are_ranges : Ranges → Bool
are_ranges r =
    is_range (of_speed r.speed) && (is_range (of_signed r.inclination) && (is_range (of_signed r.resistance) && (is_range (of_signed r.power) &&
    is_range (of_heart_rate r.heart_rate))))
