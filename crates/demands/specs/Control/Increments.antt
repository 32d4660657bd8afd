-- W-206: "A target is allowed when it is in the range and its distance from the least value is a multiple of the increment.": the same in other words,
-- for a judge of targets, for any control point and for every setting; and what it is without steps.
use Rattle.std.specs.Prelude.{ℕ, ◌-◌, ◌*◌, ◌≤◌, ◌≡◌, Bool, true, false, ◌&&◌, List, [], ◌∷◌, ℤ, pos, ◌+ℤ◌, length, replicate, Some}
use Rattle.std.specs.Int.Signed.{le_z}
use Rattle.record.specs.declared.feature.Feature.{Feature}
use Rattle.record.specs.Answer.{given}
use Rattle.record.specs.Feature.{feature_of}
use Rattle.record.specs.Groups.{has}
use Rattle.record.specs.Octets.{number, signed}
use Rattle.service.specs.declared.control.ranges.Ranges.{Ranges}
use Rattle.service.specs.declared.control.op_codes.Bound.{Bound}
use Rattle.service.specs.declared.control.op_codes.Bound.TheVariants.{Free, Speed, Inclination, Resistance, Power, HeartRate, OneOrTwo}
use Rattle.service.specs.Control.Ranges.{Range, of_speed, of_signed, of_heart_rate, in_range, value}
use Rattle.service.specs.Control.Machine.{someone}
use Rattle.service.specs.Control.Calls.{Opening}
use Rattle.demands.specs.Control.Point.{Call, write, Point, Event, run}
use Rattle.demands.specs.Control.Laws.{result_in, holder_by}
use Rattle.demands.specs.Control.History.{awaited_by, connected_by, indicating_by}

-- ---- a judge of targets

-- a number that is reached from the least value in whole steps, and is not above the greatest
pub record OnStep (r : Range) (x : ℤ) : Type 0 where
  pub steps : ℕ
  pub reached : x ≡ r.least +ℤ pos (steps * r.increment)
  pub not_above : le_z x r.greatest ≡ true

-- a judge that allows these numbers and no others
pub record AllowsSteps (judge : Range → ℤ → Bool) : Type 0 where
  pub only : (r : Range) (x : ℤ) → judge r x ≡ true → OnStep r x
  pub each : (r : Range) (x : ℤ) → OnStep r x → judge r x ≡ true

-- ---- the five targets

pub data Target : Type 0 where
  speed inclination resistance power heart_rate : Target

-- "02 speed u16, 03 inclination s16, 04 resistance u8, 05 power s16, 06 heart rate u8": its op code, its octets, and the number in them
abbrev pub op : Target → ℕ
op speed = 0x02
op inclination = 0x03
op resistance = 0x04
op power = 0x05
op heart_rate = 0x06

abbrev pub octets : Target → ℕ
octets speed = 2
octets inclination = 2
octets resistance = 1
octets power = 2
octets heart_rate = 1

abbrev pub number_in : Target → List ℕ → ℤ
number_in speed p = pos (number 2 p)
number_in inclination p = signed (number 2 p)
number_in resistance p = pos (number 1 p)
number_in power p = signed (number 2 p)
number_in heart_rate p = pos (number 1 p)

abbrev pub range_of : Ranges → Target → Range
range_of r speed = of_speed r.speed
range_of r inclination = of_signed r.inclination
range_of r resistance = of_signed r.resistance
range_of r power = of_signed r.power
range_of r heart_rate = of_heart_rate r.heart_rate

-- after every opening and every sequence of calls a target that is granted, by result 01, has its right length and is on a step of the range that the
-- control point was opened with, and one of its right length that is answered 03 is not
pub record GrantsSteps {S : Type 0} (p : Point S) : Type 0 where
  pub granted : (o : Opening) (x : S) → p.opening o ≡ given x → (qs : List Call) (c : ℕ) (t : Target) (w : List ℕ) →
      result_in (p.calling (run p x [] qs).1 (write c (op t ∷ w))).0 ≡ 0x01 → (length w ≡ octets t) × OnStep (range_of o.ranges t) (number_in t w)
  pub declined : (o : Opening) (x : S) → p.opening o ≡ given x → (qs : List Call) (c : ℕ) (t : Target) (w : List ℕ) →
      result_in (p.calling (run p x [] qs).1 (write c (op t ∷ w))).0 ≡ 0x03 → length w ≡ octets t → OnStep (range_of o.ranges t) (number_in t w) → ⊥

-- by the history a client's target is judged by its number: the client is one of the four and connected, its indications are on, no response is due, it
-- holds control, and the machine has the target's bit: "02 to 06 need target bits 0 to 4"
pub record MaySet (f : Feature) (past : List Event) (c : ℕ) (t : Target) : Type 0 where
  pub small : c ≤ 3
  pub joined : connected_by c past ≡ true
  pub shown : indicating_by c past ≡ true
  pub clear : someone (awaited_by past) ≡ false
  pub holds : holder_by past [] ≡ Some c
  pub able : has f.targets (op t - 2) ≡ true

-- "result 03 also for a target off the steps": such a client's target is answered 01 if it has its right length and is on a step, and 03 if not
pub record DecidesSteps {S : Type 0} (p : Point S) : Type 0 where
  pub grants : (o : Opening) (f : Feature) → feature_of o.feature ≡ given f → (x : S) → p.opening o ≡ given x → (qs : List Call) (c : ℕ) (t : Target)
      (w : List ℕ) → MaySet f (run p x [] qs).0 c t → length w ≡ octets t → OnStep (range_of o.ranges t) (number_in t w) →
      result_in (p.calling (run p x [] qs).1 (write c (op t ∷ w))).0 ≡ 0x01
  pub declines : (o : Opening) (f : Feature) → feature_of o.feature ≡ given f → (x : S) → p.opening o ≡ given x → (qs : List Call) (c : ℕ) (t : Target)
      (w : List ℕ) → MaySet f (run p x [] qs).0 c t → (length w ≡ octets t → OnStep (range_of o.ranges t) (number_in t w) → ⊥) →
      result_in (p.calling (run p x [] qs).1 (write c (op t ∷ w))).0 ≡ 0x03

-- "Reset still sets zero, whether or not zero is allowed.": a setting is zero, or on a step of its range
pub data Settled (r : Ranges) (t : Target) (p : List ℕ) : Type 0 where
  at_zero : p ≡ replicate (octets t) 0 → Settled r t p
  on_step : length p ≡ octets t → OnStep (range_of r t) (number_in t p) → Settled r t p

-- ---- without steps

-- each increment is 1
pub record ByOne (r : Ranges) : Type 0 where
  pub each : (t : Target) → (range_of r t).increment ≡ 1

-- what is allowed without W-206: "Ranges (least, greatest, both allowed)"; "value outside its range or 08 with neither 1 nor 2"; of 13, "neither 1 nor 2"
abbrev pub lies_in : Range → ℤ → Bool
lies_in r x = in_range r.least r.greatest x

abbrev pub allowed_before : Ranges → Bound → List ℕ → Bool
allowed_before r Free p = true
allowed_before r Speed p = lies_in (range_of r speed) (value Speed p)
allowed_before r Inclination p = lies_in (range_of r inclination) (value Inclination p)
allowed_before r Resistance p = lies_in (range_of r resistance) (value Resistance p)
allowed_before r Power p = lies_in (range_of r power) (value Power p)
allowed_before r HeartRate p = lies_in (range_of r heart_rate) (value HeartRate p)
allowed_before r OneOrTwo p = in_range (pos 1) (pos 2) (value OneOrTwo p)

-- the opposite of "some range has least above greatest"
abbrev pub ordered : Range → Bool
ordered r = le_z r.least r.greatest

abbrev pub ranges_before : Ranges → Bool
ranges_before r =
    ordered (range_of r speed) && (ordered (range_of r inclination) && (ordered (range_of r resistance) && (ordered (range_of r power) &&
    ordered (range_of r heart_rate))))
