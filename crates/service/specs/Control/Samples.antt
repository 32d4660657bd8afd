-- Lines of the op codes, by computation: document 01's numbers, W-201's and W-206's.
use Rattle.std.specs.Prelude.{◌≡◌, refl, ℕ, Bool, true, false, List, [], ◌∷◌, ◌++◌, map, ℤ, pos, negsuc, replicate, Option, Some, None}
use Rattle.record.specs.Octets.{spelled, number}
use Rattle.record.specs.declared.layout.Width.{Width}
use Rattle.record.specs.declared.layout.Width.TheVariants.{U8, U16, U24, S16}
use Rattle.service.specs.declared.control.machine.Machine.{Machine}
use Rattle.service.specs.declared.control.op_codes.OpCode.{OpCode}
use Rattle.service.specs.Control.Parameters.{widths, together}
use Rattle.service.specs.declared.control.parameters.Parameter.TheVariants.{One}
use Rattle.service.specs.declared.control.op_codes.Bound.TheVariants.{OneOrTwo}
use Rattle.service.specs.declared.control.op_codes.Status.TheVariants.{Silent}
use Rattle.service.specs.declared.control.op_codes.Act.TheVariants.{SpinsDown}
use Rattle.service.specs.declared.control.judging.WriteResult.TheVariants.{Success}
use Rattle.service.specs.declared.control.spin_down.TargetSpeeds.{TargetSpeeds}
use Rattle.service.specs.declared.control.spin_down.Run.{Run}
use Rattle.service.specs.declared.control.spin_down.Run.TheVariants.{Off, Quiet}
use Rattle.service.specs.declared.control.ranges.Ranges.{Ranges}
use Rattle.service.specs.Control.Ranges.{Range, bounds, of_speed, of_signed, of_heart_rate, admits, is_range}
use Rattle.service.specs.Control.OpCodes.{known, op_code}
use Rattle.service.specs.Control.SpinDown.{on, said_at, run_at}
use Rattle.service.specs.Control.Console.{closed}
use Rattle.service.specs.Control.Effects.{response_octets, success_followed, success_status, setting}

abbrev parameter : Option OpCode → List Width
parameter (Some x) = widths x.parameter
parameter None = []

-- "02 speed u16", "0C distance u24", "10 five, one u16 for each zone", "11 wind s16, grade s16, rolling u8, drag u8"
pub parameters :
    (parameter (op_code 0x02) ≡ U16 ∷ []) ×
    (parameter (op_code 0x0c) ≡ U24 ∷ []) ×
    (together (parameter (op_code 0x10)) ≡ 10) ×
    (parameter (op_code 0x11) ≡ S16 ∷ S16 ∷ U8 ∷ U8 ∷ []) ×
    (together (parameter (op_code 0x11)) ≡ 6)
unfolding op_code
parameters = (refl, refl, refl, refl, refl)

-- "01 gives 01; 07 gives 04; 08 gives 02 and its parameter; 02 to 06 give op code plus 3, 09 to 12 op code plus 1, 14 gives 15, each with the
-- parameter. 00 gives none."
pub statuses :
    (success_status (op_code 0x00) [] ≡ []) ×
    (success_status (op_code 0x01) [] ≡ 0x01 ∷ []) ×
    (success_status (op_code 0x06) (100 ∷ []) ≡ 0x09 ∷ 100 ∷ []) ×
    (success_status (op_code 0x07) [] ≡ 0x04 ∷ []) ×
    (success_status (op_code 0x08) (2 ∷ []) ≡ 0x02 ∷ 2 ∷ []) ×
    (success_status (op_code 0x12) (7 ∷ 8 ∷ []) ≡ 0x13 ∷ 7 ∷ 8 ∷ []) ×
    (success_status (op_code 0x14) (7 ∷ 8 ∷ []) ≡ 0x15 ∷ 7 ∷ 8 ∷ [])
unfolding op_code
statuses = (refl, refl, refl, refl, refl, refl, refl)

-- W-201: "Op code 13 becomes supported with target bit 15: parameter 1 starts, 2 ignores.", "a start or an ignore gives none"; 15 is not known
pub spin_down :
    (op_code 0x13 ≡ Some (known (One U8) (Some 15) OneOrTwo Silent SpinsDown)) ×
    (parameter (op_code 0x13) ≡ U8 ∷ []) ×
    (success_status (op_code 0x13) (1 ∷ []) ≡ []) ×
    (success_status (op_code 0x13) (2 ∷ []) ≡ []) ×
    (op_code 0x15 ≡ None)
unfolding op_code
spin_down = (refl, refl, refl, refl, refl)

-- its octet is no setting: none of a machine's octets is read for it
pub no_setting : (m : Machine) → setting m 0x13 ≡ []
unfolding op_code setting
no_setting m = refl

-- "A successful start answers 80 13 01 followed by a low and a high target speed, u16 each": 1,000 is 03E8 hex and 2,000 is 07D0 hex; nothing follows for
-- an ignore
abbrev speeds : TargetSpeeds
speeds = record { low = 1000; high = 2000 }

pub speeds_follow :
    (response_octets 0x13 Success ++ success_followed speeds (op_code 0x13) (1 ∷ []) ≡ 0x80 ∷ 0x13 ∷ 0x01 ∷ 0xe8 ∷ 0x03 ∷ 0xd0 ∷ 0x07 ∷ []) ×
    (response_octets 0x13 Success ++ success_followed speeds (op_code 0x13) (2 ∷ []) ≡ 0x80 ∷ 0x13 ∷ 0x01 ∷ [])
unfolding op_code number spelled
speeds_follow = (refl, refl)

-- what is said at each speed of a run, in order, and whether it is on after them
abbrev course : Run → List ℕ → List (List ℕ) × Bool
course r [] = ([], on r)
course r (v ∷ vs) = let rest : List (List ℕ) × Bool = course (run_at speeds r v) vs in (said_at speeds r v ∷ rest.0, rest.1)

-- "above the high speed nothing happens, at the first speed at or below it the console says 4, at or below the low speed, even at once, it says success
-- only and the run is over. Outside a run a speed does nothing"
pub courses :
    (course Quiet (2001 ∷ 2000 ∷ 1999 ∷ 2001 ∷ 1500 ∷ 1000 ∷ 900 ∷ []) ≡
    ([] ∷ (0x14 ∷ 4 ∷ []) ∷ [] ∷ [] ∷ [] ∷ (0x14 ∷ 2 ∷ []) ∷ [] ∷ [], false)) ×
    (course Quiet (1000 ∷ []) ≡ ((0x14 ∷ 2 ∷ []) ∷ [], false)) ×
    (course Quiet (1001 ∷ 2000 ∷ []) ≡ ((0x14 ∷ 4 ∷ []) ∷ [] ∷ [], true)) ×
    (course Quiet (65535 ∷ 0 ∷ []) ≡ ([] ∷ (0x14 ∷ 2 ∷ []) ∷ [], false)) ×
    (course Off (2000 ∷ 1000 ∷ []) ≡ ([] ∷ [] ∷ [], false))
courses = (refl, refl, refl, refl, refl)

-- W-206, in numbers: 1,000 to 2,000 in steps of 10; −32,768 to 32,767 in steps of 65,535, both ends and nothing between; the greatest off the steps;
-- −5 to 3 in steps of 2; an increment of 0
pub on_steps :
    (map (admits (bounds (pos 1000) (pos 2000) 10)) (pos 990 ∷ pos 1000 ∷ pos 1005 ∷ pos 1010 ∷ pos 2000 ∷ pos 2010 ∷ []) ≡
    false ∷ true ∷ false ∷ true ∷ true ∷ false ∷ []) ×
    (map (admits (bounds (negsuc 32767) (pos 32767) 65535)) (negsuc 32767 ∷ negsuc 32766 ∷ negsuc 0 ∷ pos 0 ∷ pos 32766 ∷ pos 32767 ∷ []) ≡
    true ∷ false ∷ false ∷ false ∷ false ∷ true ∷ []) ×
    (map (admits (bounds (pos 0) (pos 25) 10)) (pos 0 ∷ pos 20 ∷ pos 25 ∷ pos 30 ∷ []) ≡ true ∷ true ∷ false ∷ false ∷ []) ×
    (map (admits (bounds (negsuc 4) (pos 3) 2)) (negsuc 4 ∷ pos 0 ∷ pos 1 ∷ pos 2 ∷ pos 3 ∷ pos 4 ∷ []) ≡ true ∷ false ∷ true ∷ false ∷ true ∷ false ∷ []) ×
    (map is_range (bounds (pos 0) (pos 25) 10 ∷ bounds (pos 0) (pos 25) 0 ∷ bounds (pos 25) (pos 25) 1 ∷ bounds (pos 26) (pos 25) 1 ∷ []) ≡
    true ∷ false ∷ true ∷ false ∷ [])
on_steps = (refl, refl, refl, refl, refl)

-- the console of a refused opening: each number of its ranges, and each target speed, is 0
abbrev parts : Range → List ℤ
parts r = r.least ∷ r.greatest ∷ pos r.increment ∷ []

abbrev numbers : Ranges → List ℤ
numbers r =
    parts (of_speed r.speed) ++ parts (of_signed r.inclination) ++ parts (of_signed r.resistance) ++ parts (of_signed r.power) ++
    parts (of_heart_rate r.heart_rate)

pub closed_numbers :
    (numbers closed.machine.setup.ranges ≡ replicate 15 (pos 0)) × (closed.machine.setup.speeds.low ≡ 0) × (closed.machine.setup.speeds.high ≡ 0)
closed_numbers = (refl, refl, refl)
