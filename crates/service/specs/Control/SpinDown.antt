-- W-201: "Crews calibrate a bike by coasting and need the console to lead it."
use Rattle.std.specs.Prelude.{ℕ, Bool, true, false, cond, List, [], ◌∷◌, ◌++◌, eqb, leb, ltb}
use Rattle.record.specs.Octets.{spelled}
use Rattle.service.specs.declared.control.spin_down.TargetSpeeds.{TargetSpeeds}
use Rattle.service.specs.declared.control.spin_down.Run.{Run}
use Rattle.service.specs.declared.control.spin_down.Run.TheVariants.{Off, Quiet, Warned}
use Rattle.service.specs.declared.control.op_codes.Act.{Act}
use Rattle.service.specs.declared.control.op_codes.Act.TheVariants.{TakesControl, Resets, Starts, Halts, Stores, SpinsDown}

-- the opposite of "16 also when the low target is not below the high one"
abbrev pub in_order : TargetSpeeds → Bool
in_order t = ltb t.low t.high

-- whether there is a run
abbrev pub on : Run → Bool
on Off = false
on Quiet = true
on Warned = true

-- "parameter 1 starts, 2 ignores": whether an op code with this parameter starts a run, and the run after a parameter of 13
abbrev pub starts_run : Act → ℕ → Bool
starts_run TakesControl x = false
starts_run Resets x = false
starts_run Starts x = false
starts_run Halts x = false
starts_run (Stores at) x = false
starts_run SpinsDown x = eqb x 1

abbrev pub spun_to : ℕ → Run
spun_to x = cond (eqb x 1) Quiet Off

-- "A successful start answers 80 13 01 followed by a low and a high target speed, u16 each": what follows 80, op code and 01
abbrev pub speed_octets : TargetSpeeds → List ℕ
speed_octets t = spelled 2 t.low ++ spelled 2 t.high

abbrev pub followed_by : TargetSpeeds → Act → ℕ → List ℕ
followed_by t a x = cond (starts_run a x) (speed_octets t) []

-- "The status is 14 with 2 success or 4 stop pedalling"
abbrev pub success_said : List ℕ
success_said = 0x14 ∷ 2 ∷ []

abbrev pub stop_said : List ℕ
stop_said = 0x14 ∷ 4 ∷ []

-- "above the high speed nothing happens, at the first speed at or below it the console says 4, at or below the low speed, even at once, it says success
-- only and the run is over. Outside a run a speed does nothing": the status octets at a speed, and the run after it
module _ (t : TargetSpeeds) where
  abbrev pub said_at : Run → ℕ → List ℕ
  said_at Off v = []
  said_at Quiet v = cond (leb v t.low) success_said (cond (leb v t.high) stop_said [])
  said_at Warned v = cond (leb v t.low) success_said []

  abbrev pub run_at : Run → ℕ → Run
  run_at Off v = Off
  run_at Quiet v = cond (leb v t.low) Off (cond (leb v t.high) Warned Quiet)
  run_at Warned v = cond (leb v t.low) Off Warned
