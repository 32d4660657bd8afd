-- "Success: 00 gives control; 01 zeroes every setting, stops and frees control; 07 sets running, 08 stopped (1) or paused (2); 02 to 06, 09 to
-- 12 and 14 store the parameter octets." W-201: "parameter 1 starts, 2 ignores".
use Rattle.std.specs.Prelude.{ℕ, ◌+◌, ◌≤◌, cond, List, [], ◌∷◌, ◌++◌, eqb, take, drop, Option, Some, None}
use Rattle.record.specs.Octets.{number, placed}
use Rattle.service.specs.declared.control.machine.Machine.{Machine}
use Rattle.service.specs.declared.control.machine.Mode.{Mode}
use Rattle.service.specs.declared.control.machine.Mode.TheVariants.{Stopped, Running, Paused}
use Rattle.service.specs.declared.control.op_codes.Act.{Act}
use Rattle.service.specs.declared.control.op_codes.Act.TheVariants.{TakesControl, Resets, Starts, Halts, Stores, SpinsDown}
use Rattle.service.specs.declared.control.op_codes.Status.{Status}
use Rattle.service.specs.declared.control.op_codes.Status.TheVariants.{Silent, Octet, Echo}
use Rattle.service.specs.declared.control.op_codes.OpCode.{OpCode}
use Rattle.service.specs.declared.control.judging.WriteResult.{WriteResult}
use Rattle.service.specs.declared.control.effects.Performed.{Performed}
use Rattle.service.specs.Control.OpCodes.{op_code}
use Rattle.service.specs.Control.Parameters.{size}
use Rattle.service.specs.Control.Counted.{boxed}
use Rattle.service.specs.declared.control.spin_down.TargetSpeeds.{TargetSpeeds}
use Rattle.service.specs.Control.SpinDown.{spun_to, followed_by}
use Rattle.service.specs.Control.Machine.{held_by, spinning, going, storing, cleared}
use Rattle.service.specs.Control.Judging.{result_number, succeeds, result}

-- "Response: 80, op code, result."
abbrev pub response_octets : ℕ → WriteResult → List ℕ
response_octets o r = 0x80 ∷ o ∷ result_number r ∷ []

-- "08 stopped (1) or paused (2)"
abbrev pub halted_to : ℕ → Mode
halted_to x = cond (eqb x 1) Stopped Paused

abbrev pub done : Machine → ℕ → Act → List ℕ → Machine
done m c TakesControl p = held_by m (Some c)
done m c Resets p = cleared m
done m c Starts p = going m Running
done m c Halts p = going m (halted_to (number 1 p))
done m c (Stores at) p = storing m (placed m.settings at p)
done m c SpinsDown p = spinning m (spun_to (number 1 p))

-- "Status octets: 01 gives 01; .. 08 gives 02 and its parameter; .. 00 gives none."
abbrev pub status_octets : Status → List ℕ → List ℕ
status_octets Silent p = []
status_octets (Octet x) p = x ∷ []
status_octets (Echo x) p = x ∷ p

-- what follows the three octets of the response to an op code that succeeds with its parameter, its status octets, and the machine after it
abbrev pub success_followed : TargetSpeeds → Option OpCode → List ℕ → List ℕ
success_followed t (Some x) p = followed_by t x.act (number 1 p)
success_followed t None p = []

abbrev pub success_status : Option OpCode → List ℕ → List ℕ
success_status (Some x) p = status_octets x.status p
success_status None p = []

abbrev pub success : Machine → ℕ → Option OpCode → List ℕ → Machine
success m c (Some x) p = done m c x.act p
success m c None p = m

-- "02 to 05 change nothing else": the response and the status octets of a client's write of an op code and its parameter, and the machine after it
module _ (m : Machine) (c o : ℕ) (p : List ℕ) where
  abbrev pub response_after : List ℕ
  response_after = response_octets o (result m c o p) ++ cond (succeeds (result m c o p)) (success_followed m.setup.speeds (op_code o) p) []

  abbrev pub status_after : List ℕ
  status_after = cond (succeeds (result m c o p)) (success_status (op_code o) p) []

  abbrev pub machine_after : Machine
  machine_after = cond (succeeds (result m c o p)) (success m c (op_code o) p) m

  abbrev pub performs : Performed
  performs = record { response = boxed response_after; status = boxed status_after; machine = machine_after }

-- where a parameter of n octets ends among the settings, if an act stores it; the sixteen settings follow one another in 49 octets
abbrev pub end_of : Act → ℕ → ℕ
end_of TakesControl n = 0
end_of Resets n = 0
end_of Starts n = 0
end_of Halts n = 0
end_of (Stores at) n = at + n
end_of SpinsDown n = 0

abbrev pub Room : Act → ℕ → Type 0
Room a n = end_of a n ≤ 49

-- the octets of a setting, from its index on; none for an op code that stores nothing
abbrev pub part : List ℕ → ℕ → Act → List ℕ
part s n TakesControl = []
part s n Resets = []
part s n Starts = []
part s n Halts = []
part s n (Stores at) = take n (drop at s)
part s n SpinsDown = []

abbrev pub setting_of : List ℕ → Option OpCode → List ℕ
setting_of s (Some x) = part s (size x.parameter) x.act
setting_of s None = []

unfoldable pub setting : Machine → ℕ → List ℕ
setting m o = setting_of m.settings (op_code o)
