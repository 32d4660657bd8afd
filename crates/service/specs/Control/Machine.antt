-- The machine that op codes act on, and the ways in which they change it.
use Rattle.std.specs.Prelude.{ℕ, Bool, false, cond, ◌&&◌, List, eqb, replicate, Option, Some, None, is_some}
use Rattle.service.specs.declared.control.machine.Setup.{Setup}
use Rattle.service.specs.declared.control.machine.Machine.{Machine}
use Rattle.service.specs.declared.control.machine.Mode.{Mode}
use Rattle.service.specs.declared.control.machine.Mode.TheVariants.{Stopped}
use Rattle.service.specs.declared.control.spin_down.Run.{Run}
use Rattle.service.specs.declared.control.spin_down.Run.TheVariants.{Off}
use Rattle.service.specs.Control.Ranges.{are_ranges}
use Rattle.service.specs.Control.SpinDown.{in_order}

-- the opposite of "16: some range has least above greatest", of W-206's "16 also for an increment of 0", and of W-201's "16 also when the low target is
-- not below the high one"
abbrev pub usable : Setup → Bool
usable s = are_ranges s.ranges && in_order s.speeds

-- nobody, or a client by its number: whether it is a client, whether it is this one, and nobody if it is this one, otherwise as it was
abbrev pub someone : Option ℕ → Bool
someone w = is_some w

abbrev pub is : Option ℕ → ℕ → Bool
is None c = false
is (Some d) c = eqb d c

abbrev pub without : Option ℕ → ℕ → Option ℕ
without w c = cond (is w c) None w

-- "At first it is stopped, .., nobody holds control, and every setting is zero."
abbrev pub fresh : Setup → Machine
fresh s = record { setup = s; holder = None; mode = Stopped; settings = replicate 49 0; run = Off }

abbrev pub held_by : Machine → Option ℕ → Machine
held_by m w = record { setup = m.setup; holder = w; mode = m.mode; settings = m.settings; run = m.run }

abbrev pub spinning : Machine → Run → Machine
spinning m r = record { setup = m.setup; holder = m.holder; mode = m.mode; settings = m.settings; run = r }

-- "Disconnect frees control held by that client"; W-201: "Reset, disconnect of the holder or an ignore ends a run without a status of its own."
abbrev pub freed : Machine → ℕ → Machine
freed m c = spinning (held_by m (without m.holder c)) (cond (is m.holder c) Off m.run)

abbrev pub going : Machine → Mode → Machine
going m x = record { setup = m.setup; holder = m.holder; mode = x; settings = m.settings; run = m.run }

abbrev pub storing : Machine → List ℕ → Machine
storing m s = record { setup = m.setup; holder = m.holder; mode = m.mode; settings = s; run = m.run }

-- "01 zeroes every setting, stops and frees control"; W-201: "Reset .. ends a run"
abbrev pub cleared : Machine → Machine
cleared m = spinning (going (storing (held_by m None) (replicate 49 0)) Stopped) Off
