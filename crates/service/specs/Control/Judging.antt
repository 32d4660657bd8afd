-- "unsupported op code, result 02; not the holder (but for 00), 05; wrong length, value outside its range or 08 with neither 1 nor 2, result 03;
-- then 04 when 00 finds another holder, 07 finds running, 08 with 1 finds stopped, or 08 with 2 finds anything but running; else 01." W-201: "result 03
-- for neither 1 nor 2, 04 for a start during a run". W-206: "result 03 also for a target off the steps".
use Rattle.std.specs.Prelude.{ℕ, Bool, true, false, cond, not, ◌&&◌, List, eqb, length, Option, Some, None}
use Rattle.record.specs.declared.feature.Feature.{Feature}
use Rattle.record.specs.Feature.{has_named}
use Rattle.record.specs.Octets.{number}
use Rattle.service.specs.declared.control.ranges.Ranges.{Ranges}
use Rattle.service.specs.declared.control.machine.Machine.{Machine}
use Rattle.service.specs.declared.control.machine.Mode.{Mode}
use Rattle.service.specs.declared.control.machine.Mode.TheVariants.{Stopped, Running, Paused}
use Rattle.service.specs.declared.control.op_codes.OpCode.{OpCode}
use Rattle.service.specs.declared.control.op_codes.Act.{Act}
use Rattle.service.specs.declared.control.op_codes.Act.TheVariants.{TakesControl, Resets, Starts, Halts, Stores, SpinsDown}
use Rattle.service.specs.declared.control.judging.WriteResult.{WriteResult}
use Rattle.service.specs.declared.control.judging.WriteResult.TheVariants.{Success, NotSupported, InvalidParameter, OperationFailed, ControlNotPermitted}
use Rattle.service.specs.Control.Ranges.{allowed}
use Rattle.service.specs.Control.OpCodes.{op_code}
use Rattle.service.specs.Control.Parameters.{size}
use Rattle.service.specs.declared.control.spin_down.Run.{Run}
use Rattle.service.specs.Control.SpinDown.{on}
use Rattle.service.specs.Control.Machine.{is, someone, without}

-- document 01's number of each result
abbrev pub result_number : WriteResult → ℕ
result_number Success = 0x01
result_number NotSupported = 0x02
result_number InvalidParameter = 0x03
result_number OperationFailed = 0x04
result_number ControlNotPermitted = 0x05

abbrev pub succeeds : WriteResult → Bool
succeeds Success = true
succeeds NotSupported = false
succeeds InvalidParameter = false
succeeds OperationFailed = false
succeeds ControlNotPermitted = false

-- "00, 01, 07, 08 are always supported; 02 to 06 need target bits 0 to 4, 09 to 12 need 5 to 14, 14 needs 16."; W-201: "Op code 13 becomes supported
-- with target bit 15"
abbrev pub supports : Feature → Option ℕ → Bool
supports f None = true
supports f (Some b) = has_named f.targets b

-- whether it is 00
abbrev pub takes : Act → Bool
takes TakesControl = true
takes Resets = false
takes Starts = false
takes Halts = false
takes (Stores at) = false
takes SpinsDown = false

-- the opposite of "not the holder (but for 00)"
abbrev pub controls : Option ℕ → ℕ → Act → Bool
controls w c a = cond (takes a) true (is w c)

-- the opposite of "wrong length, value outside its range or 08 with neither 1 nor 2"; W-201, of 13: "result 03 for neither 1 nor 2"; W-206: "result 03
-- also for a target off the steps"
unfoldable pub fit : Ranges → OpCode → List ℕ → Bool
fit ranges x p = eqb (length p) (size x.parameter) && allowed ranges x.bound p

abbrev pub runs : Mode → Bool
runs Stopped = false
runs Running = true
runs Paused = false

-- "08 with 1 finds stopped, or 08 with 2 finds anything but running"
abbrev pub no_halt : Mode → ℕ → Bool
no_halt Stopped x = true
no_halt Running x = false
no_halt Paused x = not (eqb x 1)

-- W-201: "04 for a start during a run"
abbrev pub no_start : Run → ℕ → Bool
no_start r x = on r && eqb x 1

-- "04 when 00 finds another holder, 07 finds running, .."; W-201: "04 for a start during a run"
abbrev pub fails : Machine → ℕ → Act → ℕ → Bool
fails m c TakesControl x = someone (without m.holder c)
fails m c Resets x = false
fails m c Starts x = runs m.mode
fails m c Halts x = no_halt m.mode x
fails m c (Stores at) x = false
fails m c SpinsDown x = no_start m.run x

-- "A write is judged in this order": the first that applies
abbrev pub first_of : Bool → Bool → Bool → Bool → WriteResult
first_of supported controlled fitting failing =
    cond (not supported) NotSupported (cond (not controlled) ControlNotPermitted (cond (not fitting) InvalidParameter (cond failing OperationFailed Success)))

-- the result of a write of an op code of the table
unfoldable pub judged : Machine → ℕ → OpCode → List ℕ → WriteResult
judged m c x p =
    first_of (supports m.setup.feature x.need) (controls m.holder c x.act) (fit m.setup.ranges x p) (fails m c x.act (number 1 p))

-- "unsupported op code, result 02": this includes one that the table does not have
abbrev pub result_of : Machine → ℕ → Option OpCode → List ℕ → WriteResult
result_of m c (Some x) p = judged m c x p
result_of m c None p = NotSupported

-- the result of a client's write of an op code and its parameter
abbrev pub result : Machine → ℕ → ℕ → List ℕ → WriteResult
result m c o p = result_of m c (op_code o) p
