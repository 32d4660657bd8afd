-- The calls: "Calls: connect, disconnect, indications on and off, write, confirm." W-201: "A new call feeds the flywheel speed u16".
use Rattle.std.specs.Prelude.{ℕ, Bool, true, false, cond, not, List, [], eqb, ltb, length, get_or, set, drop, Some, None}
use Rattle.record.specs.declared.feature.Feature.{Feature}
use Rattle.record.specs.Answer.{Answer, refused, given, provided}
use Rattle.record.specs.Feature.{feature_of}
use Rattle.service.specs.declared.control.Console.{Console}
use Rattle.service.specs.declared.control.ranges.Ranges.{Ranges}
use Rattle.service.specs.declared.control.machine.Setup.{Setup}
use Rattle.service.specs.declared.control.spin_down.TargetSpeeds.{TargetSpeeds}
use Rattle.service.specs.Control.Machine.{usable, is, someone, without, freed, spinning}
use Rattle.service.specs.Control.SpinDown.{said_at, run_at}
use Rattle.service.specs.Control.Effects.{response_after, status_after, machine_after}
use Rattle.service.specs.Control.Console.{absent, is_connected, is_indicating, with_client, with_machine, awaiting, first, closed}
use Rattle.service.specs.Control.Replies.{Sent, refuses, accepts, responds}

-- "A machine is opened with a Feature value and its ranges.": the value is given as octets. W-201: target speeds "fixed when the machine is opened"
pub record Opening : Type 0 where
  pub feature : List ℕ
  pub ranges : Ranges
  pub speeds : TargetSpeeds

abbrev pub opening : List ℕ → Ranges → TargetSpeeds → Opening
opening s r t = record { feature = s; ranges = r; speeds = t }

-- "opening a machine 22, 16"
abbrev pub open_with : Answer Feature → Ranges → TargetSpeeds → Answer Console
open_with (refused n) r t = refused n
open_with (given f) r t = let s : Setup = record { feature = f; ranges = r; speeds = t } in provided (usable s) 16 (given (first s))

unfoldable pub opened : Opening → Answer Console
opened o = open_with (feature_of o.feature) o.ranges o.speeds

abbrev pub open_reply : Answer Console → Answer Sent × Console
open_reply (refused n) = refuses closed n
open_reply (given k) = accepts k

abbrev pub opens : Opening → Answer Sent × Console
opens o = open_reply (opened o)

-- "connect, disconnect and indications 10, 17"; "17: client not connected; for connect, already connected": the answer to a connected client
abbrev pub of_connected : Console → ℕ → Answer Sent × Console → Answer Sent × Console
of_connected k c x = cond (ltb 3 c) (refuses k 10) (cond (not (is_connected k c)) (refuses k 17) x)

-- "Indications are off at connect"
unfoldable pub connects : Console → ℕ → Answer Sent × Console
connects k c =
    cond (ltb 3 c) (refuses k 10)
    (cond (is_connected k c) (refuses k 17)
    (accepts (with_client k c (record { connected = true; indicating = false }))))

-- "Disconnect frees control held by that client, its indications and its awaited response."
unfoldable pub disconnects : Console → ℕ → Answer Sent × Console
disconnects k c =
    of_connected k c (accepts (record { machine = freed k.machine c; clients = set k.clients c absent; awaited = without k.awaited c }))

-- "turning them off leaves an awaited response due"
unfoldable pub indicates : Console → ℕ → Bool → Answer Sent × Console
indicates k c on = of_connected k c (accepts (with_client k c (record { connected = true; indicating = on })))

-- "confirm 10, 17, 21"; "21: confirm by a client to whom no response is due"
unfoldable pub confirms : Console → ℕ → Answer Sent × Console
confirms k c = of_connected k c (cond (not (is k.awaited c)) (refuses k 21) (accepts (awaiting k None)))

-- "Response: 80, op code, result. Each then awaits confirmation; 02 to 05 change nothing else." W-201: "A successful start answers 80 13 01 followed
-- by a low and a high target speed"
abbrev pub answers : Console → ℕ → ℕ → List ℕ → Answer Sent × Console
answers k c o p =
    responds (response_after k.machine c o p) (status_after k.machine c o p)
    (record { machine = machine_after k.machine c o p; clients = k.clients; awaited = Some c })

-- "A write is judged in this order: 10, 17, 18, 19, 20", then by its result. "20: a response awaits confirmation", any client's
unfoldable pub writes : Console → ℕ → List ℕ → Answer Sent × Console
writes k c s =
    of_connected k c
    (cond (eqb (length s) 0) (refuses k 18)
    (cond (not (is_indicating k c)) (refuses k 19)
    (cond (someone k.awaited) (refuses k 20)
    (answers k c (get_or s 0 0) (drop 1 s)))))

-- "A new call feeds the flywheel speed u16": it has no client and is never refused
unfoldable pub feeds : Console → ℕ → Answer Sent × Console
feeds k v =
    let t : TargetSpeeds = k.machine.setup.speeds in
    responds [] (said_at t k.machine.run v) (with_machine k (spinning k.machine (run_at t k.machine.run v)))
