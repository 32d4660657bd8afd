-- What holds for a console after any sequence of calls from its opening on: the statements that proofs/ proves for the service.
use Rattle.std.specs.Prelude.{ℕ, ◌≤◌, ◌≡◌, ◌⊎◌, Bool, true, false, cond, ◌&&◌, ◌||◌, List, [], ◌∷◌, eqb, length, get_or, drop, replicate, Option, None, Some}
use Rattle.record.specs.Answer.{Answer}
use Rattle.service.specs.declared.control.Client.{Client as Link}
use Rattle.service.specs.declared.control.Console.{Console}
use Rattle.service.specs.declared.control.ranges.Ranges.{Ranges}
use Rattle.service.specs.declared.control.machine.Machine.{Machine}
use Rattle.service.specs.declared.control.op_codes.OpCode.{OpCode}
use Rattle.service.specs.declared.control.op_codes.Act.{Act}
use Rattle.service.specs.declared.control.op_codes.Act.TheVariants.{TakesControl, Resets, Starts, Halts, Stores, SpinsDown}
use Rattle.service.specs.declared.control.judging.WriteResult.TheVariants.{Success}
use Rattle.service.specs.Control.Ranges.{allowed}
use Rattle.service.specs.Control.OpCodes.{op_code}
use Rattle.service.specs.Control.Parameters.{size}
use Rattle.service.specs.Control.SpinDown.{on}
use Rattle.service.specs.Control.Machine.{is, someone}
use Rattle.service.specs.Control.Judging.{result_number}
use Rattle.service.specs.Control.Effects.{setting}
use Rattle.service.specs.Control.Console.{absent, is_connected, is_indicating}
use Rattle.service.specs.Control.Replies.{Sent, refusal_of, response_of, status_of}
use Rattle.demands.specs.Control.Point.{Call, connect, disconnect, confirm, indicate, write, flywheel, Event}

-- ---- invariants

-- nobody, or a connected client
abbrev pub Present : List Link → Option ℕ → Type 0
Present clients None = Unit {0}
Present clients (Some c) = (get_or clients c absent).connected ≡ true

-- "Clients are 0 to 3." "Disconnect frees control held by that client, its indications and its awaited response.": only a connected client has
-- indications on, is awaited or holds control. "Over all clients one response at most awaits confirmation.": `awaited` is one value.
pub record Links (k : Console) : Type 0 where
  pub four : length k.clients ≡ 4
  pub indicating_connected : (c : ℕ) → is_indicating k c ≡ true → is_connected k c ≡ true
  pub awaited_connected : Present k.clients k.awaited
  pub holder_connected : Present k.clients k.machine.holder

-- whether success stores the parameter: "02 to 06, 09 to 12 and 14 store the parameter octets."
abbrev pub keeps : Act → Bool
keeps TakesControl = false
keeps Resets = false
keeps Starts = false
keeps Halts = false
keeps (Stores at) = true
keeps SpinsDown = false

abbrev pub stores : Option OpCode → Bool
stores (Some x) = keeps x.act
stores None = false

-- "every setting is zero": as many zero octets as the parameter has
abbrev pub zero_setting : Option OpCode → List ℕ
zero_setting (Some x) = cond (keeps x.act) (replicate (size x.parameter) 0) []
zero_setting None = []

-- a setting is zero; or it has its right length and lies in its range, if it has one: "wrong length, value outside its range .., result 03"
pub data Right (ranges : Ranges) : Option OpCode → List ℕ → Type 0 where
  at_zero : {l : Option OpCode} {p : List ℕ} → p ≡ zero_setting l → Right ranges l p
  set_to : {x : OpCode} {p : List ℕ} → length p ≡ size x.parameter → allowed ranges x.bound p ≡ true → Right ranges (Some x) p

-- what holds for every console that calls have led to: its clients, the length of its settings, each setting, and that a run is there only while a
-- client holds control, who is connected by the first. W-201: "Reset, disconnect of the holder or an ignore ends a run"
pub record Sound (k : Console) : Type 0 where
  pub links : Links k
  pub room : length k.machine.settings ≡ 49
  pub right : (o : ℕ) → Right k.machine.setup.ranges (op_code o) (setting k.machine o)
  pub run_held : on k.machine.run ≡ true → someone k.machine.holder ≡ true

-- ---- who calls, and what was granted

-- who makes a call: "Calls: connect, disconnect, indications on and off, write, confirm."; no client feeds a speed
abbrev pub by : Call → Option ℕ
by (connect c) = Some c
by (disconnect c) = Some c
by (confirm c) = Some c
by (indicate c on) = Some c
by (write c s) = Some c
by (flywheel v) = None

-- the octets after the op code: "store the parameter octets"
abbrev pub parameter : Call → List ℕ
parameter (connect c) = []
parameter (disconnect c) = []
parameter (confirm c) = []
parameter (indicate c on) = []
parameter (write c s) = drop 1 s
parameter (flywheel v) = []

-- "Response: 80, op code, result."
abbrev pub op_in : Answer Sent → ℕ
op_in a = get_or (response_of a) 1 0

abbrev pub result_in : Answer Sent → ℕ
result_in a = get_or (response_of a) 2 0

-- the response says that an op code succeeded: "else 01"
abbrev pub succeeded : ℕ → Event → Bool
succeeded o e = eqb (result_in e.answer) (result_number Success) && eqb (op_in e.answer) o

-- "Disconnect frees control held by that client"
abbrev pub is_disconnect : Call → Bool
is_disconnect (connect c) = false
is_disconnect (disconnect c) = true
is_disconnect (confirm c) = false
is_disconnect (indicate c on) = false
is_disconnect (write c s) = false
is_disconnect (flywheel v) = false

-- a client's successful reset, or its disconnect: "01 zeroes every setting, stops and frees control"
abbrev pub ends : ℕ → Event → Bool
ends c e = (succeeded 0x01 e || (is_disconnect e.call && eqb (refusal_of e.answer) 0)) && is (by e.call) c

abbrev pub any : {A : Type 0} → (A → Bool) → List A → Bool
any f [] = false
any f (x ∷ xs) = f x || any f xs

-- who holds control that was given to this client, from what came after it
abbrev pub unless_ended : List Event → Option ℕ → Option ℕ
unless_ended since None = None
unless_ended since (Some c) = cond (any (ends c) since) None (Some c)

-- "00 gives control": the holder from what has happened, newest first, and from what came after it: the last client whose 00 succeeded, if it
-- has had no successful reset and no disconnect since, otherwise nobody
unfoldable pub holder_by : List Event → List Event → Option ℕ
holder_by [] since = None
holder_by (e ∷ past) since = let before : Option ℕ = holder_by past (e ∷ since) in cond (succeeded 0x00 e) (unless_ended since (by e.call)) before

-- "01 zeroes every setting", "02 to 06, 09 to 12 and 14 store the parameter octets": a setting from what has happened, newest first: the
-- parameter of the last write of its op code that succeeded, if no reset has succeeded since, otherwise zero
unfoldable pub setting_by : ℕ → List Event → List ℕ
setting_by o [] = zero_setting (op_code o)
setting_by o (e ∷ past) =
    let before : List ℕ = setting_by o past in
    cond (succeeded 0x01 e) (zero_setting (op_code o)) (cond (succeeded o e) (parameter e.call) before)

-- ---- what a call may change, and who may write

-- a client whose next write of one octet or more is answered, whatever it writes: "A write is judged in this order: 10, 17, 18, 19, 20"
pub record Heard (k : Console) (c : ℕ) : Type 0 where
  pub small : c ≤ 3
  pub joined : is_connected k c ≡ true
  pub shown : is_indicating k c ≡ true
  pub clear : someone k.awaited ≡ false

-- "10 to 22 leave the state unchanged."
pub record Unchanged (k : Console) (x : Answer Sent × Console) : Type 0 where
  pub at_least : 10 ≤ refusal_of x.0
  pub at_most : refusal_of x.0 ≤ 22
  pub no_response : response_of x.0 ≡ []
  pub no_status : status_of x.0 ≡ []
  pub same : x.1 ≡ k

-- the call was not made by the client that holds control, if any does
abbrev pub ByAnother : Console → Call → Type 0
ByAnother k q = (c : ℕ) → k.machine.holder ≡ Some c → by q ≡ Some c → ⊥

-- a machine before and after a call that the holder did not make: settings, mode and what was fixed at opening stay, and so does the run, unless a speed
-- is fed, which no client does. The holder stays, except that a 00 that succeeds gives control to its client if nobody had it: "not the holder (but for
-- 00), 05". (A disconnect of such a client changes who is connected, its indications and its awaited response, and nothing else.)
pub record Spared (m : Machine) (w : Option ℕ) (n : Machine) : Type 0 where
  pub same_settings : n.settings ≡ m.settings
  pub same_mode : n.mode ≡ m.mode
  pub same_setup : n.setup ≡ m.setup
  pub same_run : (n.run ≡ m.run) ⊎ (w ≡ None)
  pub holder_or_new : (n.holder ≡ m.holder) ⊎ ((m.holder ≡ None) × (n.holder ≡ w))
