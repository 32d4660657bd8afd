-- A console's state from what has happened alone: the calls, the newest first, and the answers to them.
use Rattle.std.specs.Prelude.{ℕ, ◌≡◌, Bool, true, false, cond, ◌&&◌, List, [], ◌∷◌, eqb, leb, Option, None}
use Rattle.record.specs.Answer.{given}
use Rattle.record.specs.Octets.{number}
use Rattle.service.specs.declared.control.Console.{Console}
use Rattle.service.specs.declared.control.machine.Mode.{Mode}
use Rattle.service.specs.declared.control.machine.Mode.TheVariants.{Stopped, Running, Paused}
use Rattle.service.specs.Control.OpCodes.{op_code}
use Rattle.service.specs.Control.Machine.{is}
use Rattle.service.specs.Control.Effects.{setting}
use Rattle.service.specs.Control.Console.{is_connected, is_indicating}
use Rattle.service.specs.Control.Replies.{refusal_of}
use Rattle.service.specs.Control.Calls.{Opening}
use Rattle.demands.specs.Control.Point.{Call, connect, disconnect, confirm, indicate, write, flywheel, Point, Event, run}
use Rattle.demands.specs.Control.Laws.{stores, by, parameter, result_in, succeeded, holder_by, setting_by}

-- a call that was not refused, and such a call by this client
abbrev pub accepted : Event → Bool
accepted e = eqb (refusal_of e.answer) 0

abbrev pub did : ℕ → Event → Bool
did c e = accepted e && is (by e.call) c

-- ---- the mode

-- "08 stopped (1) or paused (2)"
abbrev pub halted : ℕ → Mode → Mode
halted x before = cond (eqb x 1) Stopped (cond (eqb x 2) Paused before)

-- "The machine is stopped, running or paused. At first it is stopped"; "01 .. stops", "07 sets running, 08 stopped (1) or paused (2)": the last of
-- these that succeeded
unfoldable pub mode_by : List Event → Mode
mode_by [] = Stopped
mode_by (e ∷ past) =
    let before : Mode = mode_by past in
    cond (succeeded 0x01 e) Stopped
    (cond (succeeded 0x07 e) Running
    (cond (succeeded 0x08 e) (halted (number 1 (parameter e.call)) before) before))

-- ---- whose response awaits confirmation

-- "Response: 80, op code, result. Each then awaits confirmation": results 01 to 05
abbrev pub responded : Event → Bool
responded e = leb 0x01 (result_in e.answer) && leb (result_in e.answer) 0x05

abbrev pub no_longer : ℕ → Option ℕ → Option ℕ
no_longer c w = cond (is w c) None w

-- whose response is awaited after a call that was not refused: that client's confirm or disconnect ends it, "Disconnect frees .. its awaited
-- response"; for indications, "turning them off leaves an awaited response due"
abbrev pub still_due : Call → Option ℕ → Option ℕ
still_due (connect c) w = w
still_due (disconnect c) w = no_longer c w
still_due (confirm c) w = no_longer c w
still_due (indicate c on) w = w
still_due (write c s) w = w
still_due (flywheel v) w = w

unfoldable pub awaited_by : List Event → Option ℕ
awaited_by [] = None
awaited_by (e ∷ past) =
    let before : Option ℕ = awaited_by past in
    cond (responded e) (by e.call) (cond (accepted e) (still_due e.call before) before)

-- ---- who is connected, and whose indications are on

-- whether a client is connected after a call of its own that was not refused
abbrev pub joined : Call → Bool → Bool
joined (connect c) before = true
joined (disconnect c) before = false
joined (confirm c) before = before
joined (indicate c on) before = before
joined (write c s) before = before
joined (flywheel v) before = before

-- "Indications are off at connect"; "Disconnect frees .. its indications"; "indications on and off"
abbrev pub shown : Call → Bool → Bool
shown (connect c) before = false
shown (disconnect c) before = false
shown (confirm c) before = before
shown (indicate c on) before = on
shown (write c s) before = before
shown (flywheel v) before = before

-- "At first .. no client is connected"
unfoldable pub connected_by : ℕ → List Event → Bool
connected_by c [] = false
connected_by c (e ∷ past) = let before : Bool = connected_by c past in cond (did c e) (joined e.call before) before

unfoldable pub indicating_by : ℕ → List Event → Bool
indicating_by c [] = false
indicating_by c (e ∷ past) = let before : Bool = indicating_by c past in cond (did c e) (shown e.call before) before

-- ---- the laws, of any control point that keeps a console

-- after every sequence of calls from opening on, what is read from the console is what the history says
abbrev pub ByHistory : Point Console → {A : Type 0} → (Console → A) → (List Event → A) → Type 0
ByHistory p read says = (o : Opening) (k : Console) → p.opening o ≡ given k → (qs : List Call) → read (run p k [] qs).1 ≡ says (run p k [] qs).0

module _ (p : Point Console) where
  abbrev pub ModeByHistory : Type 0
  ModeByHistory = ByHistory p (λ k. k.machine.mode) mode_by

  abbrev pub AwaitedByHistory : Type 0
  AwaitedByHistory = ByHistory p (λ k. k.awaited) awaited_by

  abbrev pub ConnectedByHistory : Type 0
  ConnectedByHistory = (c : ℕ) → ByHistory p (λ k. is_connected k c) (connected_by c)

  abbrev pub IndicatingByHistory : Type 0
  IndicatingByHistory = (c : ℕ) → ByHistory p (λ k. is_indicating k c) (indicating_by c)

  -- "00 gives control; 01 .. frees control"; "Disconnect frees control held by that client"
  abbrev pub HolderByHistory : Type 0
  HolderByHistory = ByHistory p (λ k. k.machine.holder) (λ past. holder_by past [])

  -- "01 zeroes every setting"; "02 to 06, 09 to 12 and 14 store the parameter octets"
  abbrev pub SettingByHistory : Type 0
  SettingByHistory = (o : ℕ) → stores (op_code o) ≡ true → ByHistory p (λ k. setting k.machine o) (setting_by o)
