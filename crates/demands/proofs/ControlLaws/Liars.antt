-- Control points that are wrong in one respect, in the console that they keep or in an answer: each breaks the law about that.
use Rattle.std.specs.Prelude.{None}
use Prim.Native.Nat.{ℕ}
use mathlib.Core.Path.{◌≡◌, refl, sym, ap}
use mathlib.Core.Bool.{Bool, true, false, cond, not, true≢false}
use mathlib.Core.List.{List, [], ◌∷◌, ◌++◌}
use native.Mathlib.Omega.{arith}
use lib.Dec.{eqb, lit≤}
use lib.ListN.{get_or}
use Rattle.record.specs.Answer.{Answer, refused, given}
use Rattle.record.specs.Feature.{feature_of}
use Rattle.record.specs.Groups.{has}
use Rattle.record.specs.Octets.{number}
use Rattle.service.specs.declared.control.Console.{Console}
use Rattle.service.specs.declared.control.machine.Mode.{Mode}
use Rattle.service.specs.declared.control.machine.Mode.TheVariants.{Stopped, Running, Paused}
use Rattle.service.specs.Control.OpCodes.{op_code}
use Rattle.service.specs.Control.Machine.{is, someone, without, held_by, going, storing}
use Rattle.service.specs.Control.Judging.{fit, judged}
use Rattle.service.specs.Control.Effects.{setting}
use Rattle.service.specs.Control.Console.{first, closed, with_client, awaiting}
use Rattle.service.specs.Control.Replies.{Sent, sent, refusal_of}
use Rattle.service.specs.Control.Calls.{opened, connects, disconnects, indicates, confirms, writes}
use Rattle.demands.specs.Control.Point.{Call, connect, disconnect, confirm, indicate, write, flywheel, Point, step, run}
use Rattle.demands.specs.Control.Laws.{result_in, holder_by, setting_by}
use Rattle.demands.specs.Control.History.{mode_by, awaited_by, connected_by, indicating_by, ModeByHistory, AwaitedByHistory, ConnectedByHistory, IndicatingByHistory, HolderByHistory, SettingByHistory}
use Rattle.demands.specs.Control.Runs.{led_by}
use Rattle.demands.specs.Control.Answered.{refusal_by, AnswersByHistory}
use Rattle.demands.specs.Control.Cases.{speeds, ready, asks, holds}
use Rattle.demands.specs.Control.Rules.{stopped}
use Rattle.demands.specs.Control.Worked.Ends.{able}
use Rattle.demands.specs.Control.Worked.Openings.{fair}
use Rattle.demands.proofs.ControlLaws.Meets.{plain, plain_console, opens_so}

-- a machine with every target setting, opened
abbrev pub able_console : Console
able_console = first (record { feature = record { features = 0; targets = 0x1FFFF }; ranges = fair; speeds = speeds })

-- the service, except that the console after a call is altered, by the call and the console before it
abbrev pub altered : (Call → Console → Console → Console) → Point Console
altered f = record { opening = opened; calling = λ k q. ((step k q).0, f q k (step k q).1) }

-- ---- the mode

abbrev in_mode : Console → Mode → Console
in_mode k x = record { machine = going k.machine x; clients = k.clients; awaited = k.awaited }

-- pause means stop
abbrev never_paused : Mode → Mode
never_paused Stopped = Stopped
never_paused Running = Running
never_paused Paused = Stopped

abbrev pub pause_stops : Point Console
pause_stops = altered (λ q before after. in_mode after (never_paused after.machine.mode))

pub pause_stops_refuted : ModeByHistory pause_stops → ⊥
unfolding run connects indicates confirms writes op_code fit judged number mode_by
pause_stops_refuted h = true≢false (ap stopped (h plain plain_console opens_so (holds 0 ++ asks 0 (0x07 ∷ []) ++ asks 0 (0x08 ∷ 2 ∷ []))))

-- a machine that is reset goes on running
abbrev goes_on : Call → Console → Console → Console
goes_on (connect c) before after = after
goes_on (disconnect c) before after = after
goes_on (confirm c) before after = after
goes_on (flywheel v) before after = after
goes_on (indicate c on) before after = after
goes_on (write c s) before after = cond (eqb (get_or s 0 0) 0x01) (in_mode after before.machine.mode) after

abbrev pub reset_runs : Point Console
reset_runs = altered goes_on

pub reset_runs_refuted : ModeByHistory reset_runs → ⊥
unfolding run connects indicates confirms writes op_code fit judged number mode_by
reset_runs_refuted h = true≢false (sym (ap stopped (h plain plain_console opens_so (holds 0 ++ asks 0 (0x07 ∷ []) ++ asks 0 (0x01 ∷ [])))))

-- ---- whose response awaits confirmation

-- turning indications off frees the awaited response
abbrev frees : Call → Console → Console → Console
frees (connect c) before after = after
frees (disconnect c) before after = after
frees (confirm c) before after = after
frees (flywheel v) before after = after
frees (indicate c on) before after = cond on after (awaiting after (without after.awaited c))
frees (write c s) before after = after

abbrev pub off_frees : Point Console
off_frees = altered frees

pub off_frees_refuted : AwaitedByHistory off_frees → ⊥
unfolding run connects indicates confirms writes op_code fit judged number awaited_by
off_frees_refuted h = true≢false (sym (ap someone (h plain plain_console opens_so (ready 0 ++ write 0 (0x00 ∷ []) ∷ indicate 0 false ∷ []))))

-- a disconnect leaves the response due
abbrev leaves : Call → Console → Console → Console
leaves (connect c) before after = after
leaves (disconnect c) before after = awaiting after before.awaited
leaves (confirm c) before after = after
leaves (flywheel v) before after = after
leaves (indicate c on) before after = after
leaves (write c s) before after = after

abbrev pub gone_due : Point Console
gone_due = altered leaves

pub gone_due_refuted : AwaitedByHistory gone_due → ⊥
unfolding run connects disconnects indicates confirms writes op_code fit judged number awaited_by
gone_due_refuted h = true≢false (ap someone (h plain plain_console opens_so (ready 0 ++ write 0 (0x00 ∷ []) ∷ disconnect 0 ∷ [])))

-- ---- who is connected, and whose indications are on

-- a client that disconnects stays connected, with its indications as they were
abbrev stays : Call → Console → Console → Console
stays (connect c) before after = after
stays (disconnect c) before after = record { machine = after.machine; clients = before.clients; awaited = after.awaited }
stays (confirm c) before after = after
stays (flywheel v) before after = after
stays (indicate c on) before after = after
stays (write c s) before after = after

abbrev pub gone_connected : Point Console
gone_connected = altered stays

pub gone_connected_refuted : ConnectedByHistory gone_connected → ⊥
unfolding run connects disconnects connected_by
gone_connected_refuted h = true≢false (h 0 plain plain_console opens_so (connect 0 ∷ disconnect 0 ∷ []))

pub gone_indicating_refuted : IndicatingByHistory gone_connected → ⊥
unfolding run connects disconnects indicates indicating_by
gone_indicating_refuted h = true≢false (h 0 plain plain_console opens_so (ready 0 ++ disconnect 0 ∷ []))

-- indications are on at connect
abbrev shows : Call → Console → Console → Console
shows (connect c) before after = with_client after c (record { connected = true; indicating = true })
shows (disconnect c) before after = after
shows (confirm c) before after = after
shows (flywheel v) before after = after
shows (indicate c on) before after = after
shows (write c s) before after = after

abbrev pub on_at_connect : Point Console
on_at_connect = altered shows

pub on_at_connect_refuted : IndicatingByHistory on_at_connect → ⊥
unfolding run connects indicating_by
on_at_connect_refuted h = true≢false (h 0 plain plain_console opens_so (connect 0 ∷ []))

-- ---- who holds control, and the settings

-- a client that disconnects keeps control
abbrev in_control : Console → Console → Console
in_control before after = record { machine = held_by after.machine before.machine.holder; clients = after.clients; awaited = after.awaited }

abbrev keeps_control : Call → Console → Console → Console
keeps_control (connect c) before after = after
keeps_control (disconnect c) before after = in_control before after
keeps_control (confirm c) before after = after
keeps_control (flywheel v) before after = after
keeps_control (indicate c on) before after = after
keeps_control (write c s) before after = after

abbrev pub gone_holding : Point Console
gone_holding = altered keeps_control

pub gone_holding_refuted : HolderByHistory gone_holding → ⊥
unfolding run connects disconnects indicates confirms writes op_code fit judged number holder_by
gone_holding_refuted h = true≢false (ap someone (h plain plain_console opens_so (holds 0 ++ disconnect 0 ∷ [])))

-- the settings as they were before a write, for the op codes that a test picks
abbrev with_settings : Console → Console → Console
with_settings before after = record { machine = storing after.machine before.machine.settings; clients = after.clients; awaited = after.awaited }

abbrev unsaved : (ℕ → Bool) → Call → Console → Console → Console
unsaved f (connect c) before after = after
unsaved f (disconnect c) before after = after
unsaved f (confirm c) before after = after
unsaved f (flywheel v) before after = after
unsaved f (indicate c on) before after = after
unsaved f (write c s) before after = cond (f (get_or s 0 0)) (with_settings before after) after

-- a machine that stores nothing; and one whose reset keeps its settings
abbrev pub stores_nothing : Point Console
stores_nothing = altered (unsaved (λ o. not (eqb o 0x01)))

abbrev pub reset_keeps : Point Console
reset_keeps = altered (unsaved (λ o. eqb o 0x01))

pub able_opens : opened (able fair) ≡ given able_console
unfolding opened number
able_opens = refl

set_speed : List Call
set_speed = holds 0 ++ asks 0 (0x02 ∷ 0xe8 ∷ 0x03 ∷ [])

pub stores_nothing_refuted : SettingByHistory stores_nothing → ⊥
unfolding set_speed run connects indicates confirms writes op_code fit judged number has setting setting_by
stores_nothing_refuted h = let e : ◌≡◌ {A = ℕ} 0 0xe8 = ap (λ (s : List ℕ). get_or s 0 0) (h 0x02 refl (able fair) able_console able_opens set_speed) in omega arith

pub reset_keeps_refuted : SettingByHistory reset_keeps → ⊥
unfolding set_speed run connects indicates confirms writes op_code fit judged number has setting setting_by
reset_keeps_refuted h =
    let e : ◌≡◌ {A = ℕ} 0xe8 0 = ap (λ (s : List ℕ). get_or s 0 0) (h 0x02 refl (able fair) able_console able_opens (set_speed ++ asks 0 (0x01 ∷ []))) in
    omega arith

-- ---- answers

-- a control point that opens nothing
abbrev pub never : Point Console
never = record { opening = λ o. refused (refusal_by o); calling = λ k q. (refused 0, k) }

pub never_refuted : AnswersByHistory never → ⊥
never_refuted h =
    let x : (k : Console) × (◌≡◌ {A = Answer Console} (refused 0) (given k)) = h.opens plain refl in
    let e : ◌≡◌ {A = Answer Console} (refused 0) (given x.0) = x.1 in
    let z : ◌≡◌ {A = ℕ} 0 1 = cc in omega arith

-- the service, except that the answer to a call is altered, by the console before it
abbrev pub retold : (Call → Console → Answer Sent → Answer Sent) → Point Console
retold f = record { opening = opened; calling = λ k q. (f q k (step k q).0, (step k q).1) }

-- alters the answers to writes only
abbrev pub of_write : (ℕ → List ℕ → Console → Answer Sent → Answer Sent) → Call → Console → Answer Sent → Answer Sent
of_write f (connect c) before a = a
of_write f (disconnect c) before a = a
of_write f (confirm c) before a = a
of_write f (flywheel v) before a = a
of_write f (indicate c on) before a = a
of_write f (write c s) before a = f c s before a

-- 08 with 2 succeeds on a machine that is paused
abbrev again : Mode → List ℕ → Answer Sent → Answer Sent
again Stopped s a = a
again Running s a = a
again Paused s a = cond (eqb (number 2 s) 0x0208) (sent (0x80 ∷ 0x08 ∷ 0x01 ∷ []) (0x02 ∷ 2 ∷ [])) a

abbrev pub pauses_again : Point Console
pauses_again = retold (of_write (λ c s before a. again before.machine.mode s a))

no_targets : feature_of plain.feature ≡ given closed.machine.setup.feature
unfolding number
no_targets = refl

pub pauses_again_refuted : AnswersByHistory pauses_again → ⊥
unfolding run connects indicates confirms writes op_code fit judged number has holder_by mode_by awaited_by connected_by indicating_by led_by
pauses_again_refuted h =
    let e : ◌≡◌ {A = ℕ} 0x01 0x04 =
    ap result_in
    (h.answers plain closed.machine.setup.feature no_targets plain_console opens_so (holds 0 ++ asks 0 (0x07 ∷ []) ++ asks 0 (0x08 ∷ 2 ∷ []))
    (write 0 (0x08 ∷ 2 ∷ [])) (lit≤ tt)) in
    omega arith

-- only the writer's own response keeps it from writing
abbrev pub busy_alone : Point Console
busy_alone = retold (of_write (λ c s before a. cond (is before.awaited c) a (writes (awaiting before None) c s).0))

pub busy_alone_refuted : AnswersByHistory busy_alone → ⊥
unfolding run connects indicates confirms writes op_code fit judged number has holder_by mode_by awaited_by connected_by indicating_by led_by
busy_alone_refuted h =
    let e : ◌≡◌ {A = ℕ} 0 20 =
    ap refusal_of
    (h.answers plain closed.machine.setup.feature no_targets plain_console opens_so (ready 0 ++ ready 1 ++ write 0 (0x00 ∷ []) ∷ [])
    (write 1 (0x00 ∷ [])) (lit≤ tt)) in
    omega arith
