-- A run of spin down from what has happened alone: the calls, the newest first, and the answers to them.
use Rattle.std.specs.Prelude.{ℕ, ◌≡◌, Bool, true, false, cond, not, ◌&&◌, ◌||◌, List, [], ◌∷◌, ◌++◌, eqb, leb, get_or, Option, None, Some}
use Rattle.record.specs.Answer.{given}
use Rattle.record.specs.Octets.{number}
use Rattle.service.specs.declared.control.Console.{Console}
use Rattle.service.specs.declared.control.spin_down.TargetSpeeds.{TargetSpeeds}
use Rattle.service.specs.declared.control.spin_down.Run.{Run}
use Rattle.service.specs.declared.control.spin_down.Run.TheVariants.{Off, Quiet, Warned}
use Rattle.service.specs.Control.Machine.{someone}
use Rattle.service.specs.Control.Replies.{status_of}
use Rattle.service.specs.Control.Calls.{Opening}
use Rattle.demands.specs.Control.Point.{Call, connect, disconnect, confirm, indicate, write, flywheel, Point, Event, run}
use Rattle.demands.specs.Control.Laws.{by, parameter, succeeded, ends, any, holder_by}

-- "parameter 1 starts, 2 ignores": a start that succeeded, and an ignore that did
abbrev pub started : Event → Bool
started e = succeeded 0x13 e && eqb (number 1 (parameter e.call)) 1

abbrev pub ignored : Event → Bool
ignored e = succeeded 0x13 e && eqb (number 1 (parameter e.call)) 2

-- the holder's successful reset, or its disconnect
abbrev pub lost : Option ℕ → Event → Bool
lost None e = false
lost (Some c) e = ends c e

-- "Reset, disconnect of the holder or an ignore ends a run without a status of its own.": by an event, while this client holds control
abbrev pub ended : Option ℕ → Event → Bool
ended w e = ignored e || lost w e

-- the last run that was started: whether it is on, who started it, and the speeds that were fed in it, the first one first
pub record Led : Type 0 where
  pub on : Bool
  pub starter : Option ℕ
  pub speeds : List ℕ

abbrev pub at_most : ℕ → ℕ → Bool
at_most most v = leb v most

module _ (t : TargetSpeeds) where
  -- a speed is fed in the run that is on, whatever is answered; "at or below the low speed .. the run is over"
  abbrev pub feeding : Call → Led → Led
  feeding (connect c) r = r
  feeding (disconnect c) r = r
  feeding (confirm c) r = r
  feeding (indicate c on) r = r
  feeding (write c s) r = r
  feeding (flywheel v) r = cond r.on (record { on = not (at_most t.low v); starter = r.starter; speeds = r.speeds ++ v ∷ [] }) r

  -- the last run after one more event, while this client holds control
  abbrev pub next_led : Option ℕ → Event → Led → Led
  next_led w e before =
      cond (started e) (record { on = true; starter = by e.call; speeds = [] })
      (cond (ended w e) (record { on = false; starter = before.starter; speeds = before.speeds }) (feeding e.call before))

  unfoldable pub led_by : List Event → Led
  led_by [] = record { on = false; starter = None; speeds = [] }
  led_by (e ∷ past) = next_led (holder_by past []) e (led_by past)

  -- the run that is on has said 4 if it was fed a speed at or below high
  abbrev pub run_of : Led → Run
  run_of r = cond r.on (cond (any (at_most t.high) r.speeds) Warned Quiet) Off

  -- "at the first speed at or below it the console says 4, at or below the low speed, even at once, it says success only": what is said at one more speed
  abbrev pub said_by : Led → ℕ → List ℕ
  said_by r v =
      cond r.on
      (cond (at_most t.low v) (0x14 ∷ 2 ∷ []) (cond (at_most t.high v && not (any (at_most t.high) r.speeds)) (0x14 ∷ 4 ∷ []) []))
      []

  -- what a run says over its speeds, the first one first: 2 exactly if one is at or below low; 4 exactly if the first at or below high is above low
  abbrev pub first_above : List ℕ → Bool
  first_above [] = false
  first_above (v ∷ vs) = cond (at_most t.high v) (not (at_most t.low v)) (first_above vs)

  abbrev pub words : List ℕ → List ℕ
  words vs = cond (first_above vs) (0x14 ∷ 4 ∷ []) [] ++ cond (any (at_most t.low) vs) (0x14 ∷ 2 ∷ []) []

-- "The status is 14 with 2 success or 4 stop pedalling": what an event says of spin down, all status octets at a speed, which no client feeds, and of
-- a client's call those that begin with 14
abbrev pub said_in : Event → List ℕ
said_in e = let s : List ℕ = status_of e.answer in cond (someone (by e.call) && not (eqb (get_or s 0 0) 0x14)) [] s

-- what has been said from the last start that succeeded on, at the start itself, in its run and after it, the first octets first
unfoldable pub spoken : List Event → List ℕ
spoken [] = []
spoken (e ∷ past) = let before : List ℕ = spoken past in cond (started e) [] before ++ said_in e

-- nothing, 4, 2, or 4 then 2, each after 14
pub data OneOfFour : List ℕ → Type 0 where
  nothing : OneOfFour []
  four : OneOfFour (0x14 ∷ 4 ∷ [])
  two : OneOfFour (0x14 ∷ 2 ∷ [])
  four_then_two : OneOfFour (0x14 ∷ 4 ∷ 0x14 ∷ 2 ∷ [])

-- ---- the laws

-- after every sequence of calls from opening on, the run is what the history says, and whoever started it holds control still
pub record RunByHistory (p : Point Console) : Type 0 where
  pub run_so : (o : Opening) (k : Console) → p.opening o ≡ given k → (qs : List Call) →
      (run p k [] qs).1.machine.run ≡ run_of o.speeds (led_by o.speeds (run p k [] qs).0)
  pub starter_holds : (o : Opening) (k : Console) → p.opening o ≡ given k → (qs : List Call) →
      (led_by o.speeds (run p k [] qs).0).on ≡ true → (run p k [] qs).1.machine.holder ≡ (led_by o.speeds (run p k [] qs).0).starter

-- and what has been said since the last start is what its run says over the speeds fed in it: nothing, 4, 2, or 4 then 2. This is of any control point
abbrev pub SaysByRun : {S : Type 0} → Point S → Type 0
SaysByRun {S} p = (o : Opening) (x : S) → p.opening o ≡ given x → (qs : List Call) →
    spoken (run p x [] qs).0 ≡ words o.speeds (led_by o.speeds (run p x [] qs).0).speeds
