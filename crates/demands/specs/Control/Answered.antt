-- Every answer from the history alone: the control point a second time, by what has happened and the rules of the op codes, without a console.
use Rattle.std.specs.Prelude.{ℕ, suc, ◌≤◌, ◌≡◌, Bool, cond, not, ◌||◌, List, [], ◌∷◌, eqb, ltb, length, get_or, drop}
use Rattle.std.specs.Int.Signed.{lt_z}
use Rattle.record.specs.declared.feature.Feature.{Feature}
use Rattle.record.specs.Answer.{Answer, refused, given}
use Rattle.record.specs.Feature.{feature_of}
use Rattle.service.specs.declared.control.ranges.Ranges.{Ranges}
use Rattle.service.specs.declared.control.machine.Setup.{Setup}
use Rattle.service.specs.Control.Machine.{is, someone}
use Rattle.service.specs.Control.Replies.{Sent, sent}
use Rattle.service.specs.Control.Calls.{Opening}
use Rattle.demands.specs.Control.Point.{Call, connect, disconnect, confirm, indicate, write, flywheel, Point, Event, run}
use Rattle.demands.specs.Control.Laws.{holder_by}
use Rattle.demands.specs.Control.History.{mode_by, awaited_by, connected_by, indicating_by}
use Rattle.demands.specs.Control.Rules.{status, followed, result}
use Rattle.demands.specs.Control.Runs.{led_by, said_by}

-- what a machine was opened with, and what has happened since, the newest first
module _ (s : Setup) (past : List Event) where
  -- "connect, disconnect and indications 10, 17"; "10: client above 3", "17: client not connected; for connect, already connected"
  abbrev pub present : ℕ → Answer Sent → Answer Sent
  present c x = cond (ltb 3 c) (refused 10) (cond (not (connected_by c past)) (refused 17) x)

  -- "Response: 80, op code, result."; what follows it and status octets if the result is 01
  abbrev pub response_by : ℕ → ℕ → List ℕ → Answer Sent
  response_by c o p =
      let n : ℕ = result s (holder_by past []) (mode_by past) (led_by s.speeds past).on c o p in
      sent (0x80 ∷ o ∷ n ∷ cond (eqb n 0x01) (followed s.speeds o p) []) (cond (eqb n 0x01) (status o p) [])

  -- "confirm 10, 17, 21"; "A new call feeds the flywheel speed"; "A write is judged in this order: 10, 17, 18, 19, 20", then by its result
  abbrev pub answer_by : Call → Answer Sent
  answer_by (connect c) = cond (ltb 3 c) (refused 10) (cond (connected_by c past) (refused 17) (sent [] []))
  answer_by (disconnect c) = present c (sent [] [])
  answer_by (confirm c) = present c (cond (not (is (awaited_by past) c)) (refused 21) (sent [] []))
  answer_by (indicate c on) = present c (sent [] [])
  answer_by (write c w) =
      present c
      (cond (eqb (length w) 0) (refused 18)
      (cond (not (indicating_by c past)) (refused 19)
      (cond (someone (awaited_by past)) (refused 20)
      (response_by c (get_or w 0 0) (drop 1 w)))))
  answer_by (flywheel v) = sent [] (said_by s.speeds (led_by s.speeds past) v)

-- an op code is an octet
abbrev pub OctetIn : Call → Type 0
OctetIn (connect c) = Unit {0}
OctetIn (disconnect c) = Unit {0}
OctetIn (confirm c) = Unit {0}
OctetIn (indicate c on) = Unit {0}
OctetIn (write c w) = get_or w 0 0 ≤ 255
OctetIn (flywheel v) = Unit {0}

abbrev pub OctetsIn : List Call → Type 0
OctetsIn [] = Unit {0}
OctetsIn (q ∷ qs) = OctetIn q × OctetsIn qs

-- "16: some range has least above greatest"
abbrev pub reversed : Ranges → Bool
reversed r =
    ltb r.speed.greatest r.speed.least ||
    (lt_z r.inclination.greatest r.inclination.least ||
    (lt_z r.resistance.greatest r.resistance.least ||
    (lt_z r.power.greatest r.power.least || ltb r.heart_rate.greatest r.heart_rate.least)))

-- "16 also for an increment of 0"
abbrev pub no_step : Ranges → Bool
no_step r =
    eqb r.speed.increment 0 ||
    (eqb r.inclination.increment 0 ||
    (eqb r.resistance.increment 0 || (eqb r.power.increment 0 || eqb r.heart_rate.increment 0)))

-- "opening a machine 22, 16"; "22: Feature value not 8 octets"; "16 also when the low target is not below the high one": the refusal number of an opening,
-- 0 if it is not refused
abbrev pub refusal_by : Opening → ℕ
refusal_by o =
    cond (not (eqb (length o.feature) 8)) 22 (cond ((reversed o.ranges || no_step o.ranges) || not (ltb o.speeds.low o.speeds.high)) 16 0)

-- a control point that refuses these openings and no others, and whose next answer, after every sequence of calls, is that of `answer_by`
pub record AnswersByHistory {S : Type 0} (p : Point S) : Type 0 where
  pub refuses : (o : Opening) (n : ℕ) → refusal_by o ≡ suc n → p.opening o ≡ refused (suc n)
  pub opens : (o : Opening) → refusal_by o ≡ 0 → (x : S) × (p.opening o ≡ given x)
  pub answers : (o : Opening) (f : Feature) → feature_of o.feature ≡ given f → (x : S) → p.opening o ≡ given x →
      (qs : List Call) (q : Call) → OctetIn q →
      (p.calling (run p x [] qs).1 q).0 ≡ answer_by (record { feature = f; ranges = o.ranges; speeds = o.speeds }) (run p x [] qs).0 q
