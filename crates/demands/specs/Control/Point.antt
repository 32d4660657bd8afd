-- "control point answers and status octets are those of Fitness Machine Service 1.0": a predicate on any control point, by its replies to any
-- sequence of calls.
use Rattle.std.specs.Prelude.{ℕ, ◌≡◌, Bool, List, [], ◌∷◌}
use Rattle.record.specs.Answer.{Answer, refused, given}
use Rattle.service.specs.declared.control.Console.{Console}
use Rattle.service.specs.Control.Replies.{Sent, sent}
use Rattle.service.specs.Control.Calls.{Opening, opened, connects, disconnects, indicates, confirms, writes, feeds}

-- "Calls: connect, disconnect, indications on and off, write, confirm." W-201: "A new call feeds the flywheel speed u16"
pub data Call : Type 0 where
  connect disconnect confirm : ℕ → Call
  indicate : ℕ → Bool → Call
  write : ℕ → List ℕ → Call
  flywheel : ℕ → Call

-- a control point with states S: "A machine is opened with a Feature value and its ranges." "Replies come back by value."
pub record Point (S : Type 0) : Type 0 where
  pub opening : Opening → Answer S
  pub calling : S → Call → Answer Sent × S

-- the calls of the service
abbrev pub step : Console → Call → Answer Sent × Console
step k (connect c) = connects k c
step k (disconnect c) = disconnects k c
step k (confirm c) = confirms k c
step k (indicate c on) = indicates k c on
step k (write c s) = writes k c s
step k (flywheel v) = feeds k v

abbrev pub service : Point Console
service = record { opening = opened; calling = step }

-- a call, and the answer to it
pub record Event : Type 0 where
  pub call : Call
  pub answer : Answer Sent

abbrev pub event : Call → Answer Sent → Event
event q a = record { call = q; answer = a }

-- the newest answer, when the newest event is first
abbrev pub latest : List Event → Answer Sent
latest [] = sent [] []
latest (e ∷ past) = e.answer

-- runs the calls of a list, from a state that `past` has led to: what has happened, the newest first, and the state after them
unfoldable pub run : {S : Type 0} → Point S → S → List Event → List Call → List Event × S
run p x past [] = (past, x)
run p x past (q ∷ qs) = run p (p.calling x q).1 (event q (p.calling x q).0 ∷ past) qs

-- it refuses to open what the service refuses; and after any other opening it answers each sequence of calls as the service does
pub record Answers {S : Type 0} (p : Point S) : Type 0 where
  pub refuses_alike : (o : Opening) (n : ℕ) → opened o ≡ refused n → p.opening o ≡ refused n
  pub answers_alike : (o : Opening) (k : Console) → opened o ≡ given k →
      (x : S) × (p.opening o ≡ given x) × ((qs : List Call) → (run p x [] qs).0 ≡ (run service k [] qs).0)
