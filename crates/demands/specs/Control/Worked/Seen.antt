-- What a worked case says: a call, the answer to it, and the state after it.
use Rattle.std.specs.Prelude.{ℕ, Bool, true, cond, ◌&&◌, List, [], ◌∷◌, map, eqb, Option}
use Rattle.record.specs.Answer.{Answer, refused, given}
use Rattle.service.specs.declared.control.Console.{Console}
use Rattle.service.specs.declared.control.machine.Machine.{Machine}
use Rattle.service.specs.declared.control.machine.Mode.{Mode}
use Rattle.service.specs.declared.control.spin_down.Run.{Run}
use Rattle.service.specs.declared.control.spin_down.Run.TheVariants.{Off}
use Rattle.service.specs.Control.Effects.{setting}
use Rattle.service.specs.Control.Console.{is_connected, is_indicating}
use Rattle.service.specs.Control.Replies.{Sent}
use Rattle.service.specs.Control.Calls.{Opening, opened}
use Rattle.demands.specs.Control.Point.{Call, service, latest, step, run}
use Rattle.demands.specs.Control.Rules.{counting, picked, storing}

-- mode, holder, whose response awaits, who is connected, whose indications are on, the settings that are not zero, by their op codes, and the run
pub record State : Type 0 where
  pub mode : Mode
  pub holder : Option ℕ
  pub awaited : Option ℕ
  pub connected : List ℕ
  pub indicating : List ℕ
  pub settings : List (ℕ × List ℕ)
  pub run : Run

-- a state without a run, and one with this run
abbrev pub state : Mode → Option ℕ → Option ℕ → List ℕ → List ℕ → List (ℕ × List ℕ) → State
state m h w c i s = record { mode = m; holder = h; awaited = w; connected = c; indicating = i; settings = s; run = Off }

abbrev pub in_run : Run → State → State
in_run r s = record {
  mode = s.mode;
  holder = s.holder;
  awaited = s.awaited;
  connected = s.connected;
  indicating = s.indicating;
  settings = s.settings;
  run = r;
}

-- "Clients are 0 to 3."
abbrev pub clients : List ℕ
clients = counting 0 4

abbrev pub zeros : List ℕ → Bool
zeros [] = true
zeros (x ∷ xs) = eqb x 0 && zeros xs

abbrev pub not_zero : Machine → List ℕ → List (ℕ × List ℕ)
not_zero m [] = []
not_zero m (o ∷ os) = let rest : List (ℕ × List ℕ) = not_zero m os in cond (zeros (setting m o)) rest ((o, setting m o) ∷ rest)

abbrev pub state_of : Console → State
state_of k =
    in_run k.machine.run
    (state k.machine.mode k.machine.holder k.awaited (picked (is_connected k) clients) (picked (is_indicating k) clients)
    (not_zero k.machine (picked storing (counting 0x00 0x15))))

-- an answer, and the state after it
pub record Seen : Type 0 where
  pub answer : Answer Sent
  pub after : State

abbrev pub seen : Answer Sent → State → Seen
seen a s = record { answer = a; after = s }

pub record Row : Type 0 where
  pub call : Call
  pub expected : Seen

abbrev pub row : Call → Answer Sent → State → Row
row q a s = record { call = q; expected = seen a s }

-- calls from opening on, what is seen after the last of them, and then rows
pub record Table : Type 0 where
  pub opening : Opening
  pub calls : List Call
  pub standing : Seen
  pub rows : List Row

abbrev pub table : Opening → List Call → Answer Sent → State → List Row → Table
table o qs a s rs = record { opening = o; calls = qs; standing = seen a s; rows = rs }

abbrev pub told : Table → List Seen
told t = t.standing ∷ map (λ r. r.expected) t.rows

-- each row from the state that the calls lead to; or each row from the state that the row before it leads to
abbrev pub each : Console → List Row → List Seen
each k rs = map (λ r. seen (step k r.call).0 (state_of (step k r.call).1)) rs

abbrev pub in_turn : Console → List Row → List Seen
in_turn k [] = []
in_turn k (r ∷ rs) = seen (step k r.call).0 (state_of (step k r.call).1) ∷ in_turn (step k r.call).1 rs

module _ (rest : Console → List Row → List Seen) where
  abbrev pub after_opening : Answer Console → List Call → List Row → List Seen
  after_opening (refused n) qs rs = []
  after_opening (given k) qs rs = seen (latest (run service k [] qs).0) (state_of (run service k [] qs).1) ∷ rest (run service k [] qs).1 rs

  abbrev pub found : Table → List Seen
  found t = after_opening (opened t.opening) t.calls t.rows
