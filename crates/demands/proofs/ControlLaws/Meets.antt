-- The service answers as the service; so does one that keeps a console that moves alike; and one that never answers 01 does not.
use Prim.Native.Nat.{ℕ}
use mathlib.Core.Path.{◌≡◌, refl, sym, ap, ap₂, ◌∙◌}
use mathlib.Core.Bool.{true}
use mathlib.Core.List.{List, [], ◌∷◌}
use native.Mathlib.Omega.{arith}
use lib.ListN.{get_or}
use Rattle.record.specs.Answer.{Answer, refused, given}
use Rattle.record.specs.Octets.{number}
use Rattle.service.specs.declared.control.Console.{Console}
use Rattle.service.specs.declared.control.judging.WriteResult.TheVariants.{Success, NotSupported}
use Rattle.service.specs.Control.OpCodes.{op_code}
use Rattle.service.specs.Control.Judging.{result_number, fit, judged}
use Rattle.service.specs.Control.Effects.{response_octets, success_status}
use Rattle.service.specs.Control.Console.{first, closed}
use Rattle.service.specs.Control.Replies.{Sent, sent}
use Rattle.service.specs.Control.Calls.{Opening, opened, connects, indicates, writes}
use Rattle.demands.specs.Control.Point.{Call, connect, disconnect, confirm, indicate, write, flywheel, Point, service, Event, event, latest, step, run, Answers}
use Rattle.demands.specs.Control.Laws.{result_in}
use Rattle.demands.specs.Control.Cases.{ranges, speeds}

-- ---- how to show it for code: its states are read as consoles, and each call changes the console that its state is read as

abbrev pub read_opening : {S : Type 0} → (S → Console) → Answer S → Answer Console
read_opening f (refused n) = refused n
read_opening f (given x) = given (f x)

pub record Reading {S : Type 0} (p : Point S) : Type 0 where
  pub read : S → Console
  pub opens : (o : Opening) → read_opening read (p.opening o) ≡ opened o
  pub replies : (x : S) (q : Call) → (p.calling x q).0 ≡ (step (read x) q).0
  pub moves : (x : S) (q : Call) → read (p.calling x q).1 ≡ (step (read x) q).1

module _ {S : Type 0} (p : Point S) (h : Reading p) where
  alike : (qs : List Call) (x : S) (past : List Event) → (run p x past qs).0 ≡ (run service (h.read x) past qs).0
  unfolding run
  alike [] x past = refl
  alike (q ∷ qs) x past =
      alike qs (p.calling x q).1 (event q (p.calling x q).0 ∷ past) ∙
      ap₂ (λ (k : Console) (a : Answer Sent). (run service k (event q a ∷ past) qs).0) (h.moves x q) (h.replies x q)

  pub by_reading : Answers p
  by_reading = record {
    refuses_alike = λ o n e. shut (p.opening o) n (h.opens o ∙ e);
    answers_alike = λ o k e. wide (p.opening o) k (h.opens o ∙ e);
  }
    where
      shut : (a : Answer S) (n : ℕ) → read_opening h.read a ≡ refused n → a ≡ refused n
      shut (refused i) n e = cc
      shut (given x) n e = absurd (let z : ◌≡◌ {A = ℕ} 0 1 = cc in omega arith)

      wide : (a : Answer S) (k : Console) → read_opening h.read a ≡ given k →
          (x : S) × (a ≡ given x) × ((qs : List Call) → (run p x [] qs).0 ≡ (run service k [] qs).0)
      wide (refused i) k e = absurd (let z : ◌≡◌ {A = ℕ} 0 1 = cc in omega arith)
      wide (given x) k e = (x, refl, λ qs. let f : h.read x ≡ k = cc in alike qs x [] ∙ ap (λ (y : Console). (run service y [] qs).0) f)

pub read_same : (a : Answer Console) → read_opening (λ k. k) a ≡ a
read_same (refused n) = refl
read_same (given k) = refl

pub service_answers : Answers service
service_answers = by_reading service (record { read = λ k. k; opens = λ o. read_same (opened o); replies = λ k q. refl; moves = λ k q. refl })

-- ---- no second control point answers otherwise
module _ {S R : Type 0} (p : Point S) (r : Point R) (a : Answers p) (b : Answers r) where
  pub no_other : (o : Opening) (k : Console) → opened o ≡ given k →
      (x : S) × (y : R) × (p.opening o ≡ given x) × (r.opening o ≡ given y) × ((qs : List Call) → (run p x [] qs).0 ≡ (run r y [] qs).0)
  no_other o k e =
      let x : (x : S) × (p.opening o ≡ given x) × ((qs : List Call) → (run p x [] qs).0 ≡ (run service k [] qs).0) = a.answers_alike o k e in
      let y : (y : R) × (r.opening o ≡ given y) × ((qs : List Call) → (run r y [] qs).0 ≡ (run service k [] qs).0) = b.answers_alike o k e in
      (x.0, y.0, x.1, y.1, λ qs. x.2 qs ∙ sym (y.2 qs))

-- ---- wrong ones

-- a machine with no target setting, the ranges of the cases, and target speeds 1,000 and 2,000
abbrev pub plain : Opening
plain = record { feature = 0 ∷ 0 ∷ 0 ∷ 0 ∷ 0 ∷ 0 ∷ 0 ∷ 0 ∷ []; ranges = ranges; speeds = speeds }

abbrev pub plain_console : Console
plain_console = first (record { feature = closed.machine.setup.feature; ranges = ranges; speeds = speeds })

pub opens_so : opened plain ≡ given plain_console
unfolding opened number
opens_so = refl

-- a client's first 00 must be answered 01
abbrev first_calls : List Call
first_calls = connect 0 ∷ indicate 0 true ∷ write 0 (0x00 ∷ []) ∷ []

first_granted : latest (run service plain_console [] first_calls).0 ≡ sent (response_octets 0x00 Success) (success_status (op_code 0x00) [])
unfolding connects indicates writes judged op_code fit run number
first_granted = refl

module _ {S : Type 0} (p : Point S) where
  -- the state that the first write finds
  abbrev ready : S → S
  ready x = (p.calling (p.calling x (connect 0)).1 (indicate 0 true)).1

  latest_run : (x : S) → latest (run p x [] first_calls).0 ≡ (p.calling (ready x) (write 0 (0x00 ∷ []))).0
  unfolding run
  latest_run x = refl

  -- a control point that never answers 01
  pub not_never_01 : ((x : S) (c o : ℕ) (s : List ℕ) → result_in (p.calling x (write c (o ∷ s))).0 ≡ result_number Success → ⊥) → Answers p → ⊥
  not_never_01 h a =
      let g : (x : S) × (p.opening plain ≡ given x) × ((qs : List Call) → (run p x [] qs).0 ≡ (run service plain_console [] qs).0) =
      a.answers_alike plain plain_console opens_so in
      h (ready g.0) 0 0x00 [] (ap result_in (sym (latest_run g.0) ∙ ap latest (g.2 first_calls) ∙ first_granted))

  -- one that answers 02 to everything, whatever else it does
  pub not_always_02 : ((x : S) (c o : ℕ) (s : List ℕ) → result_in (p.calling x (write c (o ∷ s))).0 ≡ result_number NotSupported) → Answers p → ⊥
  not_always_02 h = not_never_01 (λ x c o s e. let z : ◌≡◌ {A = ℕ} 2 1 = sym (h x c o s) ∙ e in omega arith)

-- such a control point
abbrev says_02 : Call → Answer Sent
says_02 (connect c) = sent [] []
says_02 (disconnect c) = sent [] []
says_02 (confirm c) = sent [] []
says_02 (indicate c on) = sent [] []
says_02 (flywheel v) = sent [] []
says_02 (write c s) = sent (response_octets (get_or s 0 0) NotSupported) []

abbrev pub only_02 : Point (Unit {0})
only_02 = record { opening = λ o. given tt; calling = λ x q. (says_02 q, x) }

pub only_02_refuted : Answers only_02 → ⊥
only_02_refuted = not_always_02 only_02 (λ x c o s. refl)
