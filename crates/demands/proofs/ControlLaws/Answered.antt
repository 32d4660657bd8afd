-- The service answers by its history.
use Prim.Native.Nat.{ℕ, suc, ◌≤◌}
use mathlib.Core.Path.{◌≡◌, refl, sym, ap, ◌∙◌}
use mathlib.Core.Bool.{Bool, true, false, cond, not, ◌&&◌, ◌||◌}
use mathlib.Core.List.{List, [], ◌∷◌, ◌++◌, append_assoc, append-nil}
use native.Mathlib.Omega.{arith}
use lib.Dec.{eqb, leb, ltb}
use lib.IntN.{ℤ, pos, negsuc}
use lib.ListN.{length, get_or, drop}
use lib.Signed.{le_z, lt_z}
use Rattle.record.specs.declared.feature.Feature.{Feature}
use Rattle.record.specs.Answer.{Answer, refused, given}
use Rattle.record.specs.Feature.{named, words, feature_of}
use Rattle.record.proofs.Tests.{passed, failed, tested, leb_le, leb_lt, leb_true, ltb_false}
use Rattle.service.specs.declared.control.Console.{Console}
use Rattle.service.specs.declared.control.ranges.Ranges.{Ranges}
use Rattle.service.specs.declared.control.machine.Setup.{Setup}
use Rattle.service.specs.declared.control.judging.WriteResult.{WriteResult}
use Rattle.service.specs.declared.control.judging.WriteResult.TheVariants.{Success, NotSupported, InvalidParameter, OperationFailed, ControlNotPermitted}
use Rattle.service.specs.Control.Ranges.{are_ranges}
use Rattle.service.specs.Control.OpCodes.{op_code}
use Rattle.service.specs.Control.SpinDown.{in_order, on, said_at}
use Rattle.service.specs.Control.Machine.{usable, is, someone}
use Rattle.service.specs.Control.Judging.{result_number, succeeds, result}
use Rattle.service.specs.Control.Effects.{response_after, status_after, success_followed}
use Rattle.service.specs.Control.Console.{is_connected, is_indicating, first}
use Rattle.service.specs.Control.Replies.{sent}
use Rattle.service.specs.Control.Calls.{Opening, open_with, opened, connects, disconnects, indicates, confirms, writes, feeds}
use Rattle.service.proofs.ControlLaws.Answers.{setup_of}
use Rattle.demands.specs.Control.Point.{Call, connect, disconnect, confirm, indicate, write, flywheel, Point, service, Event, event, step, run}
use Rattle.demands.specs.Control.Laws.{holder_by}
use Rattle.demands.specs.Control.History.{mode_by, awaited_by, connected_by, indicating_by}
use Rattle.demands.specs.Control.Runs.{Led, led_by, run_of}
use Rattle.demands.specs.Control.Rules as rule
use Rattle.demands.specs.Control.Answered.{response_by, answer_by, OctetIn, OctetsIn, reversed, no_step, refusal_by, AnswersByHistory}
use Rattle.demands.proofs.ControlLaws.Rules.{followed_so, status_so, result_so}
use Rattle.demands.proofs.ControlLaws.Spoken.{on_led, said_so}
use Rattle.demands.proofs.ControlLaws.Runs.{run_by_history}
use Rattle.demands.proofs.ControlLaws.Changes.{fixed_at_opening}
use Rattle.demands.proofs.ControlLaws.Kept.{run_keeps}
use Rattle.demands.proofs.ControlLaws.History.{holder_by_history}
use Rattle.demands.proofs.ControlLaws.Remembered.{mode_by_history, awaited_by_history, connected_by_history, indicating_by_history}

-- only 01 is a success
success_01 : (r : WriteResult) → succeeds r ≡ eqb (result_number r) 0x01
success_01 Success = refl
success_01 NotSupported = refl
success_01 InvalidParameter = refl
success_01 OperationFailed = refl
success_01 ControlNotPermitted = refl

-- a console that is what the history says
record Told (s : Setup) (past : List Event) (k : Console) : Type 0 where
  setup_so : k.machine.setup ≡ s
  holder_so : k.machine.holder ≡ holder_by past []
  mode_so : k.machine.mode ≡ mode_by past
  awaited_so : k.awaited ≡ awaited_by past
  connected_so : (c : ℕ) → is_connected k c ≡ connected_by c past
  indicating_so : (c : ℕ) → is_indicating k c ≡ indicating_by c past
  run_so : k.machine.run ≡ run_of s.speeds (led_by s.speeds past)

module _ (s : Setup) (past : List Event) (k : Console) (t : Told s past k) where
  response_so : (c o : ℕ) (p : List ℕ) → o ≤ 255 →
      sent (response_after k.machine c o p) (status_after k.machine c o p) ≡ response_by s past c o p
  response_so c o p h =
      let r : WriteResult = result k.machine c o p in
      let d : Led = led_by s.speeds past in
      let g : on k.machine.run ≡ d.on = ap on t.run_so ∙ on_led s.speeds d in
      let n : result_number r ≡ rule.result s (holder_by past []) (mode_by past) d.on c o p =
      result_so k.machine c p o h ∙ (λ i. rule.result (t.setup_so i) (t.holder_so i) (t.mode_so i) (g i) c o p) in
      let y : success_followed k.machine.setup.speeds (op_code o) p ≡ rule.followed s.speeds o p =
      followed_so k.machine.setup.speeds p o h ∙ ap (λ (x : Setup). rule.followed x.speeds o p) t.setup_so in
      let w : succeeds r ≡ eqb (rule.result s (holder_by past []) (mode_by past) d.on c o p) 0x01 = success_01 r ∙ ap (λ (x : ℕ). eqb x 0x01) n in
      (λ i. sent (0x80 ∷ o ∷ n i ∷ cond (w i) (y i) []) (cond (w i) (status_so p o h i) []))

  answer_so : (q : Call) → OctetIn q → (step k q).0 ≡ answer_by s past q
  unfolding connects disconnects indicates confirms writes feeds
  answer_so (connect c) h = elim (tested (ltb 3 c)) [
    | passed e ↦ rw e
    | failed e ↦ elim (tested (connected_by c past)) [
      | passed f ↦ rw (e, t.connected_so c, f)
      | failed f ↦ rw (e, t.connected_so c, f)
    ]
  ]
  answer_so (disconnect c) h = elim (tested (ltb 3 c)) [
    | passed e ↦ rw e
    | failed e ↦ elim (tested (connected_by c past)) [
      | passed f ↦ rw (e, t.connected_so c, f)
      | failed f ↦ rw (e, t.connected_so c, f)
    ]
  ]
  answer_so (indicate c on) h = elim (tested (ltb 3 c)) [
    | passed e ↦ rw e
    | failed e ↦ elim (tested (connected_by c past)) [
      | passed f ↦ rw (e, t.connected_so c, f)
      | failed f ↦ rw (e, t.connected_so c, f)
    ]
  ]
  answer_so (confirm c) h = elim (tested (ltb 3 c)) [
    | passed e ↦ rw e
    | failed e ↦ elim (tested (connected_by c past)) [
      | failed f ↦ rw (e, t.connected_so c, f)
      | passed f ↦ elim (tested (is (awaited_by past) c)) [
        | passed g ↦ rw (e, t.connected_so c, f, t.awaited_so, g)
        | failed g ↦ rw (e, t.connected_so c, f, t.awaited_so, g)
      ]
    ]
  ]
  answer_so (write c w) h = elim (tested (ltb 3 c)) [
    | passed e ↦ rw e
    | failed e ↦ elim (tested (connected_by c past)) [
      | failed f ↦ rw (e, t.connected_so c, f)
      | passed f ↦ elim (tested (eqb (length w) 0)) [
        | passed g ↦ rw (e, t.connected_so c, f, g)
        | failed g ↦ elim (tested (indicating_by c past)) [
          | failed i ↦ rw (e, t.connected_so c, f, g, t.indicating_so c, i)
          | passed i ↦ elim (tested (someone (awaited_by past))) [
            | passed j ↦ rw (e, t.connected_so c, f, g, t.indicating_so c, i, t.awaited_so, j)
            | failed j ↦ rw (e, t.connected_so c, f, g, t.indicating_so c, i, t.awaited_so, j) (response_so c (get_or w 0 0) (drop 1 w) h)
          ]
        ]
      ]
    ]
  ]
  answer_so (flywheel v) h =
      λ i. sent [] (((λ j. said_at (t.setup_so j).speeds (t.run_so j) v) ∙ said_so s.speeds (led_by s.speeds past) v) i)

-- the setup of a console is what it was opened with
opened_so : (o : Opening) (f : Feature) (k : Console) → feature_of o.feature ≡ given f → opened o ≡ given k → k.machine.setup ≡ setup_of f o
unfolding opened
opened_so o f k e h =
    let g : open_with (given f) o.ranges o.speeds ≡ given k = ap (λ (a : Answer Feature). open_with a o.ranges o.speeds) (sym e) ∙ h in
    elim (tested (usable (setup_of f o))) [
      | passed u ↦ (let z : given (first (setup_of f o)) ≡ given k = rw u at g in let y : first (setup_of f o) ≡ k = cc in ap (λ (x : Console). x.machine.setup) (sym y))
      | failed u ↦ absurd (let z : ◌≡◌ {A = Answer Console} (refused 16) (given k) = rw u at g in let y : ◌≡◌ {A = ℕ} 0 1 = cc in omega arith)
    ]

-- ---- openings

not_le : (a b : ℕ) → not (leb a b) ≡ ltb b a
not_le a b = elim (tested (leb a b)) [
  | passed e ↦ rw (e, ltb_false b a (leb_le a b e))
  | failed e ↦ rw (e, leb_true (leb_lt a b e))
]

not_le_z : (a b : ℤ) → not (le_z a b) ≡ lt_z b a
not_le_z (pos a) (pos b) = not_le a b
not_le_z (pos a) (negsuc b) = refl
not_le_z (negsuc a) (pos b) = refl
not_le_z (negsuc a) (negsuc b) = not_le b a

not_both : (a z : Bool) → not (a && not z) ≡ (not a || z)
not_both false z = refl
not_both true false = refl
not_both true true = refl

or_true : (a : Bool) → true ≡ (a || true)
or_true false = refl
or_true true = refl

-- one more range that is reversed or has no step
one_more : (a z b rest all : Bool) → not b ≡ (rest || all) → not ((a && not z) && b) ≡ ((not a || rest) || (z || all))
one_more false z b rest all h = refl
one_more true false b rest all h = h
one_more true true b rest all h = or_true rest

unusable_so : (r : Ranges) → not (are_ranges r) ≡ (reversed r || no_step r)
unusable_so r =
    one_more (leb r.speed.least r.speed.greatest) (eqb r.speed.increment 0) _ _ _
    (one_more (le_z r.inclination.least r.inclination.greatest) (eqb r.inclination.increment 0) _ _ _
    (one_more (le_z r.resistance.least r.resistance.greatest) (eqb r.resistance.increment 0) _ _ _
    (one_more (le_z r.power.least r.power.greatest) (eqb r.power.increment 0) _ _ _
    (not_both (leb r.heart_rate.least r.heart_rate.greatest) (eqb r.heart_rate.increment 0))))) ∙
    (λ i.
    (not_le r.speed.least r.speed.greatest i ||
    (not_le_z r.inclination.least r.inclination.greatest i ||
    (not_le_z r.resistance.least r.resistance.greatest i ||
    (not_le_z r.power.least r.power.greatest i || not_le r.heart_rate.least r.heart_rate.greatest i)))) || no_step r)

-- an opening is refused with the number that the rule says, or gives a console
data Outcome (o : Opening) : Type 0 where
  refuses_so : (n : ℕ) → refusal_by o ≡ suc n → opened o ≡ refused (suc n) → Outcome o
  opens_so : (k : Console) → refusal_by o ≡ 0 → opened o ≡ given k → Outcome o

outcome : (o : Opening) → Outcome o
unfolding opened
outcome o = elim (tested (eqb (length o.feature) 8)) [
  | failed e ↦ refuses_so 21 (rw e) (rw e)
  | passed e ↦ elim (tested (are_ranges o.ranges)) [
    | failed u ↦ refuses_so 15 (rw (e, ← unusable_so o.ranges, u)) (rw (e, u))
    | passed u ↦ elim (tested (in_order o.speeds)) [
      | passed v ↦
          opens_so (first (setup_of (named (words o.feature)) o))
          (rw (e, ← unusable_so o.ranges, u, v)) (rw (e, u, v))
      | failed v ↦ refuses_so 15 (rw (e, ← unusable_so o.ranges, u, v)) (rw (e, u, v))
    ]
  ]
]

service_refuses : (o : Opening) (n : ℕ) → refusal_by o ≡ suc n → opened o ≡ refused (suc n)
service_refuses o n h = elim (outcome o) [
  | refuses_so m e f ↦ f ∙ ap refused (sym e ∙ h)
  | opens_so k e f ↦ absurd (let z : 0 ≡ suc n = sym e ∙ h in omega arith)
]

service_opens : (o : Opening) → refusal_by o ≡ 0 → (k : Console) × (opened o ≡ given k)
service_opens o h = elim (outcome o) [
  | refuses_so m e f ↦ absurd (let z : suc m ≡ 0 = sym e ∙ h in omega arith)
  | opens_so k e f ↦ (k, f)
]

pub answers_by_history : AnswersByHistory service
answers_by_history = record {
  refuses = service_refuses;
  opens = service_opens;
  answers = λ o f e k h qs q w. answer_so (setup_of f o) (run service k [] qs).0 (run service k [] qs).1 (record {
    setup_so = run_keeps (λ x. x.machine.setup ≡ setup_of f o) (λ x q s. fixed_at_opening x q ∙ s) k [] qs (opened_so o f k e h);
    holder_so = holder_by_history o k h qs;
    mode_so = mode_by_history o k h qs;
    awaited_so = awaited_by_history o k h qs;
    connected_so = λ c. connected_by_history c o k h qs;
    indicating_so = λ c. indicating_by_history c o k h qs;
    run_so = run_by_history.run_so o k h qs;
  }) q w;
}

-- ---- no second control point answers by its history otherwise

pub run_more : {S : Type 0} (p : Point S) (x : S) (past : List Event) (qs : List Call) (q : Call) →
    (run p x past (qs ++ q ∷ [])).0 ≡ event q (p.calling (run p x past qs).1 q).0 ∷ (run p x past qs).0
unfolding run
run_more p x past [] q = refl
run_more p x past (a ∷ qs) q = run_more p (p.calling x a).1 (event a (p.calling x a).0 ∷ past) qs q

module _ {S R : Type 0} (p : Point S) (r : Point R) (a : AnswersByHistory p) (b : AnswersByHistory r) (o : Opening) (f : Feature)
    (e : feature_of o.feature ≡ given f) (x : S) (g : p.opening o ≡ given x) (y : R) (h : r.opening o ≡ given y) where
  decides : (past qs : List Call) → OctetsIn qs → (run p x [] past).0 ≡ (run r y [] past).0 → (run p x [] (past ++ qs)).0 ≡ (run r y [] (past ++ qs)).0
  decides past [] w s = rw (append-nil past) s
  decides past (q ∷ qs) w s =
      let c : (p.calling (run p x [] past).1 q).0 ≡ (r.calling (run r y [] past).1 q).0 =
      a.answers o f e x g past q w.0 ∙ ap (λ (l : List Event). answer_by (setup_of f o) l q) s ∙ sym (b.answers o f e y h past q w.0) in
      rw (← append_assoc past (q ∷ []) qs)
      (decides (past ++ q ∷ []) qs w.1 (run_more p x [] past q ∙ (λ i. event q (c i) ∷ s i) ∙ sym (run_more r y [] past q)))

-- two that answer by their history open alike and answer alike
pub history_decides : {S R : Type 0} (p : Point S) (r : Point R) → AnswersByHistory p → AnswersByHistory r → (o : Opening) (f : Feature) →
    feature_of o.feature ≡ given f → refusal_by o ≡ 0 →
    (x : S) × (y : R) × (p.opening o ≡ given x) × (r.opening o ≡ given y) × ((qs : List Call) → OctetsIn qs → (run p x [] qs).0 ≡ (run r y [] qs).0)
history_decides p r a b o f e h = (
  (a.opens o h).0,
  (b.opens o h).0,
  (a.opens o h).1,
  (b.opens o h).1,
  λ qs w. decides p r a b o f e (a.opens o h).0 (a.opens o h).1 (b.opens o h).0 (b.opens o h).1 [] qs w (unfold run in refl),
)
