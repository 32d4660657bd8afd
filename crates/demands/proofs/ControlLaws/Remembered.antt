-- Mode, awaited response, connected clients and indications after any sequence of calls are those that the history says.
use Rattle.std.specs.Prelude.{Option}
use Prim.Native.Nat.{ℕ, ◌≤◌}
use mathlib.Core.Path.{◌≡◌, refl, sym, ap, ◌∙◌}
use mathlib.Core.Bool.{Bool, true, false, cond, not, ◌&&◌, true≢false}
use mathlib.Core.List.{List, [], ◌∷◌, ◌++◌}
use native.Mathlib.Omega.{arith}
use lib.Dec.{eqb, leb}
use lib.ListN.{get_or, set}
use lib.Seq.{get_or-set_other}
use Rattle.record.specs.declared.feature.Feature.{Feature}
use Rattle.record.specs.Answer.{Answer}
use Rattle.record.specs.Octets.{number}
use Rattle.record.proofs.Tests.{passed, failed, tested, eqb_eq, eqb_ne, eqb_false, eqb_true, leb_le, and_l, and_r}
use Rattle.service.specs.declared.control.Client.{Client as Link}
use Rattle.service.specs.declared.control.Console.{Console}
use Rattle.service.specs.declared.control.machine.Machine.{Machine}
use Rattle.service.specs.declared.control.machine.Mode.{Mode}
use Rattle.service.specs.declared.control.machine.Mode.TheVariants.{Stopped, Running}
use Rattle.service.specs.declared.control.op_codes.Act.{Act}
use Rattle.service.specs.declared.control.op_codes.Act.TheVariants.{TakesControl, Resets, Starts, Halts, Stores, SpinsDown}
use Rattle.service.specs.declared.control.op_codes.Bound.{Bound}
use Rattle.service.specs.declared.control.op_codes.Bound.TheVariants.{Free, Speed, Inclination, Resistance, Power, HeartRate, OneOrTwo}
use Rattle.service.specs.declared.control.judging.WriteResult.{WriteResult}
use Rattle.service.specs.declared.control.judging.WriteResult.TheVariants.{Success, NotSupported, InvalidParameter, OperationFailed, ControlNotPermitted}
use Rattle.service.specs.Control.Ranges.{allowed}
use Rattle.service.specs.Control.SpinDown.{followed_by}
use Rattle.service.specs.Control.Judging.{result_number}
use Rattle.service.specs.Control.Effects.{response_octets, status_octets, halted_to, done}
use Rattle.service.specs.Control.Console.{absent, client_at, is_connected, first}
use Rattle.service.specs.Control.Replies.{Sent, sent}
use Rattle.service.specs.Control.Calls.{Opening}
use Rattle.service.proofs.ControlLaws.Rule.{table_rule}
use Rattle.service.proofs.ControlLaws.Fits.{allowed_fit}
use Rattle.service.proofs.ControlLaws.Answers.{setup_of}
use Rattle.demands.specs.Control.Point.{Call, write, service, Event, event, step, run}
use Rattle.demands.specs.Control.Laws.{Sound, by, parameter, succeeded}
use Rattle.demands.specs.Control.History.{accepted, did, halted, mode_by, responded, still_due, awaited_by, joined, shown, connected_by, indicating_by, ByHistory, ModeByHistory, AwaitedByHistory, ConnectedByHistory, IndicatingByHistory}
use Rattle.demands.proofs.ControlLaws.Numbers.{not_01}
use Rattle.demands.proofs.ControlLaws.Steps.{Stepped, refusal, connected, gone, indicated, confirmed, denied, granted, fed, steps}
use Rattle.demands.proofs.ControlLaws.Kept.{here, sound_step, all_absent, sound_first, opened_first}

-- ---- what holds for each event holds for all events

module _ {A : Type 0} (read : Console → A) (says : List Event → A) (next : Event → A → A)
    (one : (k : Console) (q : Call) → Sound k → read (step k q).1 ≡ next (event q (step k q).0) (read k))
    (more : (e : Event) (past : List Event) → says (e ∷ past) ≡ next e (says past)) where
  follows : (k : Console) → Sound k → (past : List Event) (qs : List Call) → read k ≡ says past →
      read (run service k past qs).1 ≡ says (run service k past qs).0
  unfolding run
  follows k s past [] e = e
  follows k s past (q ∷ qs) e =
      let z : Event = event q (step k q).0 in
      follows (step k q).1 (sound_step k q s) (z ∷ past) qs (one k q s ∙ ap (next z) e ∙ sym (more z past))

  by_events : ((o : Opening) (f : Feature) → read (first (setup_of f o)) ≡ says []) → ByHistory service read says
  by_events h o k e qs =
      let f : (f : Feature) × (k ≡ first (setup_of f o)) = opened_first o k e in
      follows k (rw f.1 (sound_first (setup_of f.0 o))) [] qs (rw f.1 (h o f.0))

-- ---- the mode

next_mode : Event → Mode → Mode
next_mode e before =
    cond (succeeded 0x01 e) Stopped
    (cond (succeeded 0x07 e) Running
    (cond (succeeded 0x08 e) (halted (number 1 (parameter e.call)) before) before))

-- only 01 resets, only 07 starts, and only 08 halts, with 1 or 2
abbrev pub one_or_two : Bound → Bool
one_or_two Free = false
one_or_two Speed = false
one_or_two Inclination = false
one_or_two Resistance = false
one_or_two Power = false
one_or_two HeartRate = false
one_or_two OneOrTwo = true

abbrev other : ℕ → Bool
other o = not (eqb o 0x01) && (not (eqb o 0x07) && not (eqb o 0x08))

abbrev moves : ℕ → Bound → Act → Bool
moves o b TakesControl = other o
moves o b Resets = eqb o 0x01
moves o b Starts = eqb o 0x07
moves o b Halts = eqb o 0x08 && one_or_two b
moves o b (Stores at) = other o
moves o b SpinsDown = other o

pub not_so : (b : Bool) → not b ≡ true → b ≡ false
not_so true e = absurd (true≢false (sym e))
not_so false e = refl

pub bound_so : (b : Bound) → one_or_two b ≡ true → b ≡ OneOrTwo
bound_so Free e = absurd (true≢false (sym e))
bound_so Speed e = absurd (true≢false (sym e))
bound_so Inclination e = absurd (true≢false (sym e))
bound_so Resistance e = absurd (true≢false (sym e))
bound_so Power e = absurd (true≢false (sym e))
bound_so HeartRate e = absurd (true≢false (sym e))
bound_so OneOrTwo e = refl

halted_so : (n : ℕ) (before : Mode) → (leb 1 n && leb n 2) ≡ true → halted_to n ≡ halted n before
halted_so n before e = elim (tested (eqb n 1)) [
  | passed f ↦ rw f
  | failed f ↦
      let l : 1 ≤ n = leb_le 1 n (and_l (leb 1 n) (leb n 2) e) in
      let g : n ≤ 2 = leb_le n 2 (and_r (leb 1 n) (leb n 2) e) in
      rw (f, eqb_true (two l g (eqb_ne n 1 f)))
]
  where
    two : 1 ≤ n → n ≤ 2 → (n ≡ 1 → ⊥) → n ≡ 2
    two l g h = omega arith

-- a write that succeeds
module _ (m : Machine) (c o : ℕ) (p more said : List ℕ) where
  abbrev success_event : Event
  success_event = event (write c (o ∷ p)) (sent (response_octets o Success ++ more) said)

  unmoved : other o ≡ true → m.mode ≡ next_mode success_event m.mode
  unfolding next_mode
  unmoved h =
      let rest : (not (eqb o 0x07) && not (eqb o 0x08)) ≡ true = and_r (not (eqb o 0x01)) (not (eqb o 0x07) && not (eqb o 0x08)) h in
      rw (
        not_so (eqb o 0x01) (and_l (not (eqb o 0x01)) (not (eqb o 0x07) && not (eqb o 0x08)) h),
        not_so (eqb o 0x07) (and_l (not (eqb o 0x07)) (not (eqb o 0x08)) rest),
        not_so (eqb o 0x08) (and_r (not (eqb o 0x07)) (not (eqb o 0x08)) rest),
      )

  mode_done : (b : Bound) (a : Act) → moves o b a ≡ true → allowed m.setup.ranges b p ≡ true → (done m c a p).mode ≡ next_mode success_event m.mode
  unfolding next_mode
  mode_done b TakesControl h t = unmoved h
  mode_done b Resets h t = rw (eqb_eq o 0x01 h)
  mode_done b Starts h t = rw (eqb_eq o 0x07 h)
  mode_done b Halts h t =
      let e : o ≡ 0x08 = eqb_eq o 0x08 (and_l (eqb o 0x08) (one_or_two b) h) in
      let f : b ≡ OneOrTwo = bound_so b (and_r (eqb o 0x08) (one_or_two b) h) in
      rw e (halted_so (number 1 p) m.mode (rw f at t))
  mode_done b (Stores at) h t = unmoved h
  mode_done b SpinsDown h t = unmoved h

mode_stepped : (k : Console) {q : Call} {x : Answer Sent × Console} → Stepped k q x → x.1.machine.mode ≡ next_mode (event q x.0) k.machine.mode
unfolding next_mode
mode_stepped k (refusal n l g) = refl
mode_stepped k (connected c h e) = refl
mode_stepped k (gone c h e) = refl
mode_stepped k (indicated c on h e) = refl
mode_stepped k (confirmed c h e f) = refl
mode_stepped k (denied c o p h r e) = rw (not_01 r e)
mode_stepped k (granted c o p h x e g) =
    unfold next_mode in mode_done k.machine c o p (followed_by k.machine.setup.speeds x.act (number 1 p)) (status_octets x.status p)
    x.bound x.act (table_rule (λ o x. moves o x.bound x.act) refl o x e) (allowed_fit k.machine.setup.ranges x p g.suits)
mode_stepped k (fed v) = refl

pub mode_by_history : ModeByHistory service
unfolding mode_by next_mode
mode_by_history =
    by_events (λ k. k.machine.mode) mode_by next_mode (λ k q s. mode_stepped k (steps k q)) (λ e past. refl) (λ o f. refl)

-- ---- whose response awaits confirmation

next_awaited : Event → Option ℕ → Option ℕ
next_awaited e before = cond (responded e) (by e.call) (cond (accepted e) (still_due e.call before) before)

-- every result is one of 01 to 05
result_in_five : (r : WriteResult) → (leb 0x01 (result_number r) && leb (result_number r) 0x05) ≡ true
result_in_five Success = refl
result_in_five NotSupported = refl
result_in_five InvalidParameter = refl
result_in_five OperationFailed = refl
result_in_five ControlNotPermitted = refl

awaited_stepped : (k : Console) {q : Call} {x : Answer Sent × Console} → Stepped k q x → x.1.awaited ≡ next_awaited (event q x.0) k.awaited
unfolding next_awaited
awaited_stepped k (refusal n l g) = rw (eqb_false (λ (e : n ≡ 0). omega arith))
awaited_stepped k (connected c h e) = refl
awaited_stepped k (gone c h e) = refl
awaited_stepped k (indicated c on h e) = refl
awaited_stepped k (confirmed c h e f) = rw f
awaited_stepped k (denied c o p h r e) = rw (result_in_five r)
awaited_stepped k (granted c o p h x e g) = refl
awaited_stepped k (fed v) = refl

pub awaited_by_history : AwaitedByHistory service
unfolding awaited_by next_awaited
awaited_by_history =
    by_events (λ k. k.awaited) awaited_by next_awaited (λ k q s. awaited_stepped k (steps k q)) (λ e past. refl) (λ o f. refl)

-- ---- who is connected, and whose indications are on

next_link : ℕ → Event → Link → Link
next_link d e before =
    cond (did d e) (record { connected = joined e.call before.connected; indicating = shown e.call before.indicating }) before

-- the state of a client after a call, which sets it or leaves it
module _ (k : Console) (s : Sound k) (c d : ℕ) (h : c ≤ 3) where
  put : (x y : Link) → (eqb c d ≡ true → x ≡ y) → get_or (set k.clients c x) d absent ≡ cond (eqb c d) y (client_at k d)
  put x y f = elim (tested (eqb c d)) [
    | passed e ↦ rw (e, ← eqb_eq c d e) (here k.clients s.links.four c h x ∙ f e)
    | failed e ↦ rw e (get_or-set_other k.clients c d x absent (λ (q : d ≡ c). eqb_ne c d e (sym q)))
  ]

same_link : (b : Bool) (x : Link) → x ≡ cond b (record { connected = x.connected; indicating = x.indicating }) x
same_link true x = refl
same_link false x = refl

link_stepped : (k : Console) → Sound k → (d : ℕ) → {q : Call} {x : Answer Sent × Console} → Stepped k q x →
    client_at x.1 d ≡ next_link d (event q x.0) (client_at k d)
unfolding next_link
link_stepped k s d (refusal n l g) = rw (eqb_false (λ (e : n ≡ 0). omega arith))
link_stepped k s d (connected c h e) = put k s c d h (record { connected = true; indicating = false }) _ (λ t. refl)
link_stepped k s d (gone c h e) = put k s c d h absent _ (λ t. refl)
link_stepped k s d (indicated c on h e) =
    put k s c d h (record { connected = true; indicating = on }) (record { connected = (client_at k d).connected; indicating = on })
    (λ t. λ i. record { connected = (sym e ∙ ap (is_connected k) (eqb_eq c d t)) i; indicating = on })
link_stepped k s d (confirmed c h e f) = same_link (eqb c d) (client_at k d)
link_stepped k s d (denied c o p h r e) = same_link (eqb c d) (client_at k d)
link_stepped k s d (granted c o p h x e g) = same_link (eqb c d) (client_at k d)
link_stepped k s d (fed v) = refl

link_by : ℕ → List Event → Link
link_by d past = record { connected = connected_by d past; indicating = indicating_by d past }

more_links : (d : ℕ) (e : Event) (past : List Event) → link_by d (e ∷ past) ≡ next_link d e (link_by d past)
unfolding link_by next_link connected_by indicating_by
more_links d e past = elim (tested (did d e)) [
  | passed t ↦ rw t
  | failed t ↦ rw t
]

link_by_history : (d : ℕ) → ByHistory service (λ k. client_at k d) (link_by d)
link_by_history d =
    by_events (λ k. client_at k d) (link_by d) (next_link d) (λ k q s. link_stepped k s d (steps k q)) (more_links d)
    (λ o f. unfold link_by connected_by indicating_by in all_absent 4 d)

pub connected_by_history : ConnectedByHistory service
connected_by_history c o k e qs = unfold link_by in ap (λ (x : Link). x.connected) (link_by_history c o k e qs)

pub indicating_by_history : IndicatingByHistory service
indicating_by_history c o k e qs = unfold link_by in ap (λ (x : Link). x.indicating) (link_by_history c o k e qs)
