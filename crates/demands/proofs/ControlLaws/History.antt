-- The holder after any sequence of calls is the one that the history says: the last client whose 00 succeeded, if it has had no successful
-- reset and no disconnect since, otherwise nobody.
use Rattle.std.specs.Prelude.{Option, None, Some}
use Prim.Native.Nat.{ℕ, ◌≤◌}
use mathlib.Core.Path.{◌≡◌, refl, sym, ap, ◌∙◌}
use mathlib.Core.Bool.{Bool, true, false, cond, ◌&&◌}
use mathlib.Core.List.{List, [], ◌∷◌, ◌++◌}
use native.Mathlib.Omega.{arith}
use lib.Dec.{eqb}
use Rattle.record.specs.declared.feature.Feature.{Feature}
use Rattle.record.specs.Answer.{Answer, refused, given}
use Rattle.record.proofs.Tests.{passed, failed, tested, eqb_eq, eqb_ne, eqb_false, eqb_same}
use Rattle.service.specs.declared.control.Console.{Console}
use Rattle.service.specs.declared.control.machine.Machine.{Machine}
use Rattle.service.specs.declared.control.op_codes.Act.{Act}
use Rattle.service.specs.declared.control.op_codes.Act.TheVariants.{TakesControl, Resets, Starts, Halts, Stores, SpinsDown}
use Rattle.service.specs.declared.control.judging.WriteResult.TheVariants.{Success}
use Rattle.service.specs.Control.Machine.{without, held_by}
use Rattle.service.specs.Control.Judging.{result_number, controls}
use Rattle.service.specs.Control.Effects.{response_octets, done}
use Rattle.service.specs.Control.Console.{first}
use Rattle.service.specs.Control.Replies.{Sent, sent}
use Rattle.service.specs.Control.Calls.{Opening, opened, writes}
use Rattle.service.proofs.ControlLaws.Answers.{setup_of}
use Rattle.demands.specs.Control.Point.{Call, connect, disconnect, confirm, indicate, write, flywheel, service, Event, event, step, run}
use Rattle.demands.specs.Control.Laws.{by, result_in, succeeded, is_disconnect, ends, unless_ended, holder_by}
use Rattle.demands.specs.Control.History.{HolderByHistory}
use Rattle.demands.proofs.ControlLaws.Numbers.{Number, number_so, not_01}
use Rattle.demands.proofs.ControlLaws.Steps.{responding, Stepped, refusal, connected, gone, indicated, confirmed, denied, granted, fed, steps}
use Rattle.demands.proofs.ControlLaws.Kept.{opened_first}
use Rattle.demands.proofs.ControlLaws.Changes.{is_client}

-- ---- the holder after one more event, and after all

next : Event → Option ℕ → Option ℕ
next e w = cond (succeeded 0x00 e) (by e.call) (unless_ended (e ∷ []) w)

recent : List Event → Option ℕ
recent [] = None
recent (e ∷ past) = next e (recent past)

ended_twice : (e : Event) (es : List Event) (w : Option ℕ) → unless_ended (e ∷ es) w ≡ unless_ended es (unless_ended (e ∷ []) w)
ended_twice e es None = refl
ended_twice e es (Some c) = elim (tested (ends c e)) [
  | passed h ↦ rw h
  | failed h ↦ rw h
]

by_recent : (past since : List Event) → holder_by past since ≡ unless_ended since (recent past)
unfolding holder_by recent next
by_recent [] since = refl
by_recent (e ∷ past) since = elim (tested (succeeded 0x00 e)) [
  | passed h ↦ rw h
  | failed h ↦ rw h (by_recent past (e ∷ since) ∙ ended_twice e since (recent past))
]

none_ended : (w : Option ℕ) → unless_ended [] w ≡ w
none_ended None = refl
none_ended (Some c) = refl

-- ---- one call

stays : (e : Event) (w : Option ℕ) → succeeded 0x00 e ≡ false → ((c : ℕ) → ends c e ≡ false) → w ≡ next e w
unfolding next
stays e None s h = rw s
stays e (Some c) s h = rw (s, h c)

pub and_no : (x : Bool) → (x && false) ≡ false
and_no true = refl
and_no false = refl

-- a write that succeeds
module _ (m : Machine) (c o : ℕ) (p more said : List ℕ) where
  abbrev success_event : Event
  success_event = event (write c (o ∷ p)) (sent (response_octets o Success ++ more) said)

  unmoved : 2 ≤ o → m.holder ≡ next success_event m.holder
  unmoved h = stays success_event m.holder (eqb_false (λ (e : o ≡ 0). omega arith)) (λ d. rw (eqb_false (λ (e : o ≡ 1). omega arith)))

  next_done : (a : Act) → Number o a → controls m.holder c a ≡ true → (done m c a p).holder ≡ next success_event m.holder
  unfolding next
  next_done TakesControl n h = rw n
  next_done Resets n h = rw (n, is_client m.holder c h, eqb_same c)
  next_done Starts n h = unmoved n
  next_done Halts n h = unmoved n
  next_done (Stores at) n h = unmoved n
  next_done SpinsDown n h = unmoved n

next_gone : (c : ℕ) (w : Option ℕ) → without w c ≡ next (event (disconnect c) (sent [] [])) w
unfolding next
next_gone c None = refl
next_gone c (Some d) = elim (tested (eqb d c)) [
  | passed e ↦ rw (eqb_eq d c e, eqb_same c)
  | failed e ↦ rw (e, eqb_false (λ (f : c ≡ d). eqb_ne d c e (sym f)))
]

next_stepped : (k : Console) {q : Call} {x : Answer Sent × Console} → Stepped k q x →
    x.1.machine.holder ≡ next (event q x.0) k.machine.holder
next_stepped k {q} (refusal n l g) =
    stays (event q (refused n)) k.machine.holder refl (λ d. rw (eqb_false (λ (e : n ≡ 0). omega arith), and_no (is_disconnect q)))
next_stepped k (connected c h e) = stays (event (connect c) (sent [] [])) k.machine.holder refl (λ d. refl)
next_stepped k (gone c h e) = next_gone c k.machine.holder
next_stepped k (indicated c on h e) = stays (event (indicate c on) (sent [] [])) k.machine.holder refl (λ d. refl)
next_stepped k (confirmed c h e f) = stays (event (confirm c) (sent [] [])) k.machine.holder refl (λ d. refl)
next_stepped k (denied c o p h r e) =
    stays (event (write c (o ∷ p)) (sent (response_octets o r) [])) k.machine.holder (rw (not_01 r e)) (λ d. rw (not_01 r e))
next_stepped k (granted c o p h x e g) = next_done k.machine c o p _ _ x.act (number_so o x e) g.controlled
next_stepped k (fed v) = stays (event (flywheel v) (sent [] _)) k.machine.holder refl (λ d. refl)

-- the holder that the history says, after one more call
pub holder_more : (k : Console) (past : List Event) (q : Call) → k.machine.holder ≡ holder_by past [] →
    (step k q).1.machine.holder ≡ holder_by (event q (step k q).0 ∷ past) []
unfolding recent
holder_more k past q e =
    let z : Event = event q (step k q).0 in
    next_stepped k (steps k q) ∙ ap (next z) (e ∙ by_recent past [] ∙ none_ended (recent past)) ∙
    sym (by_recent (z ∷ past) [] ∙ none_ended (recent (z ∷ past)))

-- ---- sequences of calls

follows : (k : Console) (past : List Event) (qs : List Call) → k.machine.holder ≡ recent past →
    (run service k past qs).1.machine.holder ≡ recent (run service k past qs).0
unfolding run
follows k past [] e = e
follows k past (q ∷ qs) e =
    follows (step k q).1 (event q (step k q).0 ∷ past) qs (next_stepped k (steps k q) ∙ (unfold recent in ap (next (event q (step k q).0)) e))

pub holder_by_history : (o : Opening) (k : Console) → opened o ≡ given k → (qs : List Call) →
    (run service k [] qs).1.machine.holder ≡ holder_by (run service k [] qs).0 []
unfolding recent
holder_by_history o k e qs =
    let f : (f : Feature) × (k ≡ first (setup_of f o)) = opened_first o k e in
    follows k [] qs (rw f.1) ∙ sym (by_recent (run service k [] qs).0 [] ∙ none_ended (recent (run service k [] qs).0))

-- ---- what a 00 that succeeds changes: who is awaited and who holds control
pub taken : (k : Console) (c : ℕ) (p : List ℕ) → result_in (writes k c (0x00 ∷ p)).0 ≡ result_number Success →
    (writes k c (0x00 ∷ p)).1 ≡ responding k (held_by k.machine (Some c)) c
taken k c p h = from (steps k (write c (0x00 ∷ p))) h
  where
    from_act : (a : Act) → Number 0x00 a → responding k (done k.machine c a p) c ≡ responding k (held_by k.machine (Some c)) c
    from_act TakesControl n = refl
    from_act Resets n = absurd (omega arith)
    from_act Starts n = absurd (omega arith)
    from_act Halts n = absurd (omega arith)
    from_act (Stores at) n = absurd (omega arith)
    from_act SpinsDown n = absurd (omega arith)

    from : {x : Answer Sent × Console} → Stepped k (write c (0x00 ∷ p)) x → result_in x.0 ≡ result_number Success →
        x.1 ≡ responding k (held_by k.machine (Some c)) c
    from (refusal n l g) e = absurd (omega arith)
    from (denied c o p i r f) e = absurd (eqb_ne (result_number r) 1 (not_01 r f) e)
    from (granted c o p i x f g) e = from_act x.act (number_so 0x00 x f)

-- the same as a law on any control point that keeps a console
pub holder_remembered : HolderByHistory service
holder_remembered = holder_by_history
