-- A run of spin down after any sequence of calls is the one that the history says, and says what its speeds say.
use Rattle.std.specs.Prelude.{Option, None, Some}
use Prim.Native.Nat.{ℕ, ◌≤◌}
use mathlib.Core.Path.{◌≡◌, refl, sym, ap, subst, ◌∙◌}
use mathlib.Core.Bool.{Bool, true, false, cond, not, ◌&&◌, true≢false}
use mathlib.Core.List.{List, [], ◌∷◌, ◌++◌, append-nil}
use native.Mathlib.Omega.{arith}
use lib.Dec.{eqb, leb}
use Rattle.record.specs.declared.feature.Feature.{Feature}
use Rattle.record.specs.Answer.{Answer, refused, given}
use Rattle.record.specs.Octets.{number}
use Rattle.record.proofs.Tests.{passed, failed, tested, eqb_eq, eqb_ne, eqb_false, eqb_true, eqb_same, leb_le, and_l, and_r}
use Rattle.service.specs.declared.control.Console.{Console}
use Rattle.service.specs.declared.control.machine.Setup.{Setup}
use Rattle.service.specs.declared.control.spin_down.TargetSpeeds.{TargetSpeeds}
use Rattle.service.specs.declared.control.spin_down.Run.{Run}
use Rattle.service.specs.declared.control.spin_down.Run.TheVariants.{Off, Quiet, Warned}
use Rattle.service.specs.declared.control.op_codes.OpCode.{OpCode}
use Rattle.service.specs.declared.control.op_codes.Act.{Act}
use Rattle.service.specs.declared.control.op_codes.Act.TheVariants.{TakesControl, Resets, Starts, Halts, Stores, SpinsDown}
use Rattle.service.specs.declared.control.op_codes.Bound.{Bound}
use Rattle.service.specs.declared.control.op_codes.Bound.TheVariants.{OneOrTwo}
use Rattle.service.specs.declared.control.op_codes.Status.{Status}
use Rattle.service.specs.declared.control.op_codes.Status.TheVariants.{Silent, Octet, Echo}
use Rattle.service.specs.declared.control.judging.WriteResult.TheVariants.{Success}
use Rattle.service.specs.Control.OpCodes.{op_code}
use Rattle.service.specs.Control.SpinDown.{on, followed_by, success_said, stop_said, said_at, run_at}
use Rattle.service.specs.Control.Machine.{is, someone, without, spinning}
use Rattle.service.specs.Control.Judging.{controls, fails}
use Rattle.service.specs.Control.Effects.{response_octets, status_octets, done}
use Rattle.service.specs.Control.Console.{is_connected, with_machine, first}
use Rattle.service.specs.Control.Replies.{Sent, sent, responds, accepts}
use Rattle.service.specs.Control.Calls.{Opening, opened, feeds}
use Rattle.service.proofs.ControlLaws.Rule.{table_rule}
use Rattle.service.proofs.ControlLaws.Fits.{Granted, allowed_fit}
use Rattle.service.proofs.ControlLaws.Answers.{setup_of}
use Rattle.demands.specs.Control.Point.{Call, connect, disconnect, confirm, indicate, write, flywheel, service, Event, event, step, run}
use Rattle.demands.specs.Control.Laws.{Present, Sound, by, ends, any, holder_by, is_disconnect}
use Rattle.demands.specs.Control.Runs.{started, lost, ended, Led, at_most, feeding, next_led, led_by, run_of, first_above, words, said_in, spoken, RunByHistory, SaysByRun, OneOfFour, nothing, four, two, four_then_two}
use Rattle.demands.proofs.ControlLaws.Numbers.{Number, number_so, not_01}
use Rattle.demands.proofs.ControlLaws.Steps.{responding, Stepped, refusal, connected, gone, indicated, confirmed, denied, granted, fed, steps}
use Rattle.demands.proofs.ControlLaws.Kept.{opened_first, sound_first, sound_step}
use Rattle.demands.proofs.ControlLaws.Changes.{is_client, fixed_at_opening, setup_after}
use Rattle.demands.proofs.ControlLaws.History.{and_no, holder_more}
use Rattle.demands.proofs.ControlLaws.Remembered.{one_or_two, bound_so, not_so}
use Rattle.demands.proofs.ControlLaws.Spoken.{on_led, fed_run, fed_above, fed_held, fed_words}

-- ---- the table: only 13 leads a run, with 1 or 2, and no status of an op code is 14

abbrev leads : ℕ → Bound → Act → Bool
leads o b TakesControl = not (eqb o 0x13)
leads o b Resets = not (eqb o 0x13)
leads o b Starts = not (eqb o 0x13)
leads o b Halts = not (eqb o 0x13)
leads o b (Stores at) = not (eqb o 0x13)
leads o b SpinsDown = eqb o 0x13 && one_or_two b

abbrev unsaid : Status → Bool
unsaid Silent = true
unsaid (Octet x) = not (eqb x 0x14)
unsaid (Echo x) = not (eqb x 0x14)

none_said : (c : ℕ) (w r : List ℕ) (s : Status) (p : List ℕ) → unsaid s ≡ true → said_in (event (write c w) (sent r (status_octets s p))) ≡ []
none_said c w r Silent p h = refl
none_said c w r (Octet x) p h = rw (not_so (eqb x 0x14) h)
none_said c w r (Echo x) p h = rw (not_so (eqb x 0x14) h)

-- a call that is refused says nothing
refused_says : (q : Call) (n : ℕ) → said_in (event q (refused n)) ≡ []
refused_says q n = elim (tested (someone (by q))) [
  | passed e ↦ rw e
  | failed e ↦ rw e
]

-- ---- one event

-- what has been said after one more event
abbrev next_spoken : Event → List ℕ → List ℕ
next_spoken e before = cond (started e) [] before ++ said_in e

-- a console, the last run and what has been said belong together
record Follows (t : TargetSpeeds) (r : Led) (said : List ℕ) (k : Console) : Type 0 where
  run_so : k.machine.run ≡ run_of t r
  held : r.on ≡ true → k.machine.holder ≡ r.starter
  above : r.on ≡ true → any (at_most t.low) r.speeds ≡ false
  said_so : said ≡ words t r.speeds

lost_none : (w : Option ℕ) (e : Event) → ((c : ℕ) → ends c e ≡ false) → lost w e ≡ false
lost_none None e h = refl
lost_none (Some c) e h = h c

-- a disconnect of a client that does not hold control
lost_other : (w : Option ℕ) (c : ℕ) → is w c ≡ false → lost w (event (disconnect c) (sent [] [])) ≡ false
lost_other None c e = refl
lost_other (Some d) c e = eqb_false (λ (f : c ≡ d). eqb_ne d c e (sym f))

-- who takes control and finds it held had it
had : (w : Option ℕ) (c : ℕ) → someone w ≡ true → someone (without w c) ≡ false → Some c ≡ w
had None c e f = absurd (true≢false (sym e))
had (Some d) c e f = elim (tested (eqb d c)) [
  | passed t ↦ ap Some (sym (eqb_eq d c t))
  | failed t ↦ absurd (true≢false (rw t at f))
]

module _ (k : Console) (r : Led) (said : List ℕ) (f : Follows k.machine.setup.speeds r said k) where
  abbrev t : TargetSpeeds
  t = k.machine.setup.speeds

  abbrev After : Event → Console → Type 0
  After e = Follows t (next_led t k.machine.holder e r) (next_spoken e said)

  -- an event that neither starts a run nor ends it nor feeds it leaves it; a run that goes on keeps its holder
  keep : (e : Event) → started e ≡ false → ended k.machine.holder e ≡ false → feeding t e.call r ≡ r →
      said_in e ≡ [] → (n : Console) → n.machine.run ≡ k.machine.run →
      (r.on ≡ true → n.machine.holder ≡ k.machine.holder) → After e n
  keep e s d a v n i h =
      rw (s, d, a, v, append-nil said)
      (record { run_so = i ∙ f.run_so; held = λ o. h o ∙ f.held o; above = f.above; said_so = f.said_so })

  -- an event that ends a run
  over : (e : Event) → started e ≡ false → ended k.machine.holder e ≡ true → said_in e ≡ [] →
      (n : Console) → n.machine.run ≡ Off → After e n
  over e s d v n i =
      rw (s, d, v, append-nil said)
      (record { run_so = i; held = λ o. absurd (true≢false (sym o)); above = λ o. absurd (true≢false (sym o)); said_so = f.said_so })

  -- a speed
  feeds_so : (v : ℕ) → After (event (flywheel v) (sent [] (said_at t k.machine.run v))) (record {
    machine = record {
      setup = k.machine.setup;
      holder = k.machine.holder;
      mode = k.machine.mode;
      settings = k.machine.settings;
      run = run_at t k.machine.run v;
    };
    clients = k.clients;
    awaited = k.awaited;
  })
  feeds_so v =
      let e : Event = event (flywheel v) (sent [] (said_at t k.machine.run v)) in
      rw (lost_none k.machine.holder e (λ d. refl))
      (record {
        run_so = ap (λ x. run_at t x v) f.run_so ∙ fed_run t r v;
        held = λ o. f.held (fed_held t r v o).0 ∙ (fed_held t r v o).1;
        above = fed_above t r v f.above;
        said_so = (λ i. f.said_so i ++ said_at t (f.run_so i) v) ∙ fed_words t r v f.above;
      })

-- ---- one call

module _ (k : Console) (z : Sound k) (r : Led) (said : List ℕ) (f : Follows k.machine.setup.speeds r said k) where
  module _ (c o : ℕ) (p : List ℕ) (x : OpCode) (i : op_code o ≡ Some x) (g : Granted k.machine c x p) where
    abbrev success_response : List ℕ
    success_response = response_octets o Success ++ followed_by k.machine.setup.speeds x.act (number 1 p)

    abbrev success_event : Event
    success_event = event (write c (o ∷ p)) (sent success_response (status_octets x.status p))

    silent : said_in success_event ≡ []
    silent = none_said c (o ∷ p) success_response x.status p (table_rule (λ o x. unsaid x.status) refl o x i)

    -- an op code that is not 01 or 13
    unled : (o ≡ 1 → ⊥) → not (eqb o 0x13) ≡ true → (n : Console) → n.machine.run ≡ k.machine.run →
        (r.on ≡ true → n.machine.holder ≡ k.machine.holder) →
        After k r said f success_event n
    unled h s n e w =
        keep k r said f success_event (rw (not_so (eqb o 0x13) s))
        (rw (not_so (eqb o 0x13) s) (lost_none k.machine.holder success_event (λ d. rw (eqb_false h))))
        refl silent n e w

    run_done : (a : Act) → x.act ≡ a → Number o a → leads o x.bound a ≡ true → controls k.machine.holder c a ≡ true →
        fails k.machine c a (number 1 p) ≡ false → After k r said f success_event (responding k (done k.machine c a p) c)
    run_done TakesControl e n s w q =
        unled (λ (y : o ≡ 1). omega arith) s _ refl
        (λ b. had k.machine.holder c (z.run_held (ap on f.run_so ∙ on_led k.machine.setup.speeds r ∙ b)) q)
    run_done Resets e n s w q =
        over k r said f success_event (rw n) (rw (n, is_client k.machine.holder c w) (eqb_same c)) silent _ refl
    run_done Starts e n s w q = unled (λ (y : o ≡ 1). omega arith) s _ refl (λ b. refl)
    run_done Halts e n s w q = unled (λ (y : o ≡ 1). omega arith) s _ refl (λ b. refl)
    run_done (Stores at) e n s w q = unled (λ (y : o ≡ 1). omega arith) s _ refl (λ b. refl)
    run_done SpinsDown e n s w q =
        let h : eqb o 0x13 ≡ true = and_l (eqb o 0x13) (one_or_two x.bound) s in
        let b : x.bound ≡ OneOrTwo = bound_so x.bound (and_r (eqb o 0x13) (one_or_two x.bound) s) in
        let l : (leb 1 (number 1 p) && leb (number 1 p) 2) ≡ true = rw b at (allowed_fit k.machine.setup.ranges x p g.suits) in
        elim (tested (eqb (number 1 p) 1)) [
          | passed y ↦
              rw (h, y, silent) (record { run_so = refl; held = λ o. is_client k.machine.holder c w; above = λ o. refl; said_so = refl })
          | failed y ↦
              over k r said f success_event (rw (h, y)) (rw (h, eqb_true (two l (eqb_ne (number 1 p) 1 y)))) silent _ (rw y)
        ]
      where
        two : (leb 1 (number 1 p) && leb (number 1 p) 2) ≡ true → (number 1 p ≡ 1 → ⊥) → number 1 p ≡ 2
        two l h =
            let a : 1 ≤ number 1 p = leb_le 1 (number 1 p) (and_l (leb 1 (number 1 p)) (leb (number 1 p) 2) l) in
            let b : number 1 p ≤ 2 = leb_le (number 1 p) 2 (and_r (leb 1 (number 1 p)) (leb (number 1 p) 2) l) in
            omega arith

  gone_so : (c : ℕ) (l : Console) → l.machine.run ≡ cond (is k.machine.holder c) Off k.machine.run →
      l.machine.holder ≡ without k.machine.holder c → After k r said f (event (disconnect c) (sent [] [])) l
  gone_so c l i h = elim (tested (is k.machine.holder c)) [
    | passed y ↦
        over k r said f (event (disconnect c) (sent [] [])) refl (rw (is_client k.machine.holder c y) (eqb_same c)) refl l (i ∙ rw y)
    | failed y ↦
        keep k r said f (event (disconnect c) (sent [] [])) refl (lost_other k.machine.holder c y) refl refl l (i ∙ rw y) (λ o. h ∙ rw y)
  ]

  -- a call that feeds no speed
  run_stepped : {q : Call} {x : Answer Sent × Console} → feeding k.machine.setup.speeds q r ≡ r → Stepped k q x →
      After k r said f (event q x.0) x.1
  run_stepped {q} u (refusal n l g) =
      keep k r said f (event q (refused n)) refl
      (lost_none k.machine.holder (event q (refused n)) (λ d. rw (eqb_false (λ (e : n ≡ 0). omega arith), and_no (is_disconnect q))))
      u (refused_says q n) k refl (λ o. refl)
  run_stepped {q} u (connected c h e) = keep k r said f (event q (sent [] [])) refl (lost_none k.machine.holder _ (λ d. refl)) refl refl _ refl (λ o. refl)
  run_stepped u (gone c h e) = gone_so c _ refl refl
  run_stepped {q} u (indicated c b h e) = keep k r said f (event q (sent [] [])) refl (lost_none k.machine.holder _ (λ d. refl)) refl refl _ refl (λ o. refl)
  run_stepped {q} u (confirmed c h e g) = keep k r said f (event q (sent [] [])) refl (lost_none k.machine.holder _ (λ d. refl)) refl refl _ refl (λ o. refl)
  run_stepped {q} u (denied c o p h w e) =
      keep k r said f (event q (sent (response_octets o w) [])) (rw (not_01 w e))
      (rw (not_01 w e) (lost_none k.machine.holder (event q (sent (response_octets o w) [])) (λ d. rw (not_01 w e)))) refl refl _ refl (λ o. refl)
  run_stepped u (granted c o p h x e g) =
      run_done c o p x e g x.act refl (number_so o x e) (table_rule (λ o x. leads o x.bound x.act) refl o x e) g.controlled g.right
  run_stepped u (fed v) = feeds_so k r said f v

  run_called : (q : Call) → After k r said f (event q (step k q).0) (step k q).1
  unfolding feeds
  run_called (connect c) = run_stepped refl (steps k (connect c))
  run_called (disconnect c) = run_stepped refl (steps k (disconnect c))
  run_called (confirm c) = run_stepped refl (steps k (confirm c))
  run_called (indicate c b) = run_stepped refl (steps k (indicate c b))
  run_called (write c s) = run_stepped refl (steps k (write c s))
  run_called (flywheel v) = feeds_so k r said f v

-- ---- sequences of calls

-- all that the history says of a run, of a console that these events have led to
abbrev Ran : List Event → Console → Type 0
Ran past k = Follows k.machine.setup.speeds (led_by k.machine.setup.speeds past) (spoken past) k

ran_more : (k : Console) → Sound k → (past : List Event) (q : Call) → k.machine.holder ≡ holder_by past [] → Ran past k →
    Ran (event q (step k q).0 ∷ past) (step k q).1
unfolding led_by spoken
ran_more k z past q h f =
    let e : Event = event q (step k q).0 in
    let s : TargetSpeeds = k.machine.setup.speeds in
    subst (λ (t : TargetSpeeds). Follows t (led_by t (e ∷ past)) (spoken (e ∷ past)) (step k q).1) (sym (ap (λ s. s.speeds) (fixed_at_opening k q)))
    (subst (λ (w : Option ℕ). Follows s (next_led s w e (led_by s past)) (spoken (e ∷ past)) (step k q).1) h (run_called k z (led_by s past) (spoken past) f q))

ran : (k : Console) → Sound k → (past : List Event) (qs : List Call) → k.machine.holder ≡ holder_by past [] → Ran past k →
    Ran (run service k past qs).0 (run service k past qs).1
unfolding run
ran k z past [] h f = f
ran k z past (q ∷ qs) h f =
    ran (step k q).1 (sound_step k q z) (event q (step k q).0 ∷ past) qs (holder_more k past q h) (ran_more k z past q h f)

ran_first : (o : Opening) (f : Feature) → Ran [] (first (setup_of f o))
unfolding led_by spoken
ran_first o f = record { run_so = refl; held = λ e. absurd (true≢false (sym e)); above = λ e. absurd (true≢false (sym e)); said_so = refl }

held_first : (o : Opening) (f : Feature) → (first (setup_of f o)).machine.holder ≡ holder_by [] []
unfolding holder_by
held_first o f = refl

ran_after : (o : Opening) (k : Console) → opened o ≡ given k → (qs : List Call) →
    Follows o.speeds (led_by o.speeds (run service k [] qs).0) (spoken (run service k [] qs).0) (run service k [] qs).1
ran_after o k e qs =
    let f : (f : Feature) × (k ≡ first (setup_of f o)) = opened_first o k e in
    let s : (f : Feature) × ((run service k [] qs).1.machine.setup ≡ setup_of f o) = setup_after o k e qs in
    subst (λ (t : TargetSpeeds). Follows t (led_by t (run service k [] qs).0) (spoken (run service k [] qs).0) (run service k [] qs).1)
    (ap (λ (x : Setup). x.speeds) s.1)
    (ran k (rw f.1 (sound_first (setup_of f.0 o))) [] qs (rw f.1 (held_first o f.0)) (rw f.1 (ran_first o f.0)))

pub run_by_history : RunByHistory service
run_by_history = record { run_so = λ o k e qs. (ran_after o k e qs).run_so; starter_holds = λ o k e qs. (ran_after o k e qs).held }

pub says_by_run : SaysByRun service
says_by_run o k e qs = (ran_after o k e qs).said_so

-- ---- what one run says is nothing, 4, 2, or 4 then 2
pub words_four : (t : TargetSpeeds) (vs : List ℕ) → OneOfFour (words t vs)
words_four t vs = of (first_above t vs) (any (at_most t.low) vs)
  where
    of : (a b : Bool) → OneOfFour (cond a stop_said [] ++ cond b success_said [])
    of true true = four_then_two
    of true false = four
    of false true = two
    of false false = nothing

-- ---- outside a run a speed says nothing and changes nothing
pub outside_run : (k : Console) (v : ℕ) → on k.machine.run ≡ false → step k (flywheel v) ≡ accepts k
unfolding feeds
outside_run k v h = from k.machine.run refl h
  where
    from : (r : Run) → k.machine.run ≡ r → on r ≡ false → feeds k v ≡ accepts k
    from Off e h =
        let t : TargetSpeeds = k.machine.setup.speeds in
        (λ i. responds [] (said_at t (e i) v) (with_machine k (spinning k.machine (run_at t (e i) v)))) ∙
        (λ i. responds [] [] (with_machine k (spinning k.machine (sym e i))))
    from Quiet e h = absurd (true≢false h)
    from Warned e h = absurd (true≢false h)

-- ---- a run is there only while a connected client holds control
pub run_connected : (k : Console) → Sound k → on k.machine.run ≡ true → (c : ℕ) × (k.machine.holder ≡ Some c) × (is_connected k c ≡ true)
run_connected k s h = from k.machine.holder (s.run_held h) s.links.holder_connected
  where
    from : (w : Option ℕ) → someone w ≡ true → Present k.clients w → (c : ℕ) × (w ≡ Some c) × (is_connected k c ≡ true)
    from None f p = absurd (true≢false (sym f))
    from (Some c) f p = (c, refl, p)

-- ---- nothing is said after 2 until a new start

two_said : (t : TargetSpeeds) (vs : List ℕ) → any (eqb 2) (words t vs) ≡ any (at_most t.low) vs
two_said t vs = of (first_above t vs) (any (at_most t.low) vs)
  where
    of : (a b : Bool) → any (eqb 2) (cond a stop_said [] ++ cond b success_said []) ≡ b
    of true true = refl
    of true false = refl
    of false true = refl
    of false false = refl

pub nothing_after_2 : (o : Opening) (k : Console) → opened o ≡ given k → (qs : List Call) → any (eqb 2) (spoken (run service k [] qs).0) ≡ true →
    (v : ℕ) → step (run service k [] qs).1 (flywheel v) ≡ accepts (run service k [] qs).1
nothing_after_2 o k e qs h v =
    let r : Led = led_by o.speeds (run service k [] qs).0 in
    let f : Follows o.speeds r (spoken (run service k [] qs).0) (run service k [] qs).1 = ran_after o k e qs in
    let l : any (at_most o.speeds.low) r.speeds ≡ true = sym (two_said o.speeds r.speeds) ∙ ap (any (eqb 2)) (sym f.said_so) ∙ h in
    outside_run (run service k [] qs).1 v (ap on f.run_so ∙ on_led o.speeds r ∙ over_by r.on f.above l)
  where
    over_by : (z : Bool) {b : Bool} → (z ≡ true → b ≡ false) → b ≡ true → z ≡ false
    over_by true a l = absurd (true≢false (sym l ∙ a refl))
    over_by false a l = refl
