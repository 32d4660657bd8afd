-- Every call keeps a console sound, so that each sequence of calls from opening leaves it sound.
use Rattle.std.specs.Prelude.{Option, None, Some}
use Prim.Native.Nat.{ℕ, zero, suc, ◌≤◌}
use mathlib.Core.Path.{◌≡◌, refl, sym, ap, ◌∙◌}
use mathlib.Core.Bool.{Bool, true, false, cond, true≢false}
use mathlib.Core.List.{List, [], ◌∷◌}
use native.Mathlib.Omega.{arith}
use lib.Dec.{eqb}
use lib.ListN.{length, get_or, set, replicate, length-set}
use lib.Seq.{get_or-set_same, get_or-set_other, length-sets}
use Rattle.record.specs.declared.feature.Feature.{Feature}
use Rattle.record.specs.Feature.{feature_of}
use Rattle.record.specs.Answer.{Answer, refused, given}
use Rattle.record.specs.Octets.{number, placed}
use Rattle.record.proofs.Tests.{passed, failed, tested, eqb_eq, eqb_ne}
use Rattle.service.specs.declared.control.Client.{Client as Link}
use Rattle.service.specs.declared.control.Console.{Console}
use Rattle.service.specs.declared.control.machine.Machine.{Machine}
use Rattle.service.specs.declared.control.machine.Setup.{Setup}
use Rattle.service.specs.declared.control.machine.Mode.{Mode}
use Rattle.service.specs.declared.control.machine.Mode.TheVariants.{Running}
use Rattle.service.specs.declared.control.op_codes.OpCode.{OpCode}
use Rattle.service.specs.declared.control.op_codes.Act.{Act}
use Rattle.service.specs.declared.control.op_codes.Act.TheVariants.{TakesControl, Resets, Starts, Halts, Stores, SpinsDown}
use Rattle.service.specs.Control.OpCodes.{op_code}
use Rattle.service.specs.Control.Parameters.{size}
use Rattle.service.specs.declared.control.spin_down.TargetSpeeds.{TargetSpeeds}
use Rattle.service.specs.declared.control.spin_down.Run.{Run}
use Rattle.service.specs.declared.control.spin_down.Run.TheVariants.{Off, Quiet, Warned}
use Rattle.service.specs.Control.SpinDown.{on, spun_to, run_at}
use Rattle.service.specs.Control.Machine.{usable, is, someone, without, freed, spinning, going, storing}
use Rattle.service.specs.Control.Judging.{controls, fit}
use Rattle.service.specs.Control.Effects.{halted_to, done, setting}
use Rattle.service.specs.Control.Console.{absent, client_at, is_connected, with_client, first}
use Rattle.service.specs.Control.Replies.{Sent}
use Rattle.service.specs.Control.Calls.{Opening, open_with, opened}
use Rattle.service.proofs.ControlLaws.Fits.{length_fit, allowed_fit}
use Rattle.service.proofs.ControlLaws.Answers.{setup_of}
use Rattle.demands.specs.Control.Point.{Call, service, Event, event, step, run}
use Rattle.demands.specs.Control.Laws.{Present, Links, Right, at_zero, set_to, Sound}
use Rattle.demands.proofs.ControlLaws.Places.{stored_same, stored_other, zero_at}
use Rattle.demands.proofs.ControlLaws.Steps.{responding, Stepped, refusal, connected, gone, indicated, confirmed, denied, granted, fed, steps}

-- ---- clients

-- a new state of a client: what that client is then, and what the others are
module _ (l : List Link) (n : length l ≡ 4) (c : ℕ) (h : c ≤ 3) (x : Link) where
  pub here : get_or (set l c x) c absent ≡ x
  here = get_or-set_same l c x absent (omega arith)

  there : (d : ℕ) → eqb d c ≡ false → get_or (set l c x) d absent ≡ get_or l d absent
  there d e = get_or-set_other l c d x absent (eqb_ne d c e)

  -- a connected client stays connected, if the new state is connected; or if it is another
  still : x.connected ≡ true → (w : Option ℕ) → Present l w → Present (set l c x) w
  still t None p = tt
  still t (Some d) p = elim (tested (eqb d c)) [
    | passed f ↦ rw (eqb_eq d c f) (ap (λ (y : Link). y.connected) here ∙ t)
    | failed f ↦ ap (λ (y : Link). y.connected) (there d f) ∙ p
  ]

  others : (w : Option ℕ) → Present l w → Present (set l c x) (without w c)
  others None p = tt
  others (Some d) p = elim (tested (eqb d c)) [
    | passed f ↦ rw f tt
    | failed f ↦ rw f (ap (λ (y : Link). y.connected) (there d f) ∙ p)
  ]

module _ (k : Console) (l : Links k) (c : ℕ) (h : c ≤ 3) where
  links_with : (x : Link) → (x.indicating ≡ true → x.connected ≡ true) → (m : Machine) (w : Option ℕ) → Present (set k.clients c x) w →
      Present (set k.clients c x) m.holder → Links (record { machine = m; clients = set k.clients c x; awaited = w })
  links_with x t m w p q = record {
    four = length-set k.clients c x ∙ l.four;
    indicating_connected = λ d e. elim (tested (eqb d c)) [
      | passed f ↦
          let g : get_or (set k.clients c x) d absent ≡ x = rw (eqb_eq d c f) (here k.clients l.four c h x) in
          ap (λ (y : Link). y.connected) g ∙ t (sym (ap (λ (y : Link). y.indicating) g) ∙ e)
      | failed f ↦
          let g : get_or (set k.clients c x) d absent ≡ client_at k d = there k.clients l.four c h x d f in
          ap (λ (y : Link). y.connected) g ∙ l.indicating_connected d (sym (ap (λ (y : Link). y.indicating) g) ∙ e)
    ];
    awaited_connected = p;
    holder_connected = q;
  }

  -- a client is connected, with indications on or off
  links_joined : (on : Bool) → Links (with_client k c (record { connected = true; indicating = on }))
  links_joined on =
      let x : Link = record { connected = true; indicating = on } in
      let p : (w : Option ℕ) → Present k.clients w → Present (set k.clients c x) w = still k.clients l.four c h x refl in
      links_with x (λ t. refl) k.machine k.awaited (p k.awaited l.awaited_connected) (p k.machine.holder l.holder_connected)

  links_gone : Links (record { machine = freed k.machine c; clients = set k.clients c absent; awaited = without k.awaited c })
  links_gone =
      let p : (w : Option ℕ) → Present k.clients w → Present (set k.clients c absent) (without w c) = others k.clients l.four c h absent in
      links_with absent (λ t. t) (freed k.machine c) (without k.awaited c)
      (p k.awaited l.awaited_connected) (p k.machine.holder l.holder_connected)

links_who : (k : Console) → Links k → (m : Machine) (w : Option ℕ) → Present k.clients w → Present k.clients m.holder →
    Links (record { machine = m; clients = k.clients; awaited = w })
links_who k l m w p q = record { four = l.four; indicating_connected = l.indicating_connected; awaited_connected = p; holder_connected = q }

-- ---- a run

no_run : on Off ≡ true → ⊥
no_run e = true≢false (sym e)

-- a client that holds control is someone
held_someone : (w : Option ℕ) (c : ℕ) → is w c ≡ true → someone w ≡ true
held_someone None c e = absurd (true≢false (sym e))
held_someone (Some d) c e = refl

-- a run that is on after a client has gone is another's
run_gone : (w : Option ℕ) (c : ℕ) (r : Run) → (on r ≡ true → someone w ≡ true) → on (cond (is w c) Off r) ≡ true → someone (without w c) ≡ true
run_gone w c r h e = elim (tested (is w c)) [
  | passed t ↦ absurd (no_run (rw t at e))
  | failed t ↦ rw t (h (rw t at e))
]

-- a run that is on after a speed was on before it
run_fed : (t : TargetSpeeds) (r : Run) (v : ℕ) → on (run_at t r v) ≡ true → on r ≡ true
run_fed t Off v e = e
run_fed t Quiet v e = refl
run_fed t Warned v e = refl

-- ---- settings

module _ (k : Console) (s : Sound k) (c o : ℕ) (p : List ℕ) (x : OpCode) (e : op_code o ≡ Some x)
    (g : fit k.machine.setup.ranges x p ≡ true) where
  stored_right : (a : ℕ) → x.act ≡ Stores a → (i : ℕ) →
      Right k.machine.setup.ranges (op_code i) (setting (storing k.machine (placed k.machine.settings a p)) i)
  stored_right a f i =
      let n : length p ≡ size x.parameter = length_fit k.machine.setup.ranges x p g in
      elim (tested (eqb i o)) [
        | passed t ↦ rw (eqb_eq i o t, stored_same k.machine o x a p e f n s.room, e) (set_to n (allowed_fit k.machine.setup.ranges x p g))
        | failed t ↦ rw (stored_other k.machine o x a p e f n i (eqb_ne i o t)) (s.right i)
      ]

  -- a machine with the same holder and settings, and a run only if there is a holder
  same_holder : is_connected k c ≡ true → (a : Mode) (r : Run) → (on r ≡ true → someone k.machine.holder ≡ true) →
      Sound (responding k (spinning (going k.machine a) r) c)
  unfolding setting
  same_holder j a r h = record {
    links = links_who k s.links _ (Some c) j s.links.holder_connected;
    room = s.room;
    right = s.right;
    run_held = h;
  }

  sound_done : is_connected k c ≡ true → (a : Act) → x.act ≡ a → controls k.machine.holder c a ≡ true → Sound (responding k (done k.machine c a p) c)
  unfolding setting
  sound_done j TakesControl f w =
      record { links = links_who k s.links _ (Some c) j j; room = s.room; right = s.right; run_held = λ e. refl }
  sound_done j Resets f w =
      record { links = links_who k s.links _ (Some c) j tt; room = refl; right = λ i. at_zero (zero_at i); run_held = λ e. absurd (no_run e) }
  sound_done j Starts f w = same_holder j Running k.machine.run s.run_held
  sound_done j Halts f w = same_holder j (halted_to (number 1 p)) k.machine.run s.run_held
  sound_done j SpinsDown f w = same_holder j k.machine.mode (spun_to (number 1 p)) (λ e. held_someone k.machine.holder c w)
  sound_done j (Stores a) f w = record {
    links = links_who k s.links _ (Some c) j s.links.holder_connected;
    room = length-sets k.machine.settings a p ∙ s.room;
    right = stored_right a f;
    run_held = s.run_held;
  }

-- ---- calls

sound_stepped : (k : Console) {q : Call} {x : Answer Sent × Console} → Sound k → Stepped k q x → Sound x.1
unfolding setting
sound_stepped k s (refusal n l g) = s
sound_stepped k s (connected c h e) = record { links = links_joined k s.links c h false; room = s.room; right = s.right; run_held = s.run_held }
sound_stepped k s (gone c h e) = record {
  links = links_gone k s.links c h;
  room = s.room;
  right = s.right;
  run_held = run_gone k.machine.holder c k.machine.run s.run_held;
}
sound_stepped k s (indicated c on h e) = record { links = links_joined k s.links c h on; room = s.room; right = s.right; run_held = s.run_held }
sound_stepped k s (confirmed c h e f) =
    record { links = links_who k s.links k.machine None tt s.links.holder_connected; room = s.room; right = s.right; run_held = s.run_held }
sound_stepped k s (denied c o p h r n) = record {
  links = links_who k s.links k.machine (Some c) h.joined s.links.holder_connected;
  room = s.room;
  right = s.right;
  run_held = s.run_held;
}
sound_stepped k s (granted c o p h x e g) = sound_done k s c o p x e g.suits h.joined x.act refl g.controlled
sound_stepped k s (fed v) = record {
  links = links_who k s.links _ k.awaited s.links.awaited_connected s.links.holder_connected;
  room = s.room;
  right = s.right;
  run_held = λ e. s.run_held (run_fed k.machine.setup.speeds k.machine.run v e);
}

pub sound_step : (k : Console) (q : Call) → Sound k → Sound (step k q).1
sound_step k q s = sound_stepped k s (steps k q)

-- ---- sequences of calls from opening

pub all_absent : (n c : ℕ) → get_or (replicate n absent) c absent ≡ absent
all_absent zero c = refl
all_absent (suc n) zero = refl
all_absent (suc n) (suc c) = all_absent n c

pub sound_first : (s : Setup) → Sound (first s)
unfolding setting
sound_first s = record {
  links = record {
    four = refl;
    indicating_connected = λ c e. ap (λ (x : Link). x.connected) (all_absent 4 c) ∙ sym (ap (λ (x : Link). x.indicating) (all_absent 4 c)) ∙ e;
    awaited_connected = tt;
    holder_connected = tt;
  };
  room = refl;
  right = λ o. at_zero (zero_at o);
  run_held = λ e. absurd (no_run e);
}

-- the console that opening gives
pub opened_first : (o : Opening) (k : Console) → opened o ≡ given k → (f : Feature) × (k ≡ first (setup_of f o))
unfolding opened
opened_first o k e = from (feature_of o.feature) e
  where
    from : (a : Answer Feature) → open_with a o.ranges o.speeds ≡ given k → (f : Feature) × (k ≡ first (setup_of f o))
    from (refused n) e = absurd (let z : ◌≡◌ {A = ℕ} 0 1 = cc in omega arith)
    from (given f) e =
        elim (tested (usable (setup_of f o))) [
          | passed g ↦ (f, let h : given (first (setup_of f o)) ≡ given k = rw g at e in cc)
          | failed g ↦ absurd (let h : ◌≡◌ {A = Answer Console} (refused 16) (given k) = rw g at e in let z : ◌≡◌ {A = ℕ} 0 1 = cc in omega arith)
        ]

-- what a call keeps, a sequence of calls keeps
pub run_keeps : (P : Console → Type 0) → ((k : Console) (q : Call) → P k → P (step k q).1) →
    (k : Console) (past : List Event) (qs : List Call) → P k → P (run service k past qs).1
unfolding run
run_keeps P h k past [] p = p
run_keeps P h k past (q ∷ qs) p = run_keeps P h (step k q).1 (event q (step k q).0 ∷ past) qs (h k q p)

pub sound_after : (o : Opening) (k : Console) → opened o ≡ given k → (qs : List Call) → Sound (run service k [] qs).1
sound_after o k e qs =
    let f : (f : Feature) × (k ≡ first (setup_of f o)) = opened_first o k e in
    run_keeps Sound sound_step k [] qs (rw f.1 (sound_first (setup_of f.0 o)))
