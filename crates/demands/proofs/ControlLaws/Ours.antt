-- The code that runs: answers that meet its contracts are the service's, so that every law of the service is a law of the code.
use Rattle.std.specs.Prelude.{Some}
use Prim.Native.Nat.{ℕ, ◌≤◌}
use mathlib.Core.Path.{◌≡◌, refl, sym, ap, ◌∙◌}
use mathlib.Core.Logic.{◌⊎◌}
use mathlib.Core.Bool.{Bool, true, false}
use mathlib.Core.List.{List, [], ◌∷◌}
use base.Fml.{Lft}
use denote.Ref.{Bor}
use Rattle.record.specs.declared.feature.Feature.{Feature}
use Rattle.record.specs.Answer.{Answer, refused, given}
use Rattle.record.specs.Feature.{feature_of}
use Rattle.service.specs.declared.control.Console.{Console}
use Rattle.service.specs.declared.control.Reply.{Reply}
use Rattle.service.specs.declared.control.spin_down.TargetSpeeds.{TargetSpeeds}
use Rattle.service.specs.declared.control.ranges.Ranges.{Ranges}
use Rattle.service.specs.declared.control.judging.WriteResult.TheVariants.{Success}
use Rattle.service.specs.Control.OpCodes.{op_code}
use Rattle.service.specs.Control.SpinDown.{on}
use Rattle.service.specs.Control.Judging.{result_number}
use Rattle.service.specs.Control.Effects.{setting}
use Rattle.service.specs.Control.Console.{is_connected, is_indicating}
use Rattle.service.specs.Control.Replies.{Sent, refusal_of, accepts, meant}
use Rattle.service.specs.Control.Calls.{Opening, opening, opened, open_reply}
use Rattle.service.proofs.control.Console.open.Reads as open_code
use Rattle.service.proofs.control.Console.connect.Reads as connect_code
use Rattle.service.proofs.control.Console.disconnect.Reads as disconnect_code
use Rattle.service.proofs.control.Console.indicate.Reads as indicate_code
use Rattle.service.proofs.control.Console.confirm.Reads as confirm_code
use Rattle.service.proofs.control.Console.write.Reads as write_code
use Rattle.service.proofs.control.Console.flywheel.Reads as flywheel_code
use Rattle.demands.specs.Control.Point.{Call, connect, disconnect, confirm, indicate, write, flywheel, Point, service, Event, event, step, run, Answers}
use Rattle.demands.specs.Control.Laws.{Sound, stores, by, result_in, holder_by, setting_by, Heard, Unchanged, ByAnother, Spared}
use Rattle.demands.specs.Control.History.{mode_by, awaited_by, connected_by, indicating_by}
use Rattle.demands.specs.Control.Runs.{led_by, run_of, words, spoken}
use Rattle.demands.specs.Control.Answered.{answer_by, OctetIn}
use Rattle.demands.specs.Control.Increments.{Target, op, GrantsSteps, DecidesSteps, Settled}
use Rattle.demands.proofs.ControlLaws.Kept.{sound_step, sound_after}
use Rattle.demands.proofs.ControlLaws.Changes.{refusals, by_another}
use Rattle.demands.proofs.ControlLaws.History.{holder_by_history}
use Rattle.demands.proofs.ControlLaws.Remembered.{mode_by_history, awaited_by_history, connected_by_history, indicating_by_history}
use Rattle.demands.proofs.ControlLaws.Runs.{run_by_history, says_by_run, outside_run}
use Rattle.demands.proofs.ControlLaws.Answered.{answers_by_history}
use Rattle.demands.proofs.ControlLaws.Settings.{setting_by_history, granted_to_holder}
use Rattle.demands.proofs.ControlLaws.Alive.{alive_after}
use Rattle.demands.proofs.ControlLaws.Demanded.{answers_told}
use Rattle.demands.proofs.ControlLaws.Targets.{grants_steps, decides_steps, settings_settled}
use Rattle.demands.proofs.ControlLaws.Meets.{by_reading, read_same}

-- the console that a reply to an opening gives, unless it refuses
abbrev pub console_of : Answer Sent × Console → Answer Console
console_of x = from x.0 x.1
  where
    from : Answer Sent → Console → Answer Console
    from (refused n) k = refused n
    from (given s) k = given k

-- what the code may answer to an opening, by its contract
pub data DidOpen : Opening → Answer Console → Type 0 where
  did_open : (κ : Lft) (s : Bor (List ℕ)) (r : Ranges) (t : TargetSpeeds) (y : Reply) (e : Bor (List ℕ) × (Ranges × (TargetSpeeds × Unit {0}))) →
      open_code.Post (κ, tt) (s, (r, (t, tt))) y e → DidOpen (opening s.now r t) (console_of (meant y))

-- what the code may answer to a call, by its contract, and the console that it leaves
pub data Did (k : Console) : Call → Answer Sent × Console → Type 0 where
  did_connect : (c : ℕ) (y : Reply) (e : Console × (ℕ × Unit {0})) → connect_code.Post tt (k, (c, tt)) y e → Did k (connect c) (meant y)
  did_disconnect : (c : ℕ) (y : Reply) (e : Console × (ℕ × Unit {0})) → disconnect_code.Post tt (k, (c, tt)) y e → Did k (disconnect c) (meant y)
  did_confirm : (c : ℕ) (y : Reply) (e : Console × (ℕ × Unit {0})) → confirm_code.Post tt (k, (c, tt)) y e → Did k (confirm c) (meant y)
  did_indicate : (c : ℕ) (on : Bool) (y : Reply) (e : Console × (ℕ × (Bool × Unit {0}))) →
      indicate_code.Post tt (k, (c, (on, tt))) y e → Did k (indicate c on) (meant y)
  did_write : (κ : Lft) (c : ℕ) (s : Bor (List ℕ)) (y : Reply) (e : Console × (ℕ × (Bor (List ℕ) × Unit {0}))) →
      write_code.Post (κ, tt) (k, (c, (s, tt))) y e → Did k (write c s.now) (meant y)
  did_flywheel : (v : ℕ) (y : Reply) (e : Console × (ℕ × Unit {0})) → flywheel_code.Post tt (k, (v, tt)) y e → Did k (flywheel v) (meant y)

pub console_again : (a : Answer Console) → console_of (open_reply a) ≡ a
console_again (refused n) = refl
console_again (given k) = refl

pub opens_alike : {o : Opening} {a : Answer Console} → DidOpen o a → a ≡ opened o
opens_alike (did_open κ s r t y e p) = ap console_of p.means ∙ console_again (opened (opening s.now r t))

pub steps_alike : {k : Console} {q : Call} {x : Answer Sent × Console} → Did k q x → x ≡ step k q
steps_alike (did_connect c y e p) = p.means
steps_alike (did_disconnect c y e p) = p.means
steps_alike (did_confirm c y e p) = p.means
steps_alike (did_indicate c on y e p) = p.means
steps_alike (did_write κ c s y e p) = p.means
steps_alike (did_flywheel v y e p) = p.means

-- ---- one call of the code: what it may change

module _ {k : Console} {q : Call} {x : Answer Sent × Console} (d : Did k q x) where
  pub ours_refusals : (refusal_of x.0 ≡ 0) ⊎ Unchanged k x
  ours_refusals = rw (steps_alike d) (refusals k q)

  pub ours_spares : ByAnother k q → Spared k.machine (by q) x.1.machine
  ours_spares h = rw (steps_alike d) (by_another k q h)

  pub ours_keeps : Sound k → Sound x.1
  ours_keeps s = rw (steps_alike d) (sound_step k q s)

-- a write of an op code that stores succeeds only for the holder
pub ours_to_holder : {k : Console} {c o : ℕ} {p : List ℕ} {x : Answer Sent × Console} → Did k (write c (o ∷ p)) x → stores (op_code o) ≡ true →
    result_in x.0 ≡ result_number Success → k.machine.holder ≡ Some c
ours_to_holder {k} {c} {o} {p} d t h = granted_to_holder k c o p t (rw (steps_alike d) at h)

-- outside a run a speed says nothing and changes nothing
pub ours_outside : {k : Console} {v : ℕ} {x : Answer Sent × Console} → Did k (flywheel v) x → on k.machine.run ≡ false → x ≡ accepts k
ours_outside {k} {v} d h = steps_alike d ∙ outside_run k v h

-- ---- "control point answers and status octets are those of Fitness Machine Service 1.0": whoever answers as the contracts of the code say

pub record ByContract (p : Point Console) : Type 0 where
  pub opens : (o : Opening) → DidOpen o (p.opening o)
  pub steps : (k : Console) (q : Call) → Did k q (p.calling k q)

pub ours_answers : (p : Point Console) → ByContract p → Answers p
ours_answers p h = by_reading p (record {
  read = λ k. k;
  opens = λ o. read_same (p.opening o) ∙ opens_alike (h.opens o);
  replies = λ k q. ap (λ (x : Answer Sent × Console). x.0) (steps_alike (h.steps k q));
  moves = λ k q. ap (λ (x : Answer Sent × Console). x.1) (steps_alike (h.steps k q));
})

-- it grants the targets on the steps and no others
pub ours_grants : (p : Point Console) → ByContract p → GrantsSteps p
ours_grants p h = grants_steps p (answers_told p (ours_answers p h))

pub ours_decides : (p : Point Console) → ByContract p → DecidesSteps p
ours_decides p h = decides_steps p (answers_told p (ours_answers p h))

-- ---- sequences of calls of the code

pub data Ran : Console → List Event → List Call → List Event × Console → Type 0 where
  over : {k : Console} {past : List Event} → Ran k past [] (past, k)
  then : {k : Console} {past : List Event} {q : Call} {qs : List Call} {x : Answer Sent × Console} {z : List Event × Console} →
      Did k q x → Ran x.1 (event q x.0 ∷ past) qs z → Ran k past (q ∷ qs) z

pub runs_alike : {k : Console} {past : List Event} {qs : List Call} {z : List Event × Console} → Ran k past qs z → z ≡ run service k past qs
unfolding run
runs_alike over = refl
runs_alike {past = past} (then {q = q} {qs = qs} d r) =
    runs_alike r ∙ ap (λ (x : Answer Sent × Console). run service x.1 (event q x.0 ∷ past) qs) (steps_alike d)

-- after any sequence of calls from an opening with these target speeds on, what happened and the console: it is sound; its holder, mode, awaited
-- response, clients, each setting and its run are what the history says; who started the run holds control; what was said since is what its speeds
-- say; and each client can be brought to write again
pub record Lawful (t : TargetSpeeds) (z : List Event × Console) : Type 0 where
  pub sound : Sound z.1
  pub holder_so : z.1.machine.holder ≡ holder_by z.0 []
  pub mode_so : z.1.machine.mode ≡ mode_by z.0
  pub awaited_so : z.1.awaited ≡ awaited_by z.0
  pub connected_so : (c : ℕ) → is_connected z.1 c ≡ connected_by c z.0
  pub indicating_so : (c : ℕ) → is_indicating z.1 c ≡ indicating_by c z.0
  pub setting_so : (i : ℕ) → stores (op_code i) ≡ true → setting z.1.machine i ≡ setting_by i z.0
  pub run_so : z.1.machine.run ≡ run_of t (led_by t z.0)
  pub starter_so : (led_by t z.0).on ≡ true → z.1.machine.holder ≡ (led_by t z.0).starter
  pub spoken_so : spoken z.0 ≡ words t (led_by t z.0).speeds
  pub alive : (c : ℕ) → c ≤ 3 → (more : List Call) × Heard (run service z.1 [] more).1 c

pub ours_lawful : {o : Opening} {k : Console} {qs : List Call} {z : List Event × Console} → DidOpen o (given k) → Ran k [] qs z → Lawful o.speeds z
ours_lawful {o} {k} {qs} d ran =
    let e : opened o ≡ given k = sym (opens_alike d) in
    rw (runs_alike ran) (record {
      sound = sound_after o k e qs;
      holder_so = holder_by_history o k e qs;
      mode_so = mode_by_history o k e qs;
      awaited_so = awaited_by_history o k e qs;
      connected_so = λ c. connected_by_history c o k e qs;
      indicating_so = λ c. indicating_by_history c o k e qs;
      setting_so = λ i t. setting_by_history o k e qs i t;
      run_so = run_by_history.run_so o k e qs;
      starter_so = run_by_history.starter_holds o k e qs;
      spoken_so = says_by_run o k e qs;
      alive = λ c h. alive_after o k e qs c h;
    })

-- each of the five targets is zero, or on a step of the range that the machine was opened with
pub ours_settled : {o : Opening} {k : Console} {qs : List Call} {z : List Event × Console} → DidOpen o (given k) → Ran k [] qs z →
    (t : Target) → Settled o.ranges t (setting z.1.machine (op t))
ours_settled {o} {k} {qs} d ran t = rw (runs_alike ran) (settings_settled o k (sym (opens_alike d)) qs t)

-- and whatever the code answers next is what the history and the rules of the op codes say
pub ours_answered : {o : Opening} {k : Console} {qs : List Call} {z : List Event × Console} {q : Call} {x : Answer Sent × Console} →
    DidOpen o (given k) → Ran k [] qs z → Did z.1 q x → (f : Feature) → feature_of o.feature ≡ given f → OctetIn q →
    x.0 ≡ answer_by (record { feature = f; ranges = o.ranges; speeds = o.speeds }) z.0 q
ours_answered {o} {k} {qs} {z} {q} d ran did f e w =
    ap (λ (x : Answer Sent × Console). x.0) (steps_alike did) ∙ ap (λ (z : List Event × Console). (step z.1 q).0) (runs_alike ran) ∙
    answers_by_history.answers o f e k (sym (opens_alike d)) qs q w ∙
    ap (λ (z : List Event × Console). answer_by (record { feature = f; ranges = o.ranges; speeds = o.speeds }) z.0 q) (sym (runs_alike ran))
