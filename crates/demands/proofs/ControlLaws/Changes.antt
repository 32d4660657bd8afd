-- What each call leaves as it was.
use Rattle.std.specs.Prelude.{Option, None, Some}
use Prim.Native.Nat.{ℕ, ◌≤◌}
use mathlib.Core.Path.{◌≡◌, refl, sym, ap, ◌∙◌}
use mathlib.Core.Logic.{◌⊎◌, inl, inr}
use mathlib.Core.Bool.{true, false, true≢false}
use mathlib.Core.List.{List, []}
use native.Mathlib.Omega.{arith}
use Rattle.record.specs.declared.feature.Feature.{Feature}
use Rattle.record.specs.Answer.{Answer, given}
use Rattle.record.specs.Octets.{number}
use Rattle.record.proofs.Tests.{passed, failed, tested, eqb_eq}
use Rattle.service.specs.declared.control.Console.{Console}
use Rattle.service.specs.declared.control.machine.Machine.{Machine}
use Rattle.service.specs.declared.control.op_codes.Act.{Act}
use Rattle.service.specs.declared.control.op_codes.Act.TheVariants.{TakesControl, Resets, Starts, Halts, Stores, SpinsDown}
use Rattle.service.specs.Control.Machine.{is, someone, without}
use Rattle.service.specs.Control.Judging.{controls, fails}
use Rattle.service.specs.Control.Effects.{done}
use Rattle.service.specs.Control.Console.{awaiting, first}
use Rattle.service.specs.Control.Replies.{Sent, refusal_of, status_of}
use Rattle.service.specs.Control.Calls.{Opening, opened, disconnects, writes}
use Rattle.service.proofs.ControlLaws.Answers.{setup_of}
use Rattle.demands.specs.Control.Point.{Call, disconnect, write, step, service, run}
use Rattle.demands.specs.Control.Laws.{by, result_in, Unchanged, ByAnother, Spared}
use Rattle.demands.proofs.ControlLaws.Kept.{opened_first, run_keeps}
use Rattle.demands.proofs.ControlLaws.Steps.{Stepped, refusal, connected, gone, indicated, confirmed, denied, granted, fed, steps}

pub is_client : (w : Option ℕ) (c : ℕ) → is w c ≡ true → w ≡ Some c
is_client None c e = absurd (true≢false (sym e))
is_client (Some d) c e = ap Some (eqb_eq d c e)

pub without_other : (w : Option ℕ) (c : ℕ) → (w ≡ Some c → ⊥) → without w c ≡ w
without_other w c n = elim (tested (is w c)) [
  | passed e ↦ absurd (n (is_client w c e))
  | failed e ↦ rw e
]

is_other : (w : Option ℕ) (c : ℕ) → (w ≡ Some c → ⊥) → is w c ≡ false
is_other w c n = elim (tested (is w c)) [
  | passed e ↦ absurd (n (is_client w c e))
  | failed e ↦ e
]

nobody_left : (w : Option ℕ) → someone w ≡ false → w ≡ None
nobody_left None e = refl
nobody_left (Some d) e = absurd (true≢false e)

-- ---- refusals
refused_or_not : (k : Console) {q : Call} {x : Answer Sent × Console} → Stepped k q x → (refusal_of x.0 ≡ 0) ⊎ Unchanged k x
refused_or_not k (refusal n l g) = inr (record { at_least = l; at_most = g; no_response = refl; no_status = refl; same = refl })
refused_or_not k (connected c h e) = inl refl
refused_or_not k (gone c h e) = inl refl
refused_or_not k (indicated c on h e) = inl refl
refused_or_not k (confirmed c h e f) = inl refl
refused_or_not k (denied c o p h r e) = inl refl
refused_or_not k (granted c o p h x e g) = inl refl
refused_or_not k (fed v) = inl refl

pub refusals : (k : Console) (q : Call) → (refusal_of (step k q).0 ≡ 0) ⊎ Unchanged k (step k q)
refusals k q = refused_or_not k (steps k q)

-- ---- "Each then awaits confirmation; 02 to 05 change nothing else."
only_awaits : (k : Console) {q : Call} {x : Answer Sent × Console} → Stepped k q x → 2 ≤ result_in x.0 →
    (status_of x.0 ≡ []) × (x.1 ≡ awaiting k (by q))
only_awaits k (refusal n l g) h = absurd (omega arith)
only_awaits k (connected c i e) h = absurd (omega arith)
only_awaits k (gone c i e) h = absurd (omega arith)
only_awaits k (indicated c on i e) h = absurd (omega arith)
only_awaits k (confirmed c i e f) h = absurd (omega arith)
only_awaits k (denied c o p i r e) h = (refl, refl)
only_awaits k (granted c o p i x e g) h = absurd (omega arith)
only_awaits k (fed v) h = absurd (omega arith)

pub results_02_to_05 : (k : Console) (c : ℕ) (s : List ℕ) → 2 ≤ result_in (writes k c s).0 →
    (status_of (writes k c s).0 ≡ []) × ((writes k c s).1 ≡ awaiting k (Some c))
results_02_to_05 k c s h = only_awaits k (steps k (write c s)) h

-- ---- a call that the holder did not make
module _ (m : Machine) (w : Option ℕ) where
  spared : {n : Machine} → n.settings ≡ m.settings → n.mode ≡ m.mode → n.setup ≡ m.setup → n.holder ≡ m.holder →
      (n.run ≡ m.run) ⊎ (w ≡ None) → Spared m w n
  spared a b d e r = record { same_settings = a; same_mode = b; same_setup = d; same_run = r; holder_or_new = inl e }

spared_done : (m : Machine) (c : ℕ) → (m.holder ≡ Some c → ⊥) → (p : List ℕ) (a : Act) → controls m.holder c a ≡ true →
    fails m c a (number 1 p) ≡ false →
    Spared m (Some c) (done m c a p)
spared_done m c n p TakesControl e f = record {
  same_settings = refl;
  same_mode = refl;
  same_setup = refl;
  same_run = inl refl;
  holder_or_new = inr (sym (without_other m.holder c n) ∙ nobody_left (without m.holder c) f, refl);
}
spared_done m c n p Resets e f = absurd (n (is_client m.holder c e))
spared_done m c n p Starts e f = absurd (n (is_client m.holder c e))
spared_done m c n p Halts e f = absurd (n (is_client m.holder c e))
spared_done m c n p (Stores at) e f = absurd (n (is_client m.holder c e))
spared_done m c n p SpinsDown e f = absurd (n (is_client m.holder c e))

another_stepped : (k : Console) {q : Call} {x : Answer Sent × Console} → Stepped k q x → ByAnother k q →
    Spared k.machine (by q) x.1.machine
another_stepped k {q} (refusal n l g) h = spared k.machine (by q) refl refl refl refl (inl refl)
another_stepped k (connected c i e) h = spared k.machine (Some c) refl refl refl refl (inl refl)
another_stepped k (gone c i e) h =
    let n : is k.machine.holder c ≡ false = is_other k.machine.holder c (λ e. h c e refl) in
    spared k.machine (Some c) refl refl refl (without_other k.machine.holder c (λ e. h c e refl)) (inl (rw n))
another_stepped k (indicated c on i e) h = spared k.machine (Some c) refl refl refl refl (inl refl)
another_stepped k (confirmed c i e f) h = spared k.machine (Some c) refl refl refl refl (inl refl)
another_stepped k (denied c o p i r e) h = spared k.machine (Some c) refl refl refl refl (inl refl)
another_stepped k (granted c o p i x e g) h = spared_done k.machine c (λ e. h c e refl) p x.act g.controlled g.right
another_stepped k (fed v) h = spared k.machine None refl refl refl refl (inr refl)

pub by_another : (k : Console) (q : Call) → ByAnother k q → Spared k.machine (by q) (step k q).1.machine
by_another k q h = another_stepped k (steps k q) h

-- ---- a disconnect, the holder's too, changes no setting and no mode
pub disconnect_spares : (k : Console) (c : ℕ) →
    ((disconnects k c).1.machine.settings ≡ k.machine.settings) × ((disconnects k c).1.machine.mode ≡ k.machine.mode)
disconnect_spares k c = from (steps k (disconnect c))
  where
    from : {x : Answer Sent × Console} → Stepped k (disconnect c) x →
        (x.1.machine.settings ≡ k.machine.settings) × (x.1.machine.mode ≡ k.machine.mode)
    from (refusal n l g) = (refl, refl)
    from (gone c i e) = (refl, refl)

-- ---- what was fixed at opening stays so
fixed_done : (m : Machine) (c : ℕ) (p : List ℕ) (a : Act) → (done m c a p).setup ≡ m.setup
fixed_done m c p TakesControl = refl
fixed_done m c p Resets = refl
fixed_done m c p Starts = refl
fixed_done m c p Halts = refl
fixed_done m c p (Stores at) = refl
fixed_done m c p SpinsDown = refl

fixed_stepped : (k : Console) {q : Call} {x : Answer Sent × Console} → Stepped k q x → x.1.machine.setup ≡ k.machine.setup
fixed_stepped k (refusal n l g) = refl
fixed_stepped k (connected c i e) = refl
fixed_stepped k (gone c i e) = refl
fixed_stepped k (indicated c on i e) = refl
fixed_stepped k (confirmed c i e f) = refl
fixed_stepped k (denied c o p i r e) = refl
fixed_stepped k (granted c o p i x e g) = fixed_done k.machine c p x.act
fixed_stepped k (fed v) = refl

pub fixed_at_opening : (k : Console) (q : Call) → (step k q).1.machine.setup ≡ k.machine.setup
fixed_at_opening k q = fixed_stepped k (steps k q)

-- so after any sequence of calls from opening on, the machine has what it was opened with
pub setup_after : (o : Opening) (k : Console) → opened o ≡ given k → (qs : List Call) →
    (f : Feature) × ((run service k [] qs).1.machine.setup ≡ setup_of f o)
setup_after o k e qs =
    let f : (f : Feature) × (k ≡ first (setup_of f o)) = opened_first o k e in
    (f.0, run_keeps (λ x. x.machine.setup ≡ setup_of f.0 o) (λ x q h. fixed_at_opening x q ∙ h) k [] qs (ap (λ (x : Console). x.machine.setup) f.1))
