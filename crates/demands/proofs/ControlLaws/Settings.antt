-- Each setting after any sequence of calls is the one that the history says; and only the holder's writes change one.
use Rattle.std.specs.Prelude.{Some}
use Prim.Native.Nat.{ℕ}
use mathlib.Core.Path.{◌≡◌, refl, sym, ap, ◌∙◌}
use mathlib.Core.Bool.{true, false, cond, true≢false}
use mathlib.Core.List.{List, [], ◌∷◌}
use native.Mathlib.Omega.{arith}
use lib.Dec.{eqb}
use lib.ListN.{length}
use Rattle.record.specs.declared.feature.Feature.{Feature}
use Rattle.record.specs.Answer.{Answer, given}
use Rattle.record.proofs.Tests.{passed, failed, tested, eqb_eq, eqb_ne, eqb_false}
use Rattle.service.specs.declared.control.Console.{Console}
use Rattle.service.specs.declared.control.machine.Machine.{Machine}
use Rattle.service.specs.declared.control.op_codes.OpCode.{OpCode}
use Rattle.service.specs.declared.control.op_codes.Act.{Act}
use Rattle.service.specs.declared.control.op_codes.Act.TheVariants.{TakesControl, Resets, Starts, Halts, Stores, SpinsDown}
use Rattle.service.specs.declared.control.judging.WriteResult.TheVariants.{Success}
use Rattle.service.specs.Control.OpCodes.{op_code}
use Rattle.service.specs.Control.Parameters.{size}
use Rattle.service.specs.Control.Judging.{result_number, controls}
use Rattle.service.specs.Control.Effects.{done, setting}
use Rattle.service.specs.Control.Console.{first}
use Rattle.service.specs.Control.Replies.{Sent}
use Rattle.service.specs.Control.Calls.{Opening, opened, writes}
use Rattle.service.proofs.ControlLaws.Fits.{length_fit}
use Rattle.service.proofs.ControlLaws.Answers.{setup_of}
use Rattle.demands.specs.Control.Point.{Call, write, service, Event, event, step, run}
use Rattle.demands.specs.Control.Laws.{Sound, keeps, stores, zero_setting, parameter, result_in, succeeded, setting_by}
use Rattle.demands.specs.Control.History.{SettingByHistory}
use Rattle.demands.proofs.ControlLaws.Numbers.{Number, number_so, not_01}
use Rattle.demands.proofs.ControlLaws.Steps.{Stepped, refusal, connected, gone, indicated, confirmed, denied, granted, fed, steps}
use Rattle.demands.proofs.ControlLaws.Places.{stored_same, stored_other, zero_at}
use Rattle.demands.proofs.ControlLaws.Kept.{opened_first, sound_first, sound_step}
use Rattle.demands.proofs.ControlLaws.Changes.{is_client}

-- a setting after one more event
next : ℕ → Event → List ℕ → List ℕ
next o e before = cond (succeeded 0x01 e) (zero_setting (op_code o)) (cond (succeeded o e) (parameter e.call) before)

-- ---- one call

module _ (m : Machine) (w : length m.settings ≡ 49) (c i : ℕ) (y : OpCode) (e : op_code i ≡ Some y) (p : List ℕ)
    (n : length p ≡ size y.parameter) where
  module _ (o : ℕ) (t : stores (op_code o) ≡ true) where
    -- an op code that stores nothing is not the op code of this setting
    elsewhere : keeps y.act ≡ false → eqb i o ≡ false
    elsewhere f = eqb_false (λ (q : i ≡ o). true≢false (sym t ∙ ap (λ (j : ℕ). stores (op_code j)) (sym q) ∙ rw e f))

    untouched : keeps y.act ≡ false → (i ≡ 1 → ⊥) → setting m o ≡ cond (eqb i 0x01) (zero_setting (op_code o)) (cond (eqb i o) p (setting m o))
    untouched f h = rw (eqb_false h, elsewhere f)

    -- a write that succeeds resets the setting, stores it, or leaves it
    next_done : (a : Act) → y.act ≡ a → Number i a →
        setting (done m c a p) o ≡ cond (eqb i 0x01) (zero_setting (op_code o)) (cond (eqb i o) p (setting m o))
    next_done TakesControl f h = unfold setting in untouched (rw f) (λ (q : i ≡ 1). omega arith)
    next_done Resets f h = rw h (unfold setting in zero_at o)
    next_done Starts f h = unfold setting in untouched (rw f) (λ (q : i ≡ 1). omega arith)
    next_done Halts f h = unfold setting in untouched (rw f) (λ (q : i ≡ 1). omega arith)
    next_done SpinsDown f h = unfold setting in untouched (rw f) (λ (q : i ≡ 1). omega arith)
    next_done (Stores b) f h = rw (eqb_false (λ (q : i ≡ 1). omega arith)) (elim (tested (eqb i o)) [
      | passed t ↦ rw (t, ← eqb_eq i o t) (stored_same m i y b p e f n w)
      | failed t ↦ rw t (stored_other m i y b p e f n o (λ (q : o ≡ i). eqb_ne i o t (sym q)))
    ])

next_stepped : (k : Console) → Sound k → (o : ℕ) → stores (op_code o) ≡ true → {q : Call} {x : Answer Sent × Console} → Stepped k q x →
    setting x.1.machine o ≡ next o (event q x.0) (setting k.machine o)
unfolding next setting
next_stepped k s o t (refusal n l g) = refl
next_stepped k s o t (connected c h f) = refl
next_stepped k s o t (gone c h f) = refl
next_stepped k s o t (indicated c on h f) = refl
next_stepped k s o t (confirmed c h f g) = refl
next_stepped k s o t (denied c i p h r f) = rw (not_01 r f)
next_stepped k s o t (granted c i p h y e g) =
    next_done k.machine s.room c i y e p (length_fit k.machine.setup.ranges y p g.suits) o t y.act refl (number_so i y e)
next_stepped k s o t (fed v) = refl

-- ---- sequences of calls

follows : (o : ℕ) → stores (op_code o) ≡ true → (k : Console) → Sound k → (past : List Event) (qs : List Call) →
    setting k.machine o ≡ setting_by o past →
    setting (run service k past qs).1.machine o ≡ setting_by o (run service k past qs).0
unfolding run
follows o t k s past [] f = f
follows o t k s past (q ∷ qs) f =
    follows o t (step k q).1 (sound_step k q s) (event q (step k q).0 ∷ past) qs
    (next_stepped k s o t (steps k q) ∙ (unfold next setting_by in ap (next o (event q (step k q).0)) f))

pub setting_by_history : (o : Opening) (k : Console) → opened o ≡ given k → (qs : List Call) → (i : ℕ) → stores (op_code i) ≡ true →
    setting (run service k [] qs).1.machine i ≡ setting_by i (run service k [] qs).0
setting_by_history o k e qs i t =
    let f : (f : Feature) × (k ≡ first (setup_of f o)) = opened_first o k e in
    follows i t k (rw f.1 (sound_first (setup_of f.0 o))) [] qs (rw f.1 (unfold setting setting_by in zero_at i))

-- the same as a law on any control point that keeps a console
pub settings_remembered : SettingByHistory service
settings_remembered i t o k e qs = setting_by_history o k e qs i t

-- ---- a write of an op code that stores succeeds only for the holder
pub granted_to_holder : (k : Console) (c o : ℕ) (p : List ℕ) → stores (op_code o) ≡ true → result_in (writes k c (o ∷ p)).0 ≡ result_number Success →
    k.machine.holder ≡ Some c
granted_to_holder k c o p t h = from (steps k (write c (o ∷ p))) h
  where
    from_act : (a : Act) → keeps a ≡ true → controls k.machine.holder c a ≡ true → k.machine.holder ≡ Some c
    from_act TakesControl e f = absurd (true≢false (sym e))
    from_act Resets e f = is_client k.machine.holder c f
    from_act Starts e f = is_client k.machine.holder c f
    from_act Halts e f = is_client k.machine.holder c f
    from_act (Stores at) e f = is_client k.machine.holder c f
    from_act SpinsDown e f = is_client k.machine.holder c f

    from : {x : Answer Sent × Console} → Stepped k (write c (o ∷ p)) x → result_in x.0 ≡ result_number Success → k.machine.holder ≡ Some c
    from (refusal n l g) f = absurd (omega arith)
    from (denied c o p i r e) f = absurd (eqb_ne (result_number r) 1 (not_01 r e) f)
    from (granted c o p i x e g) f = from_act x.act (rw e at t) g.controlled
