-- The contracts of the code can be met: at every console and call some reply meets them, and the service itself is such a control point.
use Rattle.std.specs.Prelude.{Err}
use Prim.Native.Nat.{ℕ, zero, suc, ◌+◌, ◌-◌, ◌≤◌, ◌<◌}
use mathlib.Core.Path.{◌≡◌, refl, sym, ap, subst, ◌∙◌}
use mathlib.Core.List.{List, [], ◌∷◌}
use native.Mathlib.Omega.{arith}
use lib.Dec.{eqb, lit≤}
use lib.ListN.{length, get_or, get_or-map}
use denote.Ref.{Bor}
use Rattle.record.specs.Answer.{Answer}
use Rattle.record.specs.declared.feature.Feature.{Feature}
use Rattle.record.specs.declared.refusal.Refusal.{Refusal}
use Rattle.record.specs.declared.refusal.Refusal.TheVariants.{ClientAboveThree, UnknownKind, PayloadOutOfRange, NotWellFormed, OutputTooShort, NoSuchPart, UnusableSetup, ConnectionMismatch, EmptyWrite, IndicationsOff, ResponseAwaited, NothingDue, NotEightOctets}
use Rattle.record.specs.Refusal.{number_of}
use Rattle.record.specs.Feature.{named, words}
use Rattle.record.proofs.Tests.{passed, failed, tested}
use Rattle.service.specs.declared.control.Console.{Console}
use Rattle.service.specs.declared.control.Reply.{Reply}
use Rattle.service.specs.Control.Counted.{boxed}
use Rattle.service.specs.Control.Machine.{usable}
use Rattle.service.specs.Control.Console.{closed}
use Rattle.service.specs.Control.Replies.{Sent, refuses, responds, Says}
use Rattle.service.specs.Control.Calls.{Opening, opened, opens}
use Rattle.service.proofs.ControlLaws.Answers.{setup_of, opens_22, opens_16, opens_with, says_sent, sent_so}
use Rattle.demands.specs.Control.Point.{Call, connect, disconnect, confirm, indicate, write, flywheel, service, step}
use Rattle.demands.proofs.ControlLaws.Steps.{Stepped, refusal, connected, gone, indicated, confirmed, denied, granted, fed, steps}
use Rattle.demands.proofs.ControlLaws.Ours.{console_of, console_again, DidOpen, did_open, Did, did_connect, did_disconnect, did_confirm, did_indicate, did_write, did_flywheel, ByContract}

-- ---- each number from 10 to 22 is a refusal's

abbrev refusals : List Refusal
refusals =
    ClientAboveThree ∷ UnknownKind ∷ PayloadOutOfRange ∷ NotWellFormed ∷ OutputTooShort ∷ NoSuchPart ∷ UnusableSetup ∷ ConnectionMismatch ∷ EmptyWrite ∷
    IndicationsOff ∷ ResponseAwaited ∷ NothingDue ∷ NotEightOctets ∷ []

abbrev from_on : ℕ → ℕ → List ℕ
from_on n zero = []
from_on n (suc k) = n ∷ from_on (suc n) k

from_on_at : (n k i d : ℕ) → i < k → get_or (from_on n k) i d ≡ n + i
from_on_at n zero i d h = absurd (omega arith)
from_on_at n (suc k) zero d h = omega arith
from_on_at n (suc k) (suc i) d h = let e : get_or (from_on (suc n) k) i d ≡ suc n + i = from_on_at (suc n) k i d (omega arith) in omega arith

refusal_at : (n : ℕ) → 10 ≤ n → n ≤ 22 → (w : Refusal) × (number_of w ≡ n)
refusal_at n l g =
    let e : get_or (from_on 10 13) (n - 10) 10 ≡ 10 + (n - 10) = from_on_at 10 13 (n - 10) 10 (omega arith) in
    let f : 10 + (n - 10) ≡ n = omega arith in
    (get_or refusals (n - 10) ClientAboveThree, sym (get_or-map number_of refusals (n - 10) ClientAboveThree) ∙ e ∙ f)

-- ---- replies of the code

abbrev Sayable : Answer Sent × Console → Type 0
Sayable x = (y : Reply) × Says y x

says_refused : (k : Console) (n : ℕ) → 10 ≤ n → n ≤ 22 → Sayable (refuses k n)
says_refused k n l g =
    let w : (w : Refusal) × (number_of w ≡ n) = refusal_at n l g in (
      record { outcome = Err w.0; response = boxed []; status = boxed []; console = k },
      record { means = ap (refuses k) w.1; response_rest = refl; status_rest = refl },
    )

says : (r s : List ℕ) (k : Console) → Sayable (responds r s k)
says r s k = (says_sent r s k, sent_so r s k)

sayable : (k : Console) {q : Call} {x : Answer Sent × Console} → Stepped k q x → Sayable x
sayable k (refusal n l g) = says_refused k n l g
sayable k (connected c h e) = says [] [] _
sayable k (gone c h e) = says [] [] _
sayable k (indicated c on h e) = says [] [] _
sayable k (confirmed c h e f) = says [] [] _
sayable k (denied c o p h r e) = says _ [] _
sayable k (granted c o p h x e g) = says _ _ _
sayable k (fed v) = says [] _ _

-- ---- calls

can_step : (k : Console) (q : Call) → Did k q (step k q)
can_step k q = from q (sayable k (steps k q))
  where
    from : (q : Call) → Sayable (step k q) → Did k q (step k q)
    from (connect c) y = subst (λ (x : Answer Sent × Console). Did k (connect c) x) y.1.means (did_connect c y.0 (k, (c, tt)) y.1)
    from (disconnect c) y = subst (λ (x : Answer Sent × Console). Did k (disconnect c) x) y.1.means (did_disconnect c y.0 (k, (c, tt)) y.1)
    from (confirm c) y = subst (λ (x : Answer Sent × Console). Did k (confirm c) x) y.1.means (did_confirm c y.0 (k, (c, tt)) y.1)
    from (indicate c on) y =
        subst (λ (x : Answer Sent × Console). Did k (indicate c on) x) y.1.means (did_indicate c on y.0 (k, (c, (on, tt))) y.1)
    from (write c s) y =
        let r : Bor (List ℕ) = record { ref_ptr = (0, 0); now = s } in
        subst (λ (x : Answer Sent × Console). Did k (write c s) x) y.1.means (did_write [] c r y.0 (k, (c, (r, tt))) y.1)
    from (flywheel v) y = subst (λ (x : Answer Sent × Console). Did k (flywheel v) x) y.1.means (did_flywheel v y.0 (k, (v, tt)) y.1)

-- ---- opening

openable : (o : Opening) → Sayable (opens o)
openable o =
    let f : Feature = named (words o.feature) in
    elim (tested (eqb (length o.feature) 8)) [
      | failed e ↦ rw (opens_22 o 22 (rw e)) (says_refused closed 22 (lit≤ tt) (lit≤ tt))
      | passed e ↦ elim (tested (usable (setup_of f o))) [
        | failed u ↦ rw (opens_16 o f (rw e) u) (says_refused closed 16 (lit≤ tt) (lit≤ tt))
        | passed u ↦ rw (opens_with o f (rw e) u) (says [] [] _)
      ]
    ]

can_open : (o : Opening) → DidOpen o (opened o)
can_open o =
    let y : Sayable (opens o) = openable o in
    let r : Bor (List ℕ) = record { ref_ptr = (0, 0); now = o.feature } in
    subst (λ (a : Answer Console). DidOpen o a) (ap console_of y.1.means ∙ console_again (opened o))
    (did_open [] r o.ranges o.speeds y.0 (r, (o.ranges, (o.speeds, tt))) y.1)

pub service_by_contract : ByContract service
service_by_contract = record { opens = can_open; steps = can_step }
