-- What each call answers, from what its code has found out.
use Prim.Native.Nat.{ℕ}
use mathlib.Core.Path.{◌≡◌, refl, ap, ◌∙◌}
use mathlib.Core.Bool.{true, false}
use mathlib.Core.List.{List}
use native.Mathlib.Omega.{arith}
use lib.Dec.{ltb}
use Rattle.record.specs.declared.feature.Feature.{Feature}
use Rattle.record.specs.Answer.{Answer, refused, given}
use Rattle.record.specs.Feature.{feature_of}
use Rattle.service.specs.declared.control.Console.{Console}
use Rattle.service.specs.declared.control.Reply.{Reply}
use Rattle.std.specs.Prelude.{Result, Ok, Err}
use Rattle.record.proofs.Tests.{passed, failed, tested}
use Rattle.record.specs.declared.refusal.Refusal.{Refusal}
use Rattle.record.specs.declared.refusal.Refusal.TheVariants.{ClientAboveThree, ConnectionMismatch}
use Rattle.record.specs.Refusal.{number_of}
use Rattle.service.specs.declared.control.Client.{Client}
use Rattle.service.specs.declared.control.machine.Setup.{Setup}
use Rattle.service.specs.Control.Counted.{boxed}
use Rattle.service.specs.Control.Machine.{usable}
use Rattle.service.specs.Control.Console.{client_at, is_connected, connected, first}
use Rattle.service.specs.Control.Replies.{Sent, refuses, sent, responds, Says}
use Rattle.service.specs.Control.Calls.{Opening, open_with, opened, of_connected}
use Rattle.service.proofs.ControlLaws.Boxes.{counts}

-- ---- opening

abbrev pub setup_of : Feature → Opening → Setup
setup_of f o = record { feature = f; ranges = o.ranges; speeds = o.speeds }

module _ (o : Opening) where
  pub opens_22 : (n : ℕ) → feature_of o.feature ≡ refused n → opened o ≡ refused n
  unfolding opened
  opens_22 n e = ap (λ (x : Answer Feature). open_with x o.ranges o.speeds) e

  module _ (f : Feature) (e : feature_of o.feature ≡ given f) where
    pub opens_16 : usable (setup_of f o) ≡ false → opened o ≡ refused 16
    unfolding opened
    opens_16 u = ap (λ (x : Answer Feature). open_with x o.ranges o.speeds) e ∙ rw u

    pub opens_with : usable (setup_of f o) ≡ true → opened o ≡ given (first (setup_of f o))
    unfolding opened
    opens_with u = ap (λ (x : Answer Feature). open_with x o.ranges o.speeds) e ∙ rw u

-- ---- a client that has to be connected

same_refusal : (a b : Refusal) → ◌≡◌ {A = Result Client Refusal} (Err a) (Err b) → a ≡ b
same_refusal a b e = cc

no_state : {A : Type 0} (a : Refusal) (s : Client) → ◌≡◌ {A = Result Client Refusal} (Err a) (Ok s) → A
no_state a s e = absurd (let z : ◌≡◌ {A = ℕ} 0 1 = cc in omega arith)

-- the refusal of a client that is not connected is that of the call
pub not_connected : (k : Console) (c : ℕ) (why : Refusal) (x : Answer Sent × Console) → Err why ≡ connected k c →
    of_connected k c x ≡ refuses k (number_of why)
not_connected k c why x e = elim (tested (ltb 3 c)) [
  | passed t ↦ rw (t, same_refusal why ClientAboveThree (rw t at e)) refl
  | failed t ↦ elim (tested (is_connected k c)) [
    | passed j ↦ no_state why (client_at k c) (rw (t, j) at e)
    | failed j ↦ rw (t, j, same_refusal why ConnectionMismatch (rw (t, j) at e)) refl
  ]
]

-- ---- replies

-- a reply with these octets
abbrev pub says_sent : List ℕ → List ℕ → Console → Reply
says_sent r s k = record { outcome = Ok tt; response = boxed r; status = boxed s; console = k }

pub sent_so : (r s : List ℕ) (k : Console) → Says (says_sent r s k) (responds r s k)
sent_so r s k = record { means = λ i. (sent (counts r i) (counts s i), k); response_rest = refl; status_rest = refl }
