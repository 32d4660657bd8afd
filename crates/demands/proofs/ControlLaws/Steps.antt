-- What a call may come to: a refusal, or one of seven other cases. Every law of the control point is proved by them.
use Rattle.std.specs.Prelude.{Option, None, Some}
use Prim.Native.Nat.{ℕ, ◌≤◌}
use mathlib.Core.Path.{◌≡◌, refl}
use mathlib.Core.Bool.{Bool, true, false, cond}
use mathlib.Core.List.{List, [], ◌∷◌, ◌++◌}
use lib.Dec.{ltb, lit≤, eqb-suc-zero}
use lib.ListN.{length, set}
use Rattle.record.specs.Answer.{Answer}
use Rattle.service.specs.declared.control.Console.{Console}
use Rattle.service.specs.declared.control.machine.Machine.{Machine}
use Rattle.service.specs.declared.control.op_codes.OpCode.{OpCode}
use Rattle.service.specs.declared.control.judging.WriteResult.{WriteResult}
use Rattle.service.specs.declared.control.judging.WriteResult.TheVariants.{Success, NotSupported}
use Rattle.service.specs.Control.OpCodes.{op_code}
use Rattle.record.specs.Octets.{number}
use Rattle.service.specs.Control.SpinDown.{followed_by, said_at, run_at}
use Rattle.service.specs.Control.Machine.{is, someone, without, freed, spinning}
use Rattle.service.specs.Control.Judging.{succeeds}
use Rattle.service.specs.Control.Effects.{response_octets, status_octets, done}
use Rattle.service.specs.Control.Console.{absent, is_connected, is_indicating, with_client, with_machine, awaiting}
use Rattle.service.specs.Control.Replies.{Sent, refuses, accepts, responds}
use Rattle.service.specs.Control.Calls.{connects, disconnects, indicates, confirms, answers, writes, feeds}
use Rattle.service.proofs.ControlLaws.Fits.{Granted, Judged, against, for, judged_so}
use Rattle.record.proofs.Tests.{passed, failed, tested, ltb_le}
use Rattle.demands.specs.Control.Point.{Call, connect, disconnect, confirm, indicate, write, flywheel, step}
use Rattle.demands.specs.Control.Laws.{Heard}

-- a console with another machine, in which a client's response awaits confirmation
abbrev pub responding : Console → Machine → ℕ → Console
responding k m c = record { machine = m; clients = k.clients; awaited = Some c }

pub data Stepped (k : Console) : Call → Answer Sent × Console → Type 0 where
  refusal : {q : Call} (n : ℕ) → 10 ≤ n → n ≤ 22 → Stepped k q (refuses k n)
  connected : (c : ℕ) → c ≤ 3 → is_connected k c ≡ false →
      Stepped k (connect c) (accepts (with_client k c (record { connected = true; indicating = false })))
  gone : (c : ℕ) → c ≤ 3 → is_connected k c ≡ true →
      Stepped k (disconnect c)
      (accepts (record { machine = freed k.machine c; clients = set k.clients c absent; awaited = without k.awaited c }))
  indicated : (c : ℕ) (on : Bool) → c ≤ 3 → is_connected k c ≡ true →
      Stepped k (indicate c on) (accepts (with_client k c (record { connected = true; indicating = on })))
  confirmed : (c : ℕ) → c ≤ 3 → is_connected k c ≡ true → is k.awaited c ≡ true → Stepped k (confirm c) (accepts (awaiting k None))
  denied : (c o : ℕ) (p : List ℕ) → Heard k c → (r : WriteResult) → succeeds r ≡ false →
      Stepped k (write c (o ∷ p)) (responds (response_octets o r) [] (awaiting k (Some c)))
  granted : (c o : ℕ) (p : List ℕ) → Heard k c → (x : OpCode) → op_code o ≡ Some x → Granted k.machine c x p →
      Stepped k (write c (o ∷ p))
      (responds (response_octets o Success ++ followed_by k.machine.setup.speeds x.act (number 1 p)) (status_octets x.status p)
      (responding k (done k.machine c x.act p) c))
  fed : (v : ℕ) →
      Stepped k (flywheel v)
      (responds [] (said_at k.machine.setup.speeds k.machine.run v)
      (with_machine k (spinning k.machine (run_at k.machine.setup.speeds k.machine.run v))))

-- ---- the calls that write nothing

module _ (k : Console) (c : ℕ) where
  connect_steps : Stepped k (connect c) (connects k c)
  unfolding connects
  connect_steps = elim (tested (ltb 3 c)) [
    | passed e ↦ rw e (refusal 10 (lit≤ tt) (lit≤ tt))
    | failed e ↦ elim (tested (is_connected k c)) [
      | passed f ↦ rw (e, f) (refusal 17 (lit≤ tt) (lit≤ tt))
      | failed f ↦ rw (e, f) (connected c (ltb_le 3 c e) f)
    ]
  ]

  disconnect_steps : Stepped k (disconnect c) (disconnects k c)
  unfolding disconnects
  disconnect_steps = elim (tested (ltb 3 c)) [
    | passed e ↦ rw e (refusal 10 (lit≤ tt) (lit≤ tt))
    | failed e ↦ elim (tested (is_connected k c)) [
      | passed f ↦ rw (e, f) (gone c (ltb_le 3 c e) f)
      | failed f ↦ rw (e, f) (refusal 17 (lit≤ tt) (lit≤ tt))
    ]
  ]

  indicate_steps : (on : Bool) → Stepped k (indicate c on) (indicates k c on)
  unfolding indicates
  indicate_steps on = elim (tested (ltb 3 c)) [
    | passed e ↦ rw e (refusal 10 (lit≤ tt) (lit≤ tt))
    | failed e ↦ elim (tested (is_connected k c)) [
      | passed f ↦ rw (e, f) (indicated c on (ltb_le 3 c e) f)
      | failed f ↦ rw (e, f) (refusal 17 (lit≤ tt) (lit≤ tt))
    ]
  ]

  confirm_steps : Stepped k (confirm c) (confirms k c)
  unfolding confirms
  confirm_steps = elim (tested (ltb 3 c)) [
    | passed e ↦ rw e (refusal 10 (lit≤ tt) (lit≤ tt))
    | failed e ↦ elim (tested (is_connected k c)) [
      | passed f ↦ elim (tested (is k.awaited c)) [
        | passed g ↦ rw (e, f, g) (confirmed c (ltb_le 3 c e) f g)
        | failed g ↦ rw (e, f, g) (refusal 21 (lit≤ tt) (lit≤ tt))
      ]
      | failed f ↦ rw (e, f) (refusal 17 (lit≤ tt) (lit≤ tt))
    ]
  ]

-- ---- writes

module _ (k : Console) (c o : ℕ) (p : List ℕ) (h : Heard k c) where
  result_steps : (x : OpCode) → op_code o ≡ Some x → {r : WriteResult} → Judged k.machine c x p r →
      Stepped k (write c (o ∷ p))
      (responds (response_octets o r ++ cond (succeeds r) (followed_by k.machine.setup.speeds x.act (number 1 p)) [])
      (cond (succeeds r) (status_octets x.status p) [])
      (responding k (cond (succeeds r) (done k.machine c x.act p) k.machine) c))
  result_steps x e {r} (against f) = rw f (denied c o p h r f)
  result_steps x e (for g) = granted c o p h x e g

  answer_steps : (l : Option OpCode) → op_code o ≡ l → Stepped k (write c (o ∷ p)) (answers k c o p)
  answer_steps (Some x) e = rw e (result_steps x e (judged_so k.machine c x p))
  answer_steps None e = rw e (denied c o p h NotSupported refl)

write_steps : (k : Console) (c : ℕ) (s : List ℕ) → Stepped k (write c s) (writes k c s)
unfolding writes
write_steps k c s = elim (tested (ltb 3 c)) [
  | passed e ↦ rw e (refusal 10 (lit≤ tt) (lit≤ tt))
  | failed e ↦ elim (tested (is_connected k c)) [
    | failed f ↦ rw (e, f) (refusal 17 (lit≤ tt) (lit≤ tt))
    | passed f ↦ rest e f s
  ]
]
  where
    rest : ltb 3 c ≡ false → is_connected k c ≡ true → (s : List ℕ) → Stepped k (write c s) (writes k c s)
    rest e f [] = rw (e, f) (refusal 18 (lit≤ tt) (lit≤ tt))
    rest e f (o ∷ p) = elim (tested (is_indicating k c)) [
      | failed g ↦ rw (e, f, eqb-suc-zero (length p), g) (refusal 19 (lit≤ tt) (lit≤ tt))
      | passed g ↦ elim (tested (someone k.awaited)) [
        | passed h ↦ rw (e, f, eqb-suc-zero (length p), g, h) (refusal 20 (lit≤ tt) (lit≤ tt))
        | failed h ↦
            rw (e, f, eqb-suc-zero (length p), g, h)
            (answer_steps k c o p (record { small = ltb_le 3 c e; joined = f; shown = g; clear = h }) (op_code o) refl)
      ]
    ]

feed_steps : (k : Console) (v : ℕ) → Stepped k (flywheel v) (feeds k v)
unfolding feeds
feed_steps k v = fed v

pub steps : (k : Console) (q : Call) → Stepped k q (step k q)
steps k (connect c) = connect_steps k c
steps k (disconnect c) = disconnect_steps k c
steps k (confirm c) = confirm_steps k c
steps k (indicate c on) = indicate_steps k c on
steps k (write c s) = write_steps k c s
steps k (flywheel v) = feed_steps k v
