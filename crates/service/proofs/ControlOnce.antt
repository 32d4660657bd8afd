-- No second reply and no second console meets a contract of the control point: for each public function, on its own contract.
use Prim.Native.Nat.{ℕ}
use mathlib.Core.Path.{◌≡◌, refl, sym, ap}
use mathlib.Core.List.{List}
use Rattle.record.specs.Answer.{Answer}
use Rattle.record.specs.Refusal.{number_of}
use Rattle.record.proofs.Once.{Once, LentOnce, same, number_same, never}
use Rattle.record.proofs.RefusalLaws.{number_once}
use Rattle.service.specs.declared.control.Console.{Console}
use Rattle.std.specs.Prelude.{Result, Ok, Err}
use Rattle.record.specs.declared.refusal.Refusal.{Refusal}
use Rattle.service.specs.declared.control.Reply.{Reply}
use Rattle.service.specs.Control.Replies.{Sent, meant_outcome, Says}
use Rattle.service.proofs.control.counted.Counted.octets.Reads as octets
use Rattle.service.proofs.control.Console.open.Reads as open_reads
use Rattle.service.proofs.control.Console.connect.Reads as connect
use Rattle.service.proofs.control.Console.disconnect.Reads as disconnect
use Rattle.service.proofs.control.Console.indicate.Reads as indicate
use Rattle.service.proofs.control.Console.confirm.Reads as confirm
use Rattle.service.proofs.control.Console.write.Reads as write
use Rattle.service.proofs.control.Console.flywheel.Reads as flywheel
use Rattle.service.proofs.control.Console.setting.Reads as setting
use Rattle.service.proofs.control.judging.WriteResult.number.Reads as number
use Rattle.service.proofs.control.op_codes.op_code.Reads as op_code
use Rattle.service.proofs.control.parameters.Parameter.length.Reads as length
use Rattle.service.proofs.control.parameters.Parameter.count.Reads as count
use Rattle.service.proofs.control.parameters.Parameter.width.Reads as width

outcome_meant : (x y : Result (Unit {0}) Refusal) (r s u v : List ℕ) → meant_outcome x r s ≡ meant_outcome y u v → x ≡ y
outcome_meant (Ok x) (Ok y) r s u v e = refl
outcome_meant (Ok x) (Err b) r s u v e = absurd (never _ (number_of b) e)
outcome_meant (Err a) (Ok y) r s u v e = absurd (never _ (number_of a) (sym e))
outcome_meant (Err a) (Err b) r s u v e = ap Err (number_once a b (number_same (number_of a) (number_of b) e))

-- two replies that say the same are equal
pub reply_once : (x y : Reply) (z : Answer Sent × Console) → Says x z → Says y z → x ≡ y
reply_once x y z p q =
    let e = ap (λ (a : Answer Sent × Console). a.0) (same p.means q.means) in
    let o : x.outcome ≡ y.outcome = outcome_meant x.outcome y.outcome _ _ _ _ e in
    λ i. record {
      outcome = o i;
      response = same p.response_rest q.response_rest i;
      status = same p.status_rest q.status_rest i;
      console = (same p.means q.means i).1;
    }

pub calls_once : Once open_reads.Post × Once connect.Post × Once disconnect.Post × Once indicate.Post × Once confirm.Post × Once write.Post × Once flywheel.Post
calls_once = (
  λ κs a x y s t. reply_once x y _,
  λ κs a x y s t. reply_once x y _,
  λ κs a x y s t. reply_once x y _,
  λ κs a x y s t. reply_once x y _,
  λ κs a x y s t. reply_once x y _,
  λ κs a x y s t. reply_once x y _,
  λ κs a x y s t. reply_once x y _,
)

pub setting_once : Once setting.Post
setting_once κs a x y s t = same

-- the table of op codes, their parameters, and the numbers of the results
pub tables_once : Once op_code.Post × Once length.Post × Once count.Post × Once width.Post × Once number.Post
tables_once = (λ κs a x y s t. same, λ κs a x y s t. same, λ κs a x y s t. same, λ κs a x y s t. same, λ κs a x y s t. same)

-- the octets that count are lent, so they are compared
pub octets_once : LentOnce octets.Post (λ κs r. r.now)
octets_once κs a x y s t = same
