-- No second answer and no second state meets the collector's contracts.
use mathlib.Core.Path.{◌≡◌, refl, sym, ap, ap₂, ◌∙◌}
use native.Mathlib.Omega.{arith}
use Rattle.record.specs.Refusal.{number_of}
use Rattle.record.proofs.Once.{Once}
use Rattle.record.proofs.Once.{number_same, never}
use Rattle.record.proofs.RefusalLaws.{number_once}
use Rattle.service.specs.declared.collector.Collection.{Collection}
use Rattle.service.specs.declared.collector.Collected.{Collected}
use Rattle.service.specs.declared.collector.Collected.TheVariants as answers
use Rattle.std.specs.Prelude.{Result, Ok, Err}
use Rattle.record.specs.declared.refusal.Refusal.{Refusal}
use Rattle.service.specs.Collector.{Said, meant, meant_opening}
use Rattle.service.proofs.Said.{tag, same_waiting, same_record, same_dropped, same_number, same_refused}
use Rattle.service.proofs.collector.open.Reads as open_reads
use Rattle.service.proofs.collector.collect.Reads as collect_reads

-- ---- an answer is determined by its meaning

apart : {a b : Said} → a ≡ b → tag a ≡ tag b
apart e = ap tag e

collected_meant : (x y : Collected) → meant x ≡ meant y → x ≡ y
collected_meant (answers.Waiting d) (answers.Waiting e) h = ap answers.Waiting (same_waiting d e h)
collected_meant (answers.Waiting d) (answers.Record s e) h = absurd (omega (arith, apart h))
collected_meant (answers.Waiting d) (answers.Refused n e) h = absurd (omega (arith, apart h))
collected_meant (answers.Record r d) (answers.Waiting e) h = absurd (omega (arith, apart h))
collected_meant (answers.Record r d) (answers.Record s e) h = ap₂ answers.Record (same_record r s d e h) (same_dropped r s d e h)
collected_meant (answers.Record r d) (answers.Refused n e) h = absurd (omega (arith, apart h))
collected_meant (answers.Refused m d) (answers.Waiting e) h = absurd (omega (arith, apart h))
collected_meant (answers.Refused m d) (answers.Record s e) h = absurd (omega (arith, apart h))
collected_meant (answers.Refused m d) (answers.Refused n e) h =
    ap₂ answers.Refused (number_once m n (same_number (number_of m) (number_of n) d e h)) (same_refused (number_of m) (number_of n) d e h)

pub collect_once : Once collect_reads.Post
collect_once κs a x y s t p q =
    let e : x.answer ≡ y.answer = collected_meant x.answer y.answer (p.0 ∙ sym q.0) in
    let n : x.next ≡ y.next = p.1 ∙ sym q.1 in λ i. record { answer = e i; next = n i }

opening_meant : (a b : Result (Unit {0}) Refusal) (c d : Collection) →
    meant_opening (record { answer = a; collection = c }) ≡ meant_opening (record { answer = b; collection = d }) → a ≡ b
opening_meant (Ok x) (Ok y) c d e = refl
opening_meant (Ok x) (Err n) c d e = absurd (never c (number_of n) e)
opening_meant (Err m) (Ok y) c d e = absurd (never d (number_of m) (sym e))
opening_meant (Err m) (Err n) c d e = ap Err (number_once m n (number_same (number_of m) (number_of n) e))

pub open_once : Once open_reads.Post
open_once κs a x y s t p q =
    let e : x.answer ≡ y.answer = opening_meant x.answer y.answer x.collection y.collection (p.0 ∙ sym q.0) in
    let n : x.collection ≡ y.collection = p.1 ∙ sym q.1 in λ i. record { answer = e i; collection = n i }
