use Prim.Native.Nat.{ℕ, ◌≤◌, ◌<◌}
use mathlib.Core.Path.{◌≡◌, refl, sym, ap, ◌∙◌}
use mathlib.Core.Bool.{Bool}
use native.Mathlib.Omega.{arith}
use Rattle.record.specs.declared.record.Record.{Record}
use Rattle.record.specs.Answer.{given}
use Rattle.record.specs.Record.{wire}
use Rattle.record.proofs.Records.{formed_in_types}
use Rattle.service.specs.Collector.{waiting, handed, refused, meant}
use Rattle.service.proofs.Said.{same_record}
use Rattle.demands.specs.Demands.{count}
use Rattle.demands.proofs.ComingBack.{left_all, comes_home, waits_on, next, count_most}
use Rattle.demands.proofs.collected.Goals as goal

not_handed : {A : Type 0} (r : Record) (d e : Bool) → waiting d ≡ handed r e → A
not_handed r d e h = let z : ◌≡◌ {A = ℕ} 0 1 = cc in absurd (omega arith)

not_refused : {A : Type 0} (r : Record) (n : ℕ) (d e : Bool) → refused n d ≡ handed r e → A
not_refused r n d e h = let z : ◌≡◌ {A = ℕ} 0 1 = cc in absurd (omega arith)

not_waiting : {A : Type 0} (n : ℕ) (d e : Bool) → refused n d ≡ waiting e → A
not_waiting n d e h = let z : ◌≡◌ {A = ℕ} 0 1 = cc in absurd (omega arith)

pub loop-part-init : goal.loop-part-init
loop-part-init c = rw c.open.ensures.collection_value (left_all c.args.«record» c.args.payload ((let r = c.args.«record» in
    let slopes = c.well_formed.0.1.1.1.1.1.1.1.1.1.1 in
    let forces = slopes.1.1.1.1.1.1.1.1.1 in record {
      typed = record {
        numbers = formed_in_types r.kind r.groups r.direction (wire r) c.requires.0 refl;
        inclination = record { sfits = slopes.0.1.1.0.1.1.0.1 };
        ramp_angle = record { sfits = slopes.0.1.1.1.0.1.1.0.1 };
        belt = record { sfits = forces.0.1.1.0.1 };
        power_output = record { sfits = forces.0.1.1.1.0.1 };
        resistance = record { sfits = forces.1.1.1.0.1 };
        power = record { sfits = forces.1.1.1.1.0.1 };
        average_power = record { sfits = forces.1.1.1.1.1.0.1 };
      };
      formed = c.requires.0;
    })) c.requires.1 c.args.told c.requires.2)

pub returns-in-Record : goal.returns-in-Record
returns-in-Record c = let s = sym (ap meant c.in-Record.is) ∙ c.deliver-step.ensures.answer_value in
    elim ((let a = c.args in next a.«record» a.payload c.loop-part.part c.loop-part.collection c.loop-part.invariant)) [
      | comes_home h ↦ ap given (same_record _ _ _ _ (s ∙ h))
      | waits_on h k ↦ not_handed _ _ _ (sym (s ∙ h))
    ]

pub returns-in-Refused : goal.returns-in-Refused
returns-in-Refused c = let s = sym (ap meant c.in-Refused.is) ∙ c.deliver-step.ensures.answer_value in
    elim ((let a = c.args in next a.«record» a.payload c.loop-part.part c.loop-part.collection c.loop-part.invariant)) [
      | comes_home h ↦ not_refused _ _ _ _ (s ∙ h)
      | waits_on h k ↦ not_waiting _ _ _ (s ∙ h)
    ]

pub loop-part-preserved : goal.loop-part-preserved
loop-part-preserved c = let s = sym (ap meant c.in-Waiting.is) ∙ c.deliver-step.ensures.answer_value in
    rw c.deliver-step.ensures.next_value
    (elim ((let a = c.args in next a.«record» a.payload c.loop-part.part c.loop-part.collection c.loop-part.invariant)) [
      | comes_home h ↦ not_handed _ _ _ (s ∙ h)
      | waits_on h k ↦ k
    ])

pub returns : goal.returns
returns c = let a = c.args in
    let m : count a.«record» a.payload ≤ 16 = count_most a.«record» a.payload in
    let b : c.loop-part.part < count a.«record» a.payload = c.loop-part.invariant.below in
    absurd (omega arith)
