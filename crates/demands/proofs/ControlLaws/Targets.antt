-- W-206 over every sequence of calls: a control point that answers by its history grants the targets on the steps and no others, and every setting is
-- zero or on a step.
use Rattle.std.specs.Prelude.{Option, None, Some}
use Prim.Native.Nat.{ℕ, suc, ◌-◌, ◌≤◌}
use mathlib.Core.Path.{◌≡◌, refl, sym, ap, subst, ◌∙◌}
use mathlib.Core.Bool.{Bool, true, false, not, cond, ◌&&◌, ◌||◌, true≢false}
use mathlib.Core.List.{List, [], ◌∷◌}
use native.Mathlib.Omega.{arith}
use lib.Dec.{eqb, ltb, lit≤, eqb-suc-zero}
use lib.ListN.{length, replicate}
use Rattle.record.specs.declared.feature.Feature.{Feature}
use Rattle.record.specs.Answer.{Answer, refused, given}
use Rattle.record.specs.Feature.{words, named, feature_of}
use Rattle.record.specs.Groups.{has}
use Rattle.record.proofs.Tests.{passed, failed, tested, eqb_eq, eqb_same, ltb_false, and_l, and_r}
use Rattle.service.specs.declared.control.op_codes.OpCode.{OpCode}
use Rattle.service.specs.declared.control.Console.{Console}
use Rattle.service.specs.declared.control.ranges.Ranges.{Ranges}
use Rattle.service.specs.declared.control.machine.Setup.{Setup}
use Rattle.service.specs.declared.control.machine.Mode.{Mode}
use Rattle.service.specs.declared.control.op_codes.Bound.{Bound}
use Rattle.service.specs.declared.control.op_codes.Bound.TheVariants.{Free}
use Rattle.service.specs.Control.Ranges.{admits, allowed}
use Rattle.service.specs.Control.OpCodes.{op_code}
use Rattle.service.specs.Control.Parameters.{size}
use Rattle.service.specs.Control.Machine.{is, someone}
use Rattle.service.specs.Control.Effects.{setting}
use Rattle.service.specs.Control.Console.{first}
use Rattle.service.specs.Control.Calls.{Opening, opened}
use Rattle.service.proofs.ControlLaws.Answers.{setup_of}
use Rattle.demands.specs.Control.Point.{Call, write, Point, service, Event, run}
use Rattle.demands.specs.Control.Laws.{result_in, holder_by, zero_setting, Right, at_zero, set_to}
use Rattle.demands.specs.Control.History.{mode_by, awaited_by, connected_by, indicating_by}
use Rattle.demands.specs.Control.Runs.{led_by}
use Rattle.demands.specs.Control.Rules as rule
use Rattle.demands.specs.Control.Rules.{stepped}
use Rattle.demands.specs.Control.Answered.{answer_by, AnswersByHistory}
use Rattle.demands.specs.Control.Increments as increments
use Rattle.demands.specs.Control.Increments.{OnStep, Target, speed, inclination, resistance, power, heart_rate, op, octets, number_in, range_of, GrantsSteps, MaySet, DecidesSteps, Settled}
use Rattle.demands.proofs.ControlLaws.Changes.{fixed_at_opening}
use Rattle.demands.proofs.ControlLaws.Kept.{opened_first, run_keeps, sound_after}
use Rattle.demands.proofs.ControlLaws.Increments.{stepped_so, allows_steps}

-- ---- the result of a target

-- a write that is answered with a result has the rule's
module _ (s : Setup) (past : List Event) (c o n : ℕ) (w : List ℕ) where
  abbrev ruled : ℕ
  ruled = rule.result s (holder_by past []) (mode_by past) (led_by s.speeds past).on c o w

  -- it has an octet, its op code
  some_octet : eqb (length (o ∷ w)) 0 ≡ false
  some_octet = eqb-suc-zero (length w)

  answered : result_in (answer_by s past (write c (o ∷ w))) ≡ suc n → ruled ≡ suc n
  answered h = elim (tested (ltb 3 c)) [
    | passed e ↦ absurd (let z : 0 ≡ suc n = rw e at h in omega arith)
    | failed e ↦ elim (tested (connected_by c past)) [
      | failed f ↦ absurd (let z : 0 ≡ suc n = rw (e, f) at h in omega arith)
      | passed f ↦ elim (tested (indicating_by c past)) [
        | failed i ↦ absurd (let z : 0 ≡ suc n = rw (e, f, some_octet, i) at h in omega arith)
        | passed i ↦ elim (tested (someone (awaited_by past))) [
          | passed j ↦ absurd (let z : 0 ≡ suc n = rw (e, f, some_octet, i, j) at h in omega arith)
          | failed j ↦ (let z : ruled ≡ suc n = rw (e, f, some_octet, i, j) at h in z)
        ]
      ]
    ]
  ]

module _ (s : Setup) (h : Option ℕ) (m : Mode) (going : Bool) (c o : ℕ) (p : List ℕ) where
  abbrev suits : Bool
  suits = eqb (length p) (rule.size o) && rule.allowed s.ranges o p

  -- 01 only for a parameter that suits, and 03 only for one that does not
  suits_01 : rule.result s h m going c o p ≡ 0x01 → suits ≡ true
  suits_01 e = elim (tested (rule.supported s.feature.targets o)) [
    | failed a ↦ absurd (let z : ◌≡◌ {A = ℕ} 2 1 = rw a at e in omega arith)
    | passed a ↦ elim (tested (eqb o 0x00 || is h c)) [
      | failed b ↦ absurd (let z : ◌≡◌ {A = ℕ} 5 1 = rw (a, b) at e in omega arith)
      | passed b ↦ elim (tested suits) [
        | passed d ↦ d
        | failed d ↦ absurd (let z : ◌≡◌ {A = ℕ} 3 1 = rw (a, b, d) at e in omega arith)
      ]
    ]
  ]

  suits_03 : rule.result s h m going c o p ≡ 0x03 → suits ≡ false
  suits_03 e = elim (tested (rule.supported s.feature.targets o)) [
    | failed a ↦ absurd (let z : ◌≡◌ {A = ℕ} 2 3 = rw a at e in omega arith)
    | passed a ↦ elim (tested (eqb o 0x00 || is h c)) [
      | failed b ↦ absurd (let z : ◌≡◌ {A = ℕ} 5 3 = rw (a, b) at e in omega arith)
      | passed b ↦ elim (tested suits) [
        | failed d ↦ d
        | passed d ↦ elim (tested (rule.fails s h m going c o p)) [
          | passed f ↦ absurd (let z : ◌≡◌ {A = ℕ} 4 3 = rw (a, b, d, f) at e in omega arith)
          | failed f ↦ absurd (let z : ◌≡◌ {A = ℕ} 1 3 = rw (a, b, d, f) at e in omega arith)
        ]
      ]
    ]
  ]

-- what the rule asks of each target
target_size : (t : Target) → rule.size (op t) ≡ octets t
target_size speed = refl
target_size inclination = refl
target_size resistance = refl
target_size power = refl
target_size heart_rate = refl

target_rule : (r : Ranges) (t : Target) (w : List ℕ) →
    rule.allowed r (op t) w ≡ stepped (range_of r t).least (range_of r t).greatest (range_of r t).increment (number_in t w)
target_rule r speed w = refl
target_rule r inclination w = refl
target_rule r resistance w = refl
target_rule r power w = refl
target_rule r heart_rate w = refl

target_octet : (t : Target) → op t ≤ 255
target_octet speed = lit≤ tt
target_octet inclination = lit≤ tt
target_octet resistance = lit≤ tt
target_octet power = lit≤ tt
target_octet heart_rate = lit≤ tt

target_admits : (r : Ranges) (t : Target) (w : List ℕ) → rule.allowed r (op t) w ≡ admits (range_of r t) (number_in t w)
target_admits r t w = target_rule r t w ∙ sym (stepped_so (range_of r t) (number_in t w))

-- ---- any control point that answers by its history

-- where it opens, the Feature value has its octets
feature_there : {S : Type 0} (p : Point S) → AnswersByHistory p → (o : Opening) (x : S) → p.opening o ≡ given x → (f : Feature) × (feature_of o.feature ≡ given f)
feature_there {S} p a o x h = elim (tested (eqb (length o.feature) 8)) [
  | passed e ↦ (named (words o.feature), rw e)
  | failed e ↦ absurd (let z : ◌≡◌ {A = Answer S} (refused 22) (given x) = sym (a.refuses o 21 (rw e)) ∙ h in let y : ◌≡◌ {A = ℕ} 0 1 = cc in omega arith)
]

module _ {S : Type 0} (p : Point S) (a : AnswersByHistory p) (o : Opening) (x : S) (h : p.opening o ≡ given x)
    (qs : List Call) (c : ℕ) (t : Target) (w : List ℕ) where
  abbrev result_given : ℕ
  result_given = result_in (p.calling (run p x [] qs).1 (write c (op t ∷ w))).0

  abbrev setup_given : Setup
  setup_given = setup_of (feature_there p a o x h).0 o

  abbrev past : List Event
  past = (run p x [] qs).0

  told : (n : ℕ) → result_given ≡ suc n → ruled setup_given past c (op t) n w ≡ suc n
  told n e =
      answered setup_given past c (op t) n w
      (sym (ap result_in (a.answers o (feature_there p a o x h).0 (feature_there p a o x h).1 x h qs (write c (op t ∷ w)) (target_octet t))) ∙ e)

  only_granted : result_given ≡ 0x01 → (length w ≡ octets t) × OnStep (range_of o.ranges t) (number_in t w)
  only_granted e =
      let l : Bool = eqb (length w) (rule.size (op t)) in
      let b : Bool = rule.allowed o.ranges (op t) w in
      let d : (l && b) ≡ true = suits_01 setup_given (holder_by past []) (mode_by past) (led_by o.speeds past).on c (op t) w (told 0 e) in (
        eqb_eq (length w) (rule.size (op t)) (and_l l b d) ∙ target_size t,
        allows_steps.only (range_of o.ranges t) (number_in t w) (sym (target_admits o.ranges t w) ∙ and_r l b d),
      )

  only_declined : result_given ≡ 0x03 → length w ≡ octets t → OnStep (range_of o.ranges t) (number_in t w) → ⊥
  only_declined e n s =
      let l : Bool = eqb (length w) (rule.size (op t)) in
      let b : Bool = rule.allowed o.ranges (op t) w in
      let d : (l && b) ≡ false = suits_03 setup_given (holder_by past []) (mode_by past) (led_by o.speeds past).on c (op t) w (told 2 e) in
      let i : l ≡ true = rw (n ∙ sym (target_size t)) (eqb_same (rule.size (op t))) in
      let j : b ≡ true = target_admits o.ranges t w ∙ allows_steps.each (range_of o.ranges t) (number_in t w) s in
      true≢false (sym (rw (i, j)) ∙ d)

pub grants_steps : {S : Type 0} (p : Point S) → AnswersByHistory p → GrantsSteps p
grants_steps p a = record { granted = only_granted p a; declined = only_declined p a }

-- ---- a client whose target is judged by its number

target_supported : (n : ℕ) (t : Target) → rule.supported n (op t) ≡ has n (op t - 2)
target_supported n speed = refl
target_supported n inclination = refl
target_supported n resistance = refl
target_supported n power = refl
target_supported n heart_rate = refl

target_controlled : (b : Bool) (t : Target) → (eqb (op t) 0x00 || b) ≡ b
target_controlled b speed = refl
target_controlled b inclination = refl
target_controlled b resistance = refl
target_controlled b power = refl
target_controlled b heart_rate = refl

-- no target has result 04
target_fails : (s : Setup) (h : Option ℕ) (m : Mode) (g : Bool) (c : ℕ) (t : Target) (w : List ℕ) → rule.fails s h m g c (op t) w ≡ false
target_fails s h m g c speed w = refl
target_fails s h m g c inclination w = refl
target_fails s h m g c resistance w = refl
target_fails s h m g c power w = refl
target_fails s h m g c heart_rate w = refl

module _ (s : Setup) (past : List Event) (c : ℕ) (t : Target) (w : List ℕ) (m : MaySet s.feature past c t) where
  abbrev right : Bool
  right = eqb (length w) (rule.size (op t)) && rule.allowed s.ranges (op t) w

  judged_by_number : result_in (answer_by s past (write c (op t ∷ w))) ≡ cond (not right) 0x03 0x01
  judged_by_number =
      let h : Option ℕ = holder_by past [] in
      let g : Bool = (led_by s.speeds past).on in
      let i : rule.supported s.feature.targets (op t) ≡ true = target_supported s.feature.targets t ∙ m.able in
      let j : (eqb (op t) 0x00 || is h c) ≡ true = target_controlled (is h c) t ∙ ap (λ (x : Option ℕ). is x c) m.holds ∙ eqb_same c in
      let k : result_in (answer_by s past (write c (op t ∷ w))) ≡ rule.result s h (mode_by past) g c (op t) w =
      rw (ltb_false 3 c m.small, m.joined, some_octet s past c (op t) 0 w, m.shown, m.clear) in
      k ∙ (λ n. cond (not (i n)) 0x02 (cond (not (j n)) 0x05 (cond (not right) 0x03 (cond (target_fails s h (mode_by past) g c t w n) 0x04 0x01))))

  right_on_step : length w ≡ octets t → OnStep (range_of s.ranges t) (number_in t w) → right ≡ true
  right_on_step n r =
      let i : eqb (length w) (rule.size (op t)) ≡ true = rw (n ∙ sym (target_size t)) (eqb_same (rule.size (op t))) in
      let j : rule.allowed s.ranges (op t) w ≡ true = target_admits s.ranges t w ∙ allows_steps.each (range_of s.ranges t) (number_in t w) r in
      rw (i, j)

  wrong_off_steps : (length w ≡ octets t → OnStep (range_of s.ranges t) (number_in t w) → ⊥) → right ≡ false
  wrong_off_steps n = elim (tested (eqb (length w) (rule.size (op t)))) [
    | failed e ↦ rw e
    | passed e ↦ elim (tested (rule.allowed s.ranges (op t) w)) [
      | failed f ↦ rw (e, f)
      | passed f ↦
          absurd (n (eqb_eq (length w) (rule.size (op t)) e ∙ target_size t)
          (allows_steps.only (range_of s.ranges t) (number_in t w) (sym (target_admits s.ranges t w) ∙ f)))
    ]
  ]

pub decides_steps : {S : Type 0} (p : Point S) → AnswersByHistory p → DecidesSteps p
decides_steps p a = record {
  grants = λ o f e x h qs c t w m n r.
      ap result_in (a.answers o f e x h qs (write c (op t ∷ w)) (target_octet t)) ∙ judged_by_number (setup_of f o) (run p x [] qs).0 c t w m ∙
      ap (λ (b : Bool). cond (not b) 0x03 0x01) (right_on_step (setup_of f o) (run p x [] qs).0 c t w m n r);
  declines = λ o f e x h qs c t w m n.
      ap result_in (a.answers o f e x h qs (write c (op t ∷ w)) (target_octet t)) ∙ judged_by_number (setup_of f o) (run p x [] qs).0 c t w m ∙
      ap (λ (b : Bool). cond (not b) 0x03 0x01) (wrong_off_steps (setup_of f o) (run p x [] qs).0 c t w m n);
}

-- ---- every setting

abbrev bound_of : Option OpCode → Bound
bound_of (Some x) = x.bound
bound_of None = Free

abbrev size_of : Option OpCode → ℕ
size_of (Some x) = size x.parameter
size_of None = 0

target_bound : (r : Ranges) (t : Target) (p : List ℕ) → allowed r (bound_of (op_code (op t))) p ≡ admits (range_of r t) (number_in t p)
unfolding op_code
target_bound r speed p = refl
target_bound r inclination p = refl
target_bound r resistance p = refl
target_bound r power p = refl
target_bound r heart_rate p = refl

target_length : (t : Target) → size_of (op_code (op t)) ≡ octets t
unfolding op_code
target_length speed = refl
target_length inclination = refl
target_length resistance = refl
target_length power = refl
target_length heart_rate = refl

target_zero : (t : Target) → zero_setting (op_code (op t)) ≡ replicate (octets t) 0
unfolding op_code
target_zero speed = refl
target_zero inclination = refl
target_zero resistance = refl
target_zero power = refl
target_zero heart_rate = refl

settled : (r : Ranges) (t : Target) (p : List ℕ) → Right r (op_code (op t)) p → Settled r t p
settled r t p h = from (op_code (op t)) refl h
  where
    from : (l : Option OpCode) → op_code (op t) ≡ l → Right r l p → Settled r t p
    from l e (at_zero z) = increments.at_zero (z ∙ ap zero_setting (sym e) ∙ target_zero t)
    from (Some x) e (set_to n g) =
        increments.on_step (n ∙ ap size_of (sym e) ∙ target_length t)
        (allows_steps.only (range_of r t) (number_in t p) (sym (target_bound r t p) ∙ ap (λ (l : Option OpCode). allowed r (bound_of l) p) e ∙ g))

-- after every opening and every sequence of calls
pub settings_settled : (o : Opening) (k : Console) → opened o ≡ given k → (qs : List Call) (t : Target) →
    Settled o.ranges t (setting (run service k [] qs).1.machine (op t))
settings_settled o k e qs t =
    let z : Console = (run service k [] qs).1 in
    let f : (f : Feature) × (k ≡ first (setup_of f o)) = opened_first o k e in
    let g : z.machine.setup ≡ setup_of f.0 o = run_keeps (λ x. x.machine.setup ≡ setup_of f.0 o) (λ x q s. fixed_at_opening x q ∙ s) k [] qs (ap (λ (x : Console). x.machine.setup) f.1) in
    settled o.ranges t (setting z.machine (op t))
    (subst (λ (s : Setup). Right s.ranges (op_code (op t)) (setting z.machine (op t))) g ((sound_after o k e qs).right (op t)))
