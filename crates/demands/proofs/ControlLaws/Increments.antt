-- The laws of increments: what a range admits in other words, and by each rule of `specs/Control/Increments`.
use Prim.Native.Nat.{ℕ, zero, suc, ◌+◌, ◌-◌, ◌*◌, ◌/◌, ◌%◌, ◌≤◌, ◌<◌}
use mathlib.Core.Path.{◌≡◌, refl, sym, ap, subst, ◌∙◌}
use mathlib.Core.Bool.{Bool, true, not, ◌&&◌, true≢false}
use mathlib.Core.List.{List}
use native.Mathlib.Nat.{mod-one, mul-mod_left, div-add-mod', zero-mul, mul_comm, mul-sub, mul-le-mul_right, le_of_lt}
use native.Mathlib.Omega.{arith}
use lib.Dec.{eqb, leb, ltb}
use lib.IntN.{ℤ, pos, negsuc, nat_abs, neg_ℤ, ◌+ℤ◌, ◌-ℤ◌, +ℤ_comm, +ℤ_assoc, +ℤ_invr, +ℤ_idl, +ℤ_idr, neg_ℤ-+ℤ, -ℤ-+ℤ_cancel, +ℤ-neg_ℤ_cancel}
use lib.Signed.{le_z}
use borrow.Author.Tests.{le-leb, leb-true, leb-false, ltb-true, ltb-false, eq-eqb, ne_eqb, eqb-true, eqb-false}
use Rattle.record.proofs.Tests.{passed, failed, tested, and_l, and_r}
use Rattle.service.specs.declared.control.ranges.Ranges.{Ranges}
use Rattle.service.specs.declared.control.op_codes.Bound.{Bound}
use Rattle.service.specs.declared.control.op_codes.Bound.TheVariants.{Free, Speed, Inclination, Resistance, Power, HeartRate, OneOrTwo}
use Rattle.service.specs.Control.Ranges.{Range, distance, multiple, admits, is_range, in_range, value, allowed, are_ranges}
use Rattle.service.proofs.ControlLaws.Steps.{gap, difference, distance_gap}
use Rattle.demands.specs.Control.Rules.{above, whole, stepped}
use Rattle.demands.specs.Control.Increments.{OnStep, AllowsSteps, speed, inclination, resistance, power, heart_rate, ByOne, range_of, lies_in, allowed_before, ordered, ranges_before}

-- ---- multiples

-- the whole increments in a number make it up exactly when nothing remains
pub whole_so : (i n : ℕ) → multiple i n ≡ whole i n
whole_so i n =
    let d : n / i * i + n % i ≡ n = div-add-mod' n i in
    elim (tested (multiple i n)) [
      | passed e ↦ let z : n % i ≡ 0 = eqb-true (n % i) 0 e in e ∙ sym (eq-eqb (n / i * i) n (omega arith))
      | failed e ↦ e ∙ sym (ne_eqb (n / i * i) n (λ q. eqb-false (n % i) 0 e (omega arith)))
    ]

pub multiple_times : (i n : ℕ) → multiple i (n * i) ≡ true
multiple_times i n = eq-eqb (n * i % i) 0 (mul-mod_left n i)

times_multiple : (i n : ℕ) → multiple i n ≡ true → n ≡ n / i * i
times_multiple i n e = let d : n / i * i + n % i ≡ n = div-add-mod' n i in let z : n % i ≡ 0 = eqb-true (n % i) 0 e in omega arith

-- ---- numbers above a least value

gap_above : (a b : ℤ) → le_z a b ≡ true → gap a b ≡ above a b
gap_above (pos a) (pos b) h = refl
gap_above (pos a) (negsuc b) h = refl
gap_above (negsuc a) (pos b) h = refl
gap_above (negsuc a) (negsuc b) h = omega arith

gap_reaches : (a b : ℤ) → le_z a b ≡ true → b ≡ a +ℤ pos (gap a b)
gap_reaches a b h = sym (-ℤ-+ℤ_cancel b a) ∙ +ℤ_comm (b -ℤ a) a ∙ ap (λ (z : ℤ). a +ℤ z) (difference a b h)

from_least : (a : ℤ) (n : ℕ) → le_z a (a +ℤ pos n) ≡ true
from_least (pos a) n = le-leb a (a + n) (omega arith)
from_least (negsuc a) n = elim (tested (ltb n (suc a))) [
  | passed e ↦ rw e (le-leb (suc a - suc n) a (omega arith))
  | failed e ↦ rw e
]

distance_up : (a : ℤ) (n : ℕ) → distance a (a +ℤ pos n) ≡ n
distance_up a n = ap nat_abs (ap (λ (z : ℤ). z -ℤ a) (+ℤ_comm a (pos n)) ∙ +ℤ-neg_ℤ_cancel (pos n) a)

-- ---- what a range admits

module _ (r : Range) (x : ℤ) where
  abbrev inside : Bool
  inside = in_range r.least r.greatest x

  abbrev on : Bool
  on = multiple r.increment (distance r.least x)

  -- the rule of the answers by history
  pub stepped_so : admits r x ≡ stepped r.least r.greatest r.increment x
  stepped_so = elim (tested (le_z r.least x)) [
    | failed e ↦ rw e
    | passed e ↦
        ap (λ (b : Bool). inside && b)
        (whole_so r.increment (distance r.least x) ∙
        ap (whole r.increment) (distance_gap r.least x e ∙ gap_above r.least x e))
  ]

  only_steps : admits r x ≡ true → OnStep r x
  only_steps e =
      let h : le_z r.least x ≡ true = and_l (le_z r.least x) (le_z x r.greatest) (and_l inside on e) in
      let m : multiple r.increment (gap r.least x) ≡ true = subst (λ (n : ℕ). multiple r.increment n ≡ true) (distance_gap r.least x h) (and_r inside on e) in
      record {
        steps = gap r.least x / r.increment;
        reached = gap_reaches r.least x h ∙ ap (λ (n : ℕ). r.least +ℤ pos n) (times_multiple r.increment (gap r.least x) m);
        not_above = and_r (le_z r.least x) (le_z x r.greatest) (and_l inside on e);
      }

  each_step : OnStep r x → admits r x ≡ true
  each_step s =
      let n : ℕ = s.steps * r.increment in
      let h : le_z r.least x ≡ true = ap (le_z r.least) s.reached ∙ from_least r.least n in
      let d : distance r.least x ≡ n = ap (distance r.least) s.reached ∙ distance_up r.least n in
      rw (h, s.not_above, d) (multiple_times r.increment s.steps)

  -- a range with an increment of 1 admits exactly what lies in it
  pub unstepped : r.increment ≡ 1 → admits r x ≡ lies_in r x
  unstepped e = elim (tested inside) [
    | failed f ↦ rw f
    | passed f ↦ rw (f, e, mod-one (distance r.least x))
  ]

pub allows_steps : AllowsSteps admits
allows_steps = record { only = only_steps; each = each_step }

-- two judges of this kind say the same of every number
pub judges_agree : (f g : Range → ℤ → Bool) → AllowsSteps f → AllowsSteps g → (r : Range) (x : ℤ) → f r x ≡ g r x
judges_agree f g a b r x = elim (tested (f r x)) [
  | passed e ↦ e ∙ sym (b.each r x (a.only r x e))
  | failed e ↦ elim (tested (g r x)) [
    | passed h ↦ absurd (true≢false (sym (a.each r x (b.only r x h)) ∙ e))
    | failed h ↦ e ∙ sym h
  ]
]

-- the least value of every range that a machine can be opened with is admitted
pub least_admitted : (r : Range) → is_range r ≡ true → admits r r.least ≡ true
least_admitted r e = each_step r r.least (record {
  steps = 0;
  reached = sym (ap (λ (n : ℕ). r.least +ℤ pos n) (zero-mul r.increment) ∙ +ℤ_idr r.least);
  not_above = and_l (le_z r.least r.greatest) (not (eqb r.increment 0)) e;
})

-- ---- two admitted targets

cancels : (l : ℤ) (a b : ℕ) → (l +ℤ pos b) -ℤ (l +ℤ pos a) ≡ pos b -ℤ pos a
cancels l a b =
    let n : ℤ = neg_ℤ (pos a) in
    (λ i. +ℤ_comm l (pos b) i +ℤ neg_ℤ-+ℤ l (pos a) i) ∙ +ℤ_assoc (pos b) l (neg_ℤ l +ℤ n) ∙
    ap (λ (z : ℤ). pos b +ℤ z) (sym (+ℤ_assoc l (neg_ℤ l) n) ∙ ap (λ (z : ℤ). z +ℤ n) (+ℤ_invr l) ∙ +ℤ_idl n)

up_by : (a b : ℕ) → a ≤ b → nat_abs (pos b -ℤ pos a) ≡ b - a
up_by a b h = ap nat_abs (difference (pos a) (pos b) (le-leb a b h))

down_by : (a b : ℕ) → b ≤ a → nat_abs (pos b -ℤ pos a) ≡ a - b
down_by zero b h = omega arith
down_by (suc a) b h = elim (tested (ltb b (suc a))) [
  | passed e ↦ rw e (let k : b < suc a = ltb-true b (suc a) e in omega arith)
  | failed e ↦ rw e (let k : suc a ≤ b = ltb-false b (suc a) e in omega arith)
]

sub_times : (i m n : ℕ) → (n - m) * i ≡ n * i - m * i
sub_times i m n = mul_comm (n - m) i ∙ mul-sub i n m ∙ (λ j. mul_comm i n j - mul_comm i m j)

between_steps : (i m n : ℕ) → (k : ℕ) × (nat_abs (pos (n * i) -ℤ pos (m * i)) ≡ k * i)
between_steps i m n = elim (tested (leb m n)) [
  | passed h ↦ (n - m, up_by (m * i) (n * i) (mul-le-mul_right i (leb-true m n h)) ∙ sym (sub_times i m n))
  | failed h ↦ (m - n, down_by (m * i) (n * i) (mul-le-mul_right i (le_of_lt (leb-false m n h))) ∙ sym (sub_times i n m))
]

-- between two admitted targets there is a multiple of the increment
pub admitted_apart : (r : Range) (x y : ℤ) → admits r x ≡ true → admits r y ≡ true → (k : ℕ) × (distance x y ≡ k * r.increment)
admitted_apart r x y e f =
    let s : OnStep r x = only_steps r x e in
    let t : OnStep r y = only_steps r y f in
    let g : (k : ℕ) × (nat_abs (pos (t.steps * r.increment) -ℤ pos (s.steps * r.increment)) ≡ k * r.increment) = between_steps r.increment s.steps t.steps in
    (g.0, (λ i. distance (s.reached i) (t.reached i)) ∙ ap nat_abs (cancels r.least (s.steps * r.increment) (t.steps * r.increment)) ∙ g.1)

-- ---- without steps

pub allowed_unstepped : (r : Ranges) → ByOne r → (b : Bound) (p : List ℕ) → allowed r b p ≡ allowed_before r b p
allowed_unstepped r u Free p = refl
allowed_unstepped r u Speed p = unstepped (range_of r speed) (value Speed p) (u.each speed)
allowed_unstepped r u Inclination p = unstepped (range_of r inclination) (value Inclination p) (u.each inclination)
allowed_unstepped r u Resistance p = unstepped (range_of r resistance) (value Resistance p) (u.each resistance)
allowed_unstepped r u Power p = unstepped (range_of r power) (value Power p) (u.each power)
allowed_unstepped r u HeartRate p = unstepped (range_of r heart_rate) (value HeartRate p) (u.each heart_rate)
allowed_unstepped r u OneOrTwo p = refl

range_unstepped : (r : Range) → r.increment ≡ 1 → is_range r ≡ ordered r
range_unstepped r e = elim (tested (ordered r)) [
  | failed f ↦ rw f
  | passed f ↦ rw (f, e)
]

pub ranges_unstepped : (r : Ranges) → ByOne r → are_ranges r ≡ ranges_before r
ranges_unstepped r u = λ i.
    range_unstepped (range_of r speed) (u.each speed) i && (range_unstepped (range_of r inclination) (u.each inclination) i &&
    (range_unstepped (range_of r resistance) (u.each resistance) i && (range_unstepped (range_of r power) (u.each power) i &&
    range_unstepped (range_of r heart_rate) (u.each heart_rate) i)))
