-- Wrong about the steps: judges of targets that break the law of `AllowsSteps`, and control points that break demand 2's predicate, whatever else they do.
use Prim.Native.Nat.{ℕ, suc, ◌+◌, ◌*◌, ◌%◌}
use mathlib.Core.Path.{◌≡◌, refl, sym, ap, subst, ◌∙◌}
use mathlib.Core.Bool.{Bool, true, false, ◌&&◌, ◌||◌, true≢false}
use mathlib.Core.List.{List, [], ◌∷◌}
use native.Mathlib.Omega.{arith}
use lib.Dec.{eqb}
use lib.ListN.{length}
use lib.IntN.{ℤ, pos, negsuc, nat_abs}
use lib.Signed.{le_z}
use Rattle.record.specs.declared.feature.Feature.{Feature}
use Rattle.record.specs.Answer.{Answer, refused, given}
use Rattle.record.specs.Feature.{feature_of}
use Rattle.record.specs.Octets.{number, signed}
use Rattle.record.proofs.Tests.{passed, failed, tested}
use Rattle.service.specs.Control.Ranges.{Range, distance, multiple, admits}
use Rattle.service.specs.Control.Calls.{Opening}
use Rattle.demands.specs.Control.Point.{Call, write, Point, run, Answers}
use Rattle.demands.specs.Control.Laws.{result_in}
use Rattle.demands.specs.Control.Worked.Stepped.{treadmill}
use Rattle.demands.specs.Control.Answered.{reversed, no_step, refusal_by}
use Rattle.demands.specs.Control.Increments.{OnStep, AllowsSteps, MaySet, speed, range_of, lies_in}
use Rattle.demands.proofs.ControlLaws.Increments.{allows_steps, judges_agree}
use Rattle.demands.proofs.ControlLaws.Demanded.{answers_told}
use Rattle.demands.proofs.ControlLaws.Targets.{grants_steps, decides_steps}

-- ---- judges

-- a range: least, greatest and increment
abbrev span : ℤ → ℤ → ℕ → Range
span a b i = record { least = a; greatest = b; increment = i }

-- a judge that says something else than `admits` of one number of one range
wrong : (f : Range → ℤ → Bool) (r : Range) (x : ℤ) {a b : Bool} → f r x ≡ a → admits r x ≡ b → (a ≡ b → ⊥) → AllowsSteps f → ⊥
wrong f r x e g n h = n (sym e ∙ judges_agree f admits h allows_steps r x ∙ g)

false≢true : false ≡ true → ⊥
false≢true e = true≢false (sym e)

-- "Our ranges don't": every number that lies in the range, 1,005 too
pub not_anywhere : AllowsSteps lies_in → ⊥
not_anywhere = wrong lies_in (span (pos 1000) (pos 2000) 10) (pos 1005) refl refl true≢false

-- the distance from 0 instead of from the least value
abbrev pub from_zero : Range → ℤ → Bool
from_zero r x = lies_in r x && multiple r.increment (nat_abs x)

pub not_from_zero : AllowsSteps from_zero → ⊥
not_from_zero = wrong from_zero (span (pos 5) (pos 100) 10) (pos 15) refl refl false≢true

-- the distance from the greatest value
abbrev pub from_greatest : Range → ℤ → Bool
from_greatest r x = lies_in r x && multiple r.increment (distance x r.greatest)

pub not_from_greatest : AllowsSteps from_greatest → ⊥
not_from_greatest = wrong from_greatest (span (pos 0) (pos 25) 10) (pos 25) refl refl true≢false

-- the greatest value allowed as well
abbrev pub ends_too : Range → ℤ → Bool
ends_too r x = admits r x || (le_z r.greatest x && le_z x r.greatest)

pub not_ends_too : AllowsSteps ends_too → ⊥
not_ends_too = wrong ends_too (span (pos 0) (pos 25) 10) (pos 25) refl refl true≢false

-- steps that go on above the greatest value, and below the least
abbrev pub above_too : Range → ℤ → Bool
above_too r x = le_z r.least x && multiple r.increment (distance r.least x)

pub not_above_too : AllowsSteps above_too → ⊥
not_above_too = wrong above_too (span (pos 0) (pos 25) 10) (pos 30) refl refl true≢false

abbrev pub below_too : Range → ℤ → Bool
below_too r x = le_z x r.greatest && multiple r.increment (distance r.least x)

pub not_below_too : AllowsSteps below_too → ⊥
not_below_too = wrong below_too (span (pos 100) (pos 200) 10) (pos 90) refl refl true≢false

-- the distance cut to 16 bits, signed: 65,535 is −1 then
abbrev pub cut : Range → ℤ → Bool
cut r x = lies_in r x && multiple r.increment (nat_abs (signed (distance r.least x % 65536)))

pub not_cut : AllowsSteps cut → ⊥
not_cut = wrong cut (span (negsuc 32767) (pos 32767) 65535) (pos 32767) refl refl false≢true

-- the increment cut to 8 bits: 256 is 0 then
abbrev pub narrow : Range → ℤ → Bool
narrow r x = lies_in r x && multiple (r.increment % 256) (distance r.least x)

pub not_narrow : AllowsSteps narrow → ⊥
not_narrow = wrong narrow (span (pos 0) (pos 1000) 256) (pos 256) refl refl false≢true

-- the increment as one more than it says, so that 0 would be a step of 1
abbrev pub one_longer : Range → ℤ → Bool
one_longer r x = lies_in r x && multiple (r.increment + 1) (distance r.least x)

pub not_one_longer : AllowsSteps one_longer → ⊥
not_one_longer = wrong one_longer (span (pos 0) (pos 100) 1) (pos 1) refl refl false≢true

-- ---- control points

module _ {S : Type 0} (p : Point S) where
  -- one that grants 1,005, in steps of 10 from 1,000 on, after any opening with this range and any calls: "accepted 1,005 and ran at 1,000"
  pub not_between_steps : (o : Opening) → o.ranges ≡ treadmill → (x : S) → p.opening o ≡ given x → (qs : List Call) (c : ℕ) →
      result_in (p.calling (run p x [] qs).1 (write c (0x02 ∷ 0xed ∷ 0x03 ∷ []))).0 ≡ 0x01 → Answers p → ⊥
  unfolding number
  not_between_steps o r x h qs c e a =
      let s : OnStep (range_of o.ranges speed) (pos 1005) = ((grants_steps p (answers_told p a)).granted o x h qs c speed (0xed ∷ 0x03 ∷ []) e).1 in
      let t : OnStep (range_of treadmill speed) (pos 1005) = subst (λ r. OnStep (range_of r speed) (pos 1005)) r s in
      let n : ◌≡◌ {A = ℕ} 1005 (1000 + t.steps * 10) = ap nat_abs t.reached in
      omega arith

  -- one that answers 1,005 of a client that may set a speed with anything but 03
  pub not_otherwise : (o : Opening) (f : Feature) → feature_of o.feature ≡ given f → o.ranges ≡ treadmill → (x : S) → p.opening o ≡ given x →
      (qs : List Call) (c : ℕ) → MaySet f (run p x [] qs).0 c speed →
      (result_in (p.calling (run p x [] qs).1 (write c (0x02 ∷ 0xed ∷ 0x03 ∷ []))).0 ≡ 0x03 → ⊥) → Answers p → ⊥
  unfolding number
  not_otherwise o f e r x h qs c m n a = n ((decides_steps p (answers_told p a)).declines o f e x h qs c speed (0xed ∷ 0x03 ∷ []) m (λ l s. off s))
    where
      off : OnStep (range_of o.ranges speed) (pos 1005) → ⊥
      off s =
          let t : OnStep (range_of treadmill speed) (pos 1005) = subst (λ r. OnStep (range_of r speed) (pos 1005)) r s in
          let d : ◌≡◌ {A = ℕ} 1005 (1000 + t.steps * 10) = ap nat_abs t.reached in
          omega arith

  -- one that declines 1,010 with 03
  pub not_short_of_steps : (o : Opening) → o.ranges ≡ treadmill → (x : S) → p.opening o ≡ given x → (qs : List Call) (c : ℕ) →
      result_in (p.calling (run p x [] qs).1 (write c (0x02 ∷ 0xf2 ∷ 0x03 ∷ []))).0 ≡ 0x03 → Answers p → ⊥
  unfolding number
  not_short_of_steps o r x h qs c e a =
      (grants_steps p (answers_told p a)).declined o x h qs c speed (0xf2 ∷ 0x03 ∷ []) e refl
      (subst (λ r. OnStep (range_of r speed) (pos 1010)) (sym r) (record { steps = 1; reached = refl; not_above = refl }))

  -- one that opens a machine with an increment of 0 in any range, whatever its Feature value, its ends and its target speeds
  pub not_without_step : (o : Opening) → no_step o.ranges ≡ true → (x : S) → p.opening o ≡ given x → Answers p → ⊥
  not_without_step o e x h a = elim (tested (eqb (length o.feature) 8)) [
    | failed f ↦ refused_open 21 (rw f)
    | passed f ↦ elim (tested (reversed o.ranges)) [
      | passed g ↦ refused_open 15 (rw (f, g))
      | failed g ↦ refused_open 15 (rw (f, g, e))
    ]
  ]
    where
      refused_open : (n : ℕ) → refusal_by o ≡ suc n → ⊥
      refused_open n r =
          let z : ◌≡◌ {A = Answer S} (refused (suc n)) (given x) = sym ((answers_told p a).refuses o n r) ∙ h in
          let y : ◌≡◌ {A = ℕ} 0 1 = cc in
          omega arith
