-- What a run says over its speeds, when one more is fed.
use Rattle.std.specs.Prelude.{Option}
use Prim.Native.Nat.{ℕ}
use mathlib.Core.Path.{◌≡◌, refl, sym}
use mathlib.Core.Bool.{Bool, true, false, cond, not, ◌&&◌, ◌||◌, true≢false}
use mathlib.Core.List.{List, [], ◌∷◌, ◌++◌, append-nil}
use Rattle.record.proofs.Tests.{passed, failed, tested}
use Rattle.service.specs.declared.control.spin_down.TargetSpeeds.{TargetSpeeds}
use Rattle.service.specs.declared.control.spin_down.Run.{Run}
use Rattle.service.specs.declared.control.spin_down.Run.TheVariants.{Off, Quiet, Warned}
use Rattle.service.specs.Control.SpinDown.{on, success_said, stop_said, said_at, run_at}
use Rattle.demands.specs.Control.Point.{flywheel}
use Rattle.demands.specs.Control.Laws.{any}
use Rattle.demands.specs.Control.Runs.{Led, at_most, feeding, run_of, said_by, first_above, words}

-- ---- truth values

or_no : (a : Bool) → (a || false) ≡ a
or_no true = refl
or_no false = refl

-- a run that is on, with or without 4 said
abbrev led : Bool → Run
led a = cond a Warned Quiet

on_of : (z a : Bool) → on (cond z (led a) Off) ≡ z
on_of true true = refl
on_of true false = refl
on_of false a = refl

-- there is a run if the last one is on
pub on_led : (t : TargetSpeeds) (r : Led) → on (run_of t r) ≡ r.on
on_led t r = on_of r.on (any (at_most t.high) r.speeds)

module _ (t : TargetSpeeds) (v : ℕ) where
  abbrev low : Bool
  low = at_most t.low v

  abbrev high : Bool
  high = at_most t.high v

  -- the run after one more speed, and what is said at it
  led_run : (a : Bool) → run_at t (led a) v ≡ cond (not low) (led (a || high)) Off
  led_run true = elim (tested low) [
    | passed e ↦ rw e
    | failed e ↦ rw e
  ]
  led_run false = elim (tested low) [
    | passed e ↦ rw e
    | failed e ↦ rw e
  ]

  led_says : (a : Bool) → said_at t (led a) v ≡ cond low success_said (cond (high && not a) stop_said [])
  led_says true = elim (tested high) [
    | passed e ↦ rw e
    | failed e ↦ rw e
  ]
  led_says false = elim (tested high) [
    | passed e ↦ rw e
    | failed e ↦ rw e
  ]

-- ---- lists of speeds

any_more : (f : ℕ → Bool) (vs : List ℕ) (v : ℕ) → any f (vs ++ v ∷ []) ≡ (any f vs || f v)
any_more f [] v = or_no (f v)
any_more f (u ∷ vs) v = elim (tested (f u)) [
  | passed e ↦ rw e
  | failed e ↦ rw e (any_more f vs v)
]

module _ (t : TargetSpeeds) where
  first_more : (vs : List ℕ) (v : ℕ) →
      first_above t (vs ++ v ∷ []) ≡ cond (any (at_most t.high) vs) (first_above t vs) (at_most t.high v && not (at_most t.low v))
  first_more [] v = elim (tested (at_most t.high v)) [
    | passed e ↦ rw e
    | failed e ↦ rw e
  ]
  first_more (u ∷ vs) v = elim (tested (at_most t.high u)) [
    | passed e ↦ rw e
    | failed e ↦ rw e (first_more vs v)
  ]

  -- if no speed is at or below low, 4 was said at the first one at or below high
  first_any : (vs : List ℕ) → any (at_most t.low) vs ≡ false → first_above t vs ≡ any (at_most t.high) vs
  first_any [] h = refl
  first_any (u ∷ vs) h = elim (tested (at_most t.low u)) [
    | passed e ↦ absurd (true≢false (rw e at h))
    | failed e ↦ elim (tested (at_most t.high u)) [
      | passed g ↦ rw (g, e)
      | failed g ↦ rw g (first_any vs (rw e at h))
    ]
  ]

  -- ---- one more speed

  spoken_bits : (a l h : Bool) →
      (cond a stop_said [] ++ []) ++ cond l success_said (cond (h && not a) stop_said []) ≡
      cond (cond a a (h && not l)) stop_said [] ++ cond l success_said []
  spoken_bits true true true = refl
  spoken_bits true true false = refl
  spoken_bits true false true = refl
  spoken_bits true false false = refl
  spoken_bits false true true = refl
  spoken_bits false true false = refl
  spoken_bits false false true = refl
  spoken_bits false false false = refl

  words_more : (vs : List ℕ) (v : ℕ) → any (at_most t.low) vs ≡ false →
      words t vs ++ said_at t (led (any (at_most t.high) vs)) v ≡ words t (vs ++ v ∷ [])
  words_more vs v h =
      let a : Bool = any (at_most t.high) vs in
      rw (led_says t v a, first_more vs v, any_more (at_most t.low) vs v, h, first_any vs h) (spoken_bits a (at_most t.low v) (at_most t.high v))

  pub fed_run : (r : Led) (v : ℕ) → run_at t (run_of t r) v ≡ run_of t (feeding t (flywheel v) r)
  fed_run r v = elim (tested r.on) [
    | failed e ↦ rw e
    | passed e ↦ rw (e, any_more (at_most t.high) r.speeds v) (led_run t v (any (at_most t.high) r.speeds))
  ]

  not_low : (l : Bool) → not l ≡ true → l ≡ false
  not_low true e = absurd (true≢false (sym e))
  not_low false e = refl

  -- a run, by its parts
  abbrev run_with : Bool → Option ℕ → List ℕ → Led
  run_with b w vs = record { on = b; starter = w; speeds = vs }

  above_more : (b : Bool) (w : Option ℕ) (vs : List ℕ) (v : ℕ) → (b ≡ true → any (at_most t.low) vs ≡ false) →
      (feeding t (flywheel v) (run_with b w vs)).on ≡ true → any (at_most t.low) (feeding t (flywheel v) (run_with b w vs)).speeds ≡ false
  above_more true w vs v h o = rw (any_more (at_most t.low) vs v, h refl) (not_low (at_most t.low v) o)
  above_more false w vs v h o = absurd (true≢false (sym o))

  -- a run that is on after a speed has had no speed at or below low, and was on before, with the same starter
  pub fed_above : (r : Led) (v : ℕ) → (r.on ≡ true → any (at_most t.low) r.speeds ≡ false) →
      (feeding t (flywheel v) r).on ≡ true → any (at_most t.low) (feeding t (flywheel v) r).speeds ≡ false
  fed_above r v = above_more r.on r.starter r.speeds v

  on_before : (b : Bool) (w : Option ℕ) (vs : List ℕ) (v : ℕ) → (feeding t (flywheel v) (run_with b w vs)).on ≡ true →
      (b ≡ true) × (w ≡ (feeding t (flywheel v) (run_with b w vs)).starter)
  on_before true w vs v o = (refl, refl)
  on_before false w vs v o = (o, refl)

  pub fed_held : (r : Led) (v : ℕ) → (feeding t (flywheel v) r).on ≡ true → (r.on ≡ true) × (r.starter ≡ (feeding t (flywheel v) r).starter)
  fed_held r v = on_before r.on r.starter r.speeds v

  pub fed_words : (r : Led) (v : ℕ) → (r.on ≡ true → any (at_most t.low) r.speeds ≡ false) →
      words t r.speeds ++ said_at t (run_of t r) v ≡ words t (feeding t (flywheel v) r).speeds
  fed_words r v h = elim (tested r.on) [
    | failed e ↦ rw e (append-nil (words t r.speeds))
    | passed e ↦ rw e (words_more r.speeds v (h e))
  ]

  -- what is said at one more speed, from the last run
  pub said_so : (r : Led) (v : ℕ) → said_at t (run_of t r) v ≡ said_by t r v
  said_so r v = elim (tested r.on) [
    | failed e ↦ rw e
    | passed e ↦ rw e (led_says t v (any (at_most t.high) r.speeds))
  ]
