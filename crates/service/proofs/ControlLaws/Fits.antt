-- What a parameter that fits is known to be, and what the result of a write says of its tests.
use Prim.Native.Nat.{ℕ, ◌≤◌}
use mathlib.Core.Path.{◌≡◌, refl, sym, ◌∙◌}
use mathlib.Core.Bool.{true, false, true≢false}
use mathlib.Core.List.{List}
use lib.Dec.{eqb}
use lib.ListN.{length}
use Rattle.record.specs.Octets.{number}
use Rattle.record.proofs.Tests.{passed, failed, tested, eqb_eq, and_l, and_r}
use Rattle.service.specs.declared.control.ranges.Ranges.{Ranges}
use Rattle.service.specs.declared.control.machine.Machine.{Machine}
use Rattle.service.specs.declared.control.op_codes.OpCode.{OpCode}
use Rattle.std.specs.Prelude.{Some}
use Rattle.service.specs.declared.control.judging.WriteResult.{WriteResult}
use Rattle.service.specs.declared.control.judging.WriteResult.TheVariants.{Success}
use Rattle.service.specs.Control.Ranges.{allowed}
use Rattle.service.specs.Control.OpCodes.{op_code}
use Rattle.service.specs.Control.Parameters.{size}
use Rattle.service.specs.Control.Judging.{succeeds, supports, controls, fit, fails, judged}
use Rattle.service.specs.Control.Effects.{Room}
use Rattle.service.proofs.ControlLaws.Rule.{size_most, room_for}

module _ (ranges : Ranges) (x : OpCode) (p : List ℕ) (g : fit ranges x p ≡ true) where
  pub length_fit : length p ≡ size x.parameter
  unfolding fit
  length_fit = eqb_eq (length p) (size x.parameter) (and_l (eqb (length p) (size x.parameter)) (allowed ranges x.bound p) g)

  pub allowed_fit : allowed ranges x.bound p ≡ true
  unfolding fit
  allowed_fit = and_r (eqb (length p) (size x.parameter)) (allowed ranges x.bound p) g

  short : (o : ℕ) → op_code o ≡ Some x → length p ≤ 10
  short o e = rw length_fit (size_most o x e)

  room_fit : (o : ℕ) → op_code o ≡ Some x → Room x.act (length p)
  room_fit o e = rw length_fit (room_for o x e)

-- ---- what a result says of the tests

-- what must hold for a write that succeeds
pub record Granted (m : Machine) (c : ℕ) (x : OpCode) (p : List ℕ) : Type 0 where
  pub supported : supports m.setup.feature x.need ≡ true
  pub controlled : controls m.holder c x.act ≡ true
  pub suits : fit m.setup.ranges x p ≡ true
  pub right : fails m c x.act (number 1 p) ≡ false

-- the result of a write: 02 to 05, or 01 with all that it requires
pub data Judged (m : Machine) (c : ℕ) (x : OpCode) (p : List ℕ) : WriteResult → Type 0 where
  against : {r : WriteResult} → succeeds r ≡ false → Judged m c x p r
  for : Granted m c x p → Judged m c x p Success

pub judged_so : (m : Machine) (c : ℕ) (x : OpCode) (p : List ℕ) → Judged m c x p (judged m c x p)
unfolding judged
judged_so m c x p = elim (tested (supports m.setup.feature x.need)) [
  | failed e ↦ rw e (against refl)
  | passed e ↦ elim (tested (controls m.holder c x.act)) [
    | failed f ↦ rw (e, f) (against refl)
    | passed f ↦ elim (tested (fit m.setup.ranges x p)) [
      | failed g ↦ rw (e, f, g) (against refl)
      | passed g ↦ elim (tested (fails m c x.act (number 1 p))) [
        | passed h ↦ rw (e, f, g, h) (against refl)
        | failed h ↦ rw (e, f, g, h) (for (record { supported = e; controlled = f; suits = g; right = h }))
      ]
    ]
  ]
]

granted_so : (m : Machine) (c : ℕ) (x : OpCode) (p : List ℕ) → succeeds (judged m c x p) ≡ true → Granted m c x p
granted_so m c x p e = from (judged_so m c x p) e
  where
    from : {r : WriteResult} → Judged m c x p r → succeeds r ≡ true → Granted m c x p
    from (against f) e = absurd (true≢false (sym e ∙ f))
    from (for g) e = g

-- the parameter of a write that succeeds has ten octets at most, and there is room for it among the settings
module _ (m : Machine) (c o : ℕ) (x : OpCode) (p : List ℕ) (s : Success ≡ judged m c x p) (e : Some x ≡ op_code o) where
  granted : Granted m c x p
  granted = granted_so m c x p (rw (sym s) refl)

  pub granted_short : length p ≤ 10
  granted_short = short m.setup.ranges x p granted.suits o (sym e)

  pub granted_room : Room x.act (length p)
  granted_room = room_fit m.setup.ranges x p granted.suits o (sym e)
