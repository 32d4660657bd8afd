-- A rule of the op codes is a test that is computed over the table; it then holds for every op code that is in it.
use Prim.Native.Nat.{ℕ, ◌+◌, ◌≤◌}
use mathlib.Core.Path.{◌≡◌, refl, sym}
use mathlib.Core.Bool.{Bool, true}
use mathlib.Core.List.{List, [], ◌∷◌}
use native.Mathlib.Omega.{arith}
use lib.Dec.{eqb, leb}
use borrow.Author.Tests.{ne_eqb}
use Rattle.record.proofs.Tests.{passed, failed, tested, leb_le, eqb_eq, and_l, and_r, all}
use Rattle.service.specs.declared.control.op_codes.OpCode.{OpCode}
use Rattle.std.specs.Prelude.{Some, None}
use Rattle.service.specs.declared.control.op_codes.Act.TheVariants.{Stores}
use Rattle.service.specs.Control.OpCodes.{Line, table, look_up, op_code}
use Rattle.service.specs.Control.Parameters.{size}
use Rattle.service.specs.Control.Effects.{end_of, Room}

-- a known op code is not an unknown one
pub not_unknown : {A : Type 0} {x : OpCode} → None ≡ Some x → A
not_unknown e = absurd (let z : ◌≡◌ {A = ℕ} 0 1 = cc in omega arith)

same_code : (x y : OpCode) → Some x ≡ Some y → x ≡ y
same_code x y e = cc

-- a rule that holds for every line
module _ (f : ℕ → OpCode → Bool) where
  abbrev pub on_line : Line → Bool
  on_line l = f l.op l.code

  rule_in : (ls : List Line) → all on_line ls ≡ true → (o : ℕ) (x : OpCode) → look_up o ls ≡ Some x → f o x ≡ true
  rule_in [] h o x e = not_unknown e
  rule_in (l ∷ ls) h o x e = elim (tested (eqb o l.op)) [
    | passed t ↦
        let k : Some l.code ≡ Some x = rw t at e in
        rw (eqb_eq o l.op t, sym (same_code l.code x k)) (and_l (on_line l) (all on_line ls) h)
    | failed t ↦ rule_in ls (and_r (on_line l) (all on_line ls) h) o x (rw t at e)
  ]

  pub table_rule : all on_line table ≡ true → (o : ℕ) (x : OpCode) → op_code o ≡ Some x → f o x ≡ true
  unfolding op_code
  table_rule h o x e = rule_in table h o x e

-- ---- an op code that is not in a table, as the last arm of a `match` knows it: each of the others was tried before

abbrev pub NoneOf : Type 0 → List Line → ℕ → Type 0
NoneOf T [] o = T
NoneOf T (l ∷ ls) o = NoneOf (T × (o ≡ l.op → ⊥)) ls o

none_in : {T : Type 0} (ls : List Line) (o : ℕ) → NoneOf T ls o → T × (look_up o ls ≡ None)
none_in [] o t = (t, refl)
none_in {T} (l ∷ ls) o t =
    let r : (T × (o ≡ l.op → ⊥)) × (look_up o ls ≡ None) = none_in ls o t in
    (r.0.0, rw (ne_eqb o l.op r.0.1) r.1)

pub not_there : (o : ℕ) → NoneOf (Unit {0}) table o → op_code o ≡ None
unfolding op_code
not_there o t = (none_in table o t).1

-- ---- a parameter has ten octets at most, and a setting lies among the 49

abbrev ten : ℕ → OpCode → Bool
ten o x = leb (size x.parameter) 10

pub size_most : (o : ℕ) (x : OpCode) → op_code o ≡ Some x → size x.parameter ≤ 10
size_most o x e = leb_le (size x.parameter) 10 (table_rule ten refl o x e)

abbrev inside : ℕ → OpCode → Bool
inside o x = leb (end_of x.act (size x.parameter)) 49

pub room_for : (o : ℕ) (x : OpCode) → op_code o ≡ Some x → Room x.act (size x.parameter)
room_for o x e = leb_le (end_of x.act (size x.parameter)) 49 (table_rule inside refl o x e)

pub stored_within : (o place : ℕ) (x : OpCode) → op_code o ≡ Some x → x.act ≡ Stores place → place + size x.parameter ≤ 49
stored_within o place x e f = rw f at (room_for o x e)
