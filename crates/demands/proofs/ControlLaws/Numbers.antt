-- The number of an op code by what it does, and of a result by whether it is a success.
use Rattle.std.specs.Prelude.{Some}
use Prim.Native.Nat.{ℕ, ◌≤◌}
use mathlib.Core.Path.{◌≡◌, refl}
use mathlib.Core.Bool.{Bool, true, false, true≢false}
use lib.Dec.{eqb, leb}
use Rattle.record.proofs.Tests.{eqb_eq, leb_le}
use Rattle.service.specs.declared.control.op_codes.OpCode.{OpCode}
use Rattle.service.specs.declared.control.op_codes.Act.{Act}
use Rattle.service.specs.declared.control.op_codes.Act.TheVariants.{TakesControl, Resets, Starts, Halts, Stores, SpinsDown}
use Rattle.service.specs.declared.control.judging.WriteResult.{WriteResult}
use Rattle.service.specs.declared.control.judging.WriteResult.TheVariants.{Success, NotSupported, InvalidParameter, OperationFailed, ControlNotPermitted}
use Rattle.service.specs.Control.OpCodes.{op_code}
use Rattle.service.specs.Control.Judging.{result_number, succeeds}
use Rattle.service.proofs.ControlLaws.Rule.{table_rule}

-- only 00 takes control, and only 01 resets
abbrev pub Number : ℕ → Act → Type 0
Number o TakesControl = o ≡ 0x00
Number o Resets = o ≡ 0x01
Number o Starts = 2 ≤ o
Number o Halts = 2 ≤ o
Number o (Stores at) = 2 ≤ o
Number o SpinsDown = 2 ≤ o

abbrev numbered : ℕ → Act → Bool
numbered o TakesControl = eqb o 0x00
numbered o Resets = eqb o 0x01
numbered o Starts = leb 2 o
numbered o Halts = leb 2 o
numbered o (Stores at) = leb 2 o
numbered o SpinsDown = leb 2 o

pub number_so : (o : ℕ) (x : OpCode) → op_code o ≡ Some x → Number o x.act
number_so o x e = from x.act (table_rule (λ o x. numbered o x.act) refl o x e)
  where
    from : (a : Act) → numbered o a ≡ true → Number o a
    from TakesControl h = eqb_eq o 0x00 h
    from Resets h = eqb_eq o 0x01 h
    from Starts h = leb_le 2 o h
    from Halts h = leb_le 2 o h
    from (Stores at) h = leb_le 2 o h
    from SpinsDown h = leb_le 2 o h

-- a result that is no success is not 01
pub not_01 : (r : WriteResult) → succeeds r ≡ false → eqb (result_number r) (result_number Success) ≡ false
not_01 Success e = absurd (true≢false e)
not_01 NotSupported e = refl
not_01 InvalidParameter e = refl
not_01 OperationFailed e = refl
not_01 ControlNotPermitted e = refl
