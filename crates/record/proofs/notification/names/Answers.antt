-- `names` meets its contract: the sum and the difference invert bit 0. Assumes nothing.
use Prim.Native.Nat.{◌^◌, ◌<◌}
use native.Mathlib.Omega.{arith}
use Rattle.record.specs.Groups.{listed}
use Rattle.record.proofs.Tables.{listed_below}
use Rattle.record.proofs.notification.names.Goals as goal

pub overflow_add-all : goal.overflow_add-all
overflow_add-all c = let h : listed c.args.kind < 2 ^ 15 = listed_below c.args.kind in
    record { fits = omega arith }
