-- `has` meets its contract: a set has only 32 bits. Assumes nothing.
use Prim.Native.Nat.{◌<◌, ◌^◌}
use native.Mathlib.Nat.{le_trans}
use lib.Pow.{pow_mono}
use borrow.Author.Rules.{rules}
use mathlib.Core.Path.{refl, sym}
use Rattle.record.specs.Groups.{has}
use Rattle.record.proofs.Sets.{has_above}
use Rattle.record.proofs.groups.has.Goals as goal

pub returns-then-bit-ge32 : goal.returns-then-bit-ge32
unfolding has
returns-then-bit-ge32 c = let h : c.args.set < 2 ^ 32 = search rules in
    sym (has_above c.args.set c.args.bit (le_trans h (pow_mono c.if-bit-ge32.true)))

pub returns : goal.returns
unfolding has
returns c = refl
