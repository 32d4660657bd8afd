-- `u16_at` meets its contract: two octets spell a number below 256 ^ 2. Assumes nothing.
use native.Mathlib.Omega.{arith}
use Rattle.record.proofs.OctetLaws.{octets_below}
use Rattle.record.proofs.octets.u16_at.Goals as goal

pub overflow_cast-result : goal.overflow_cast-result
overflow_cast-result c = record { fits = omega (arith, c.number_at.ensures, octets_below 2 c.args.at c.args.s.now c.type_inv.s) }
