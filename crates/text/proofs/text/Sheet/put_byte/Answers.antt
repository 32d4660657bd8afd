-- `put_byte` meets its contract: within the buffer the octet is stored, and past its end nothing is. Assumes nothing.
use native.Mathlib.Omega.{arith}
use mathlib.Core.Path.{◌∙◌, sym, refl}
use lib.Seq.{set_out}
use Rattle.text.proofs.Writing.{by_sets, put}
use Rattle.text.proofs.text.Sheet.put_byte.Goals as goal
use Rattle.text.proofs.text.Sheet.put_byte.Goals.{then-at-self, else-at-self}

pub returns : goal.returns
returns c = elim c.if-at-self.branch [
  | then-at-self w ↦ rw w.self-is (put refl (record { octets = sym (by_sets _ _ _); place = omega arith; short = omega arith }))
  | else-at-self w ↦ rw w.self-is (put refl (record { octets = sym (by_sets _ _ _ ∙ set_out _ _ _ w.if-at-self.false); place = omega arith; short = omega arith }))
]
