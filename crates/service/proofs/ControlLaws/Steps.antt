-- The laws of a range's distances: how far one number is above another.
use Prim.Native.Nat.{ℕ, zero, suc, ◌+◌, ◌-◌, ◌≤◌, suc-le-suc}
use mathlib.Core.Path.{◌≡◌, refl, sym, ap}
use mathlib.Core.Bool.{true, true≢false}
use native.Mathlib.Omega.{arith}
use lib.IntN.{ℤ, pos, negsuc, nat_abs, sub_ℕ, ◌-ℤ◌}
use lib.Signed.{le_z}
use borrow.Author.Tests.{leb-true, le-ltb}
use Rattle.service.specs.Control.Ranges.{distance}

-- how far b is above a, by their signs
abbrev pub gap : ℤ → ℤ → ℕ
gap (pos a) (pos b) = b - a
gap (pos a) (negsuc b) = 0
gap (negsuc a) (pos b) = b + suc a
gap (negsuc a) (negsuc b) = suc a - suc b

sub_plain : (a b : ℕ) → b ≤ a → sub_ℕ a b ≡ pos (a - b)
sub_plain a b h = rw (le-ltb a b h)

pub difference : (a b : ℤ) → le_z a b ≡ true → b -ℤ a ≡ pos (gap a b)
difference (pos zero) (pos b) h = ap pos (omega arith)
difference (pos (suc a)) (pos b) h = sub_plain b (suc a) (leb-true (suc a) b h)
difference (pos a) (negsuc b) h = absurd (true≢false (sym h))
difference (negsuc a) (pos b) h = refl
difference (negsuc a) (negsuc b) h = sub_plain (suc a) (suc b) (suc-le-suc (leb-true b a h))

pub distance_gap : (a b : ℤ) → le_z a b ≡ true → distance a b ≡ gap a b
distance_gap a b h = ap nat_abs (difference a b h)
