-- Octets with their count, and octets that are copied over others.
use Prim.Native.Nat.{ℕ, ◌+◌, ◌-◌, ◌≤◌}
use mathlib.Core.Path.{◌≡◌, refl}
use mathlib.Core.List.{List, ◌++◌, append_assoc}
use lib.ListN.{length, take, drop, replicate}
use lib.Seq.{take_at}
use Rattle.std.proofs.lemmas.List.{drop-drop}
use Rattle.std.proofs.lemmas.List.Edits.{sets-eq}
use Rattle.record.specs.Octets.{placed}
use Rattle.service.specs.Control.Counted.{boxed}

pub counts : (p : List ℕ) → take (length p) (boxed p).octets ≡ p
counts p = take_at p (replicate (11 - length p) 0) (length p) refl

-- a copy into a range writes octets one after another
pub copied : (out octets : List ℕ) (at n : ℕ) → n ≡ length octets → at + length octets ≤ length out →
    take at out ++ (octets ++ drop n (drop at out)) ≡ placed out at octets
copied out octets at n e h = rw (e, sets-eq octets out at h, drop-drop, append_assoc)
