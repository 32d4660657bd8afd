-- How long a notification can be. Assumes nothing.
use Prim.Native.Nat.{ℕ, ◌+◌, ◌≤◌}
use native.Mathlib.Omega.{arith}
use Rattle.record.specs.Groups.{listed, set_length, flags_octets}
use Rattle.record.proofs.Tables.{octets_most, flags_most}
use Rattle.reference.specs.Tables.{whole_length}

-- a notification with all groups
pub whole_most : (kind : ℕ) → whole_length kind ≤ 67
unfolding whole_length
whole_most kind =
    let f : flags_octets kind ≤ 3 = flags_most kind in
    let g : set_length kind (listed kind + 1) ≤ 64 = octets_most kind (listed kind + 1) in omega arith
