-- The octets of the groups of all kinds, bit by bit, as one table. Assumes nothing.
use Prim.Native.Nat.{ℕ, zero, suc, ◌+◌, ◌-◌, ◌^◌, ◌<◌, ◌≤◌}
use mathlib.Core.Path.{◌≡◌, refl, sym, ap, ◌∙◌}
use mathlib.Core.Bool.{true, false}
use mathlib.Core.List.{List, [], ◌∷◌, map}
use native.Mathlib.Nat.{add-zero, zero-add}
use native.Mathlib.Omega.{arith}
use lib.Dec.{leb}
use lib.ListN.{get_or, get_or-eq_default}
use Rattle.std.proofs.lemmas.List.{get_or-map}
use Rattle.record.specs.declared.layout.Row.{Row}
use Rattle.record.specs.Layout.{layout, tables, treadmill, cross_trainer, step_climber, stair_climber, rower, indoor_bike}
use Rattle.record.specs.Groups.{named, size, known, group_length}
use Rattle.record.proofs.Rows.{no_group}
use Rattle.record.proofs.Tables.{bits_below}
use Rattle.record.proofs.Tests.{leb_true, leb_le, leb_lt, and_r}

-- the octets of the groups that n bits from `bit` on name
abbrev pub lengths : ℕ → ℕ → List Row → List ℕ
lengths zero bit rows = []
lengths (suc n) bit rows = size (named (2 ^ bit) rows) ∷ lengths n (suc bit) rows

at_bit : (n bit i : ℕ) (rows : List Row) → i < n → get_or (lengths n bit rows) i 0 ≡ size (named (2 ^ (i + bit)) rows)
at_bit zero bit i rows h = absurd (omega arith)
at_bit (suc n) bit zero rows h = ap (λ (b : ℕ). size (named (2 ^ b) rows)) (sym (zero-add bit))
at_bit (suc n) bit (suc i) rows h =
    let e : i + suc bit ≡ suc i + bit = omega arith in
    at_bit n (suc bit) i rows (omega arith) ∙ ap (λ (b : ℕ). size (named (2 ^ b) rows)) e

abbrev pub six : List (List Row)
six = treadmill ∷ cross_trainer ∷ step_climber ∷ stair_climber ∷ rower ∷ indoor_bike ∷ []

-- the number at a kind and a bit of the table of the six kinds and fifteen bits
at_next : (k bit : ℕ) → k < 6 → bit < 15 → get_or (get_or (map (lengths 15 0) six) k []) bit 0 ≡ group_length (suc k) bit
unfolding layout tables
at_next k bit h l =
    ap (λ (row : List ℕ). get_or row bit 0) (get_or-map (lengths 15 0) six k [] [] h)
    ∙ at_bit 15 0 bit (get_or six k []) l
    ∙ ap (λ (b : ℕ). size (named (2 ^ b) (get_or six k []))) (add-zero bit)

pub at_kind : (kind bit : ℕ) → known kind ≡ true → bit < 15 → get_or (get_or (map (lengths 15 0) six) (kind - 1) []) bit 0 ≡ group_length kind bit
at_kind zero bit e l = cc
at_kind (suc k) bit e l =
    let n : suc k - 1 ≡ k = omega arith in
    rw n (at_next k bit (leb_le (suc k) 6 (and_r (leb 1 (suc k)) (leb (suc k) 6) e)) l)

-- none past the last bit
pub past_bits : (kind bit : ℕ) → 15 ≤ bit → group_length kind bit ≡ 0
past_bits kind bit h = no_group (layout kind) 15 bit (bits_below kind) h

-- none of an unknown kind
no_kind : (kind : ℕ) → known kind ≡ false → layout kind ≡ []
unfolding layout tables
no_kind zero e = refl
no_kind (suc k) e =
    let a : leb 1 (suc k) ≡ true = leb_true (omega arith) in
    let b : leb (suc k) 6 ≡ false = rw a at e in get_or-eq_default tables [] (leb_lt (suc k) 6 b)

pub unknown_kind : (kind bit : ℕ) → known kind ≡ false → group_length kind bit ≡ 0
unfolding named size
unknown_kind kind bit e = rw (no_kind kind e)
