-- Rule 2 of collecting, stated for bits: `drops` states it for masks.
use Prim.Native.Nat.{ℕ, suc, ◌%◌, ◌^◌, ◌<◌, ◌≤◌}
use mathlib.Core.Path.{◌≡◌, refl, sym, ap, ◌∙◌}
use mathlib.Core.Bool.{true, false, ◌&&◌, true≢false}
use native.Mathlib.Nat.{le_trans}
use lib.Bits.{bit_and, and_zero_r}
use lib.Dec.{eqb, leb}
use lib.Pow.{pow_mono, pow_pos}
use Rattle.record.specs.Groups.{has}
use Rattle.record.proofs.Sets.{Sub, and_of_sub, has_and, has_empty}
use Rattle.record.proofs.Tests.{Tested, passed, failed, tested, leb_le, leb_lt, leb_true, leb_false, eqb_false, and_l, and_r}
use Rattle.service.specs.declared.collector.Told.{Told}
use Rattle.service.specs.declared.collector.Told.TheVariants.{Open, Fixed}
use Rattle.service.specs.Collector.{drops, lowest}
use Rattle.service.proofs.Lowest.{lowest_at}

-- "if fixed, when its lowest group is not above the highest held": with b the part's lowest group and c the highest held, groups are dropped exactly if b is
-- not above c
pub fixed_drops : (told held groups b c : ℕ) → b < 15 → groups % 2 ^ b ≡ 0 → has groups b ≡ true → 2 ^ c ≤ held → held < 2 ^ suc c →
    drops (Fixed told) held groups ≡ leb b c
fixed_drops told held groups b c l z e h k =
    let n : eqb groups 0 ≡ false = eqb_false (λ (x : groups ≡ 0). true≢false (sym e ∙ ap (λ (g : ℕ). has g b) x ∙ has_empty b)) in
    let m : lowest 15 groups ≡ 2 ^ b = lowest_at 15 b groups l z e in
    rw (n, m) (either (tested (leb b c)))
  where
    either : Tested (leb b c) → leb (2 ^ b) held ≡ leb b c
    either (passed t) = leb_true (le_trans (pow_mono (leb_le b c t)) h) ∙ sym t
    either (failed t) = leb_false (le_trans k (pow_mono (leb_lt b c t))) ∙ sym t

-- if nothing is held, nothing is dropped
pub fixed_keeps : (told groups b : ℕ) → b < 15 → groups % 2 ^ b ≡ 0 → has groups b ≡ true → drops (Fixed told) 0 groups ≡ false
fixed_keeps told groups b l z e =
    let n : eqb groups 0 ≡ false = eqb_false (λ (x : groups ≡ 0). true≢false (sym e ∙ ap (λ (g : ℕ). has g b) x ∙ has_empty b)) in
    rw (n, lowest_at 15 b groups l z e) (leb_false (pow_pos b))

-- "if open, when any of its groups is held": a group that is in both sets drops the held ones
pub open_drops : (held groups b : ℕ) → has held b ≡ true → has groups b ≡ true → drops Open held groups ≡ true
open_drops held groups b h g =
    let both : has (bit_and held groups) b ≡ true = has_and held groups b ∙ rw (h, g) in
    rw (eqb_false (λ (x : bit_and held groups ≡ 0). true≢false (sym both ∙ ap (λ (s : ℕ). has s b) x ∙ has_empty b)))

-- and if no group is in both, nothing is dropped
pub open_keeps : (held groups : ℕ) → ((b : ℕ) → has held b ≡ true → has groups b ≡ false) → drops Open held groups ≡ false
open_keeps held groups none =
    let s : Sub (bit_and held groups) 0 = record { member = λ i e. absurd (apart i (tested (has held i)) (sym (has_and held groups i) ∙ e)) } in
    let z : bit_and held groups ≡ 0 = sym (and_of_sub (bit_and held groups) 0 s) ∙ and_zero_r (bit_and held groups) in rw z
  where
    apart : (i : ℕ) → Tested (has held i) → (has held i && has groups i) ≡ true → ⊥
    apart i (passed t) e = true≢false (sym (and_r (has held i) (has groups i) e) ∙ none i t)
    apart i (failed t) e = true≢false (sym (and_l (has held i) (has groups i) e) ∙ t)

-- "A part that names no optional group drops nothing."
pub none_drops : (told : Told) (held : ℕ) → drops told held 0 ≡ false
none_drops Open held = rw (and_zero_r held)
none_drops (Fixed set) held = refl
