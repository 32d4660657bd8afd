-- The lowest group of a set.
use Prim.Native.Nat.{ℕ, zero, suc, ◌+◌, ◌*◌, ◌/◌, ◌%◌, ◌^◌, ◌<◌, ◌≤◌, zero-le}
use mathlib.Core.Path.{◌≡◌, refl, sym, ◌∙◌}
use mathlib.Core.Bool.{true, false}
use native.Mathlib.Nat.{mod-one, pow-suc}
use native.Mathlib.Omega.{arith}
use lib.Dec.{eqb}
use Rattle.record.specs.Groups.{has}
use Rattle.record.proofs.Sets.{has_zero, has_half, mod_digit}
use Rattle.record.proofs.Tests.{passed, failed, tested, eqb_false, eqb_eq, eqb_ne}
use Rattle.service.specs.Collector.{lowest}

-- it is the bit below which there is no other
pub lowest_at : (n b set : ℕ) → b < n → set % 2 ^ b ≡ 0 → has set b ≡ true → lowest n set ≡ 2 ^ b
unfolding lowest
lowest_at zero b set h z e = absurd (omega arith)
lowest_at (suc n) zero set h z e = rw (sym (has_zero set) ∙ e)
lowest_at (suc n) (suc b) set h z e =
    let m : set / 2 % 2 ^ b * 2 + set % 2 ≡ 0 = sym (mod_digit set b) ∙ z in
    let d : eqb (set % 2) 1 ≡ false = eqb_false (λ (x : set % 2 ≡ 1). omega arith) in
    let ih : lowest n (set / 2) ≡ 2 ^ b = lowest_at n b (set / 2) (omega arith) (omega arith) (has_half set b ∙ e) in
    rw (d, ih, pow-suc 2 b) (omega arith)

-- a set with no bit among the first n has none
pub lowest_none : (n set : ℕ) → set % 2 ^ n ≡ 0 → lowest n set ≡ 0
unfolding lowest
lowest_none zero set z = refl
lowest_none (suc n) set z =
    let m : set / 2 % 2 ^ n * 2 + set % 2 ≡ 0 = sym (mod_digit set n) ∙ z in
    let d : eqb (set % 2) 1 ≡ false = eqb_false (λ (x : set % 2 ≡ 1). omega arith) in
    let ih : lowest n (set / 2) ≡ 0 = lowest_none n (set / 2) (omega arith) in
    rw (d, ih)

-- as a number it is at most the set
pub lowest_le : (n a : ℕ) → lowest n a ≤ a
unfolding lowest
lowest_le zero a = zero-le
lowest_le (suc n) a = elim (tested (eqb (a % 2) 1)) [
  | passed e ↦ let h : a % 2 ≡ 1 = eqb_eq (a % 2) 1 e in rw e (omega arith)
  | failed e ↦ rw e (let h : lowest n (a / 2) ≤ a / 2 = lowest_le n (a / 2) in omega arith)
]

-- and at least 2 ^ k if there is no bit below k
pub lowest_ge : (n k a : ℕ) → 0 < a → a < 2 ^ n → a % 2 ^ k ≡ 0 → 2 ^ k ≤ lowest n a
unfolding lowest
lowest_ge zero k a h l d = absurd (omega arith)
lowest_ge (suc n) zero a h l d = elim (tested (eqb (a % 2) 1)) [
  | passed e ↦ rw e (omega arith)
  | failed e ↦
      let m : a % 2 ≡ 1 → ⊥ = eqb_ne (a % 2) 1 e in
      let p : a < 2 ^ n * 2 = rw (← pow-suc 2 n) l in
      let ih : 1 ≤ lowest n (a / 2) = lowest_ge n zero (a / 2) (omega arith) (omega arith) (mod-one (a / 2)) in
      rw e (omega arith)
]
lowest_ge (suc n) (suc k) a h l d =
    let m : a / 2 % 2 ^ k * 2 + a % 2 ≡ 0 = sym (mod_digit a k) ∙ d in
    let e : eqb (a % 2) 1 ≡ false = eqb_false (λ (x : a % 2 ≡ 1). omega arith) in
    let p : a < 2 ^ n * 2 = rw (← pow-suc 2 n) l in
    let ih : 2 ^ k ≤ lowest n (a / 2) = lowest_ge n k (a / 2) (omega arith) (omega arith) (omega arith) in
    rw (e, pow-suc 2 k) (omega arith)
