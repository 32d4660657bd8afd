-- How `cut` cuts: each part's groups lie below a bit, and those that are left lie from it on.
use Prim.Native.Nat.{ℕ, zero, suc, ◌+◌, ◌*◌, ◌-◌, ◌/◌, ◌%◌, ◌^◌, ◌<◌, ◌≤◌}
use mathlib.Core.Path.{◌≡◌, ◌∙◌}
use mathlib.Core.List.{List, [], ◌∷◌}
use native.Mathlib.Omega.{arith}
use native.Mathlib.Nat.{zero-mod, mul-mod_left, mul_assoc, add-mul, zero-mul, mul-div-mul_right}
use lib.Dec.{leb, eqb}
use lib.Pow.{pow_pos, pow-add, split, shl-shr, mod-pow-add, mod-mod-pow}
use Rattle.record.specs.Groups.{set_length}
use Rattle.record.specs.Split.{fits, longest, cut}
use Rattle.record.proofs.Sets.{low_bit}
use Rattle.record.proofs.Tests.{passed, failed, tested, leb_le, leb_lt, eqb_eq, eqb_ne}
use Rattle.record.proofs.Tables.{Sound}
use Rattle.record.proofs.Runs.{longest_fits, longest_le, longest_ge}

-- a cut of the groups q * 2 ^ b, all of which are at bit b or above
pub data Cuts (kind room : ℕ) : ℕ → ℕ → List ℕ → Type 0 where
  whole : {b q : ℕ} → set_length kind (1 + q * 2 ^ b) ≤ room → Cuts kind room b q ((1 + q * 2 ^ b) ∷ [])
  more : {b q : ℕ} {ss : List ℕ} (d : ℕ) → 0 < q % 2 ^ d → set_length kind (q % 2 ^ d * 2 ^ b) ≤ room →
      Cuts kind room (d + b) (q / 2 ^ d) ss → Cuts kind room b q (q % 2 ^ d * 2 ^ b ∷ ss)

-- multiples of a power of two
pub mod_multiple : (q b k : ℕ) → k ≤ b → q * 2 ^ b % 2 ^ k ≡ 0
mod_multiple q b k h =
    let e : b ≡ (b - k) + k = omega arith in
    rw (e, pow-add 2 (b - k) k, ← mul_assoc q (2 ^ (b - k)) (2 ^ k)) (mul-mod_left (q * 2 ^ (b - k)) (2 ^ k))

pub low_part : (q d b : ℕ) → q * 2 ^ b % 2 ^ (d + b) ≡ q % 2 ^ d * 2 ^ b
low_part q d b = mod-pow-add (q * 2 ^ b) d b ∙ rw (shl-shr q b, mul-mod_left q (2 ^ b)) (omega arith)

pub high_part : (q d b : ℕ) → q * 2 ^ b / 2 ^ (d + b) ≡ q / 2 ^ d
high_part q d b = rw (pow-add 2 d b) (mul-div-mul_right q (2 ^ d) (pow_pos b))

pub both_parts : (q d b : ℕ) → q / 2 ^ d * 2 ^ (d + b) + q % 2 ^ d * 2 ^ b ≡ q * 2 ^ b
both_parts q d b =
    rw (pow-add 2 d b, ← mul_assoc (q / 2 ^ d) (2 ^ d) (2 ^ b), ← add-mul (q / 2 ^ d * 2 ^ d) (q % 2 ^ d) (2 ^ b), split q d)

module _ (kind room : ℕ) (s : Sound kind) (least : 17 ≤ room) where
  -- if groups do not fit together with the main one, the lowest of them is in the first part
  pub first_in : (set : ℕ) → set < 2 ^ 15 → room < set_length kind (1 + set) →
      (l : ℕ) × (suc l ≤ longest kind set room 15) × (set % 2 ^ suc l ≡ 2 ^ l)
  first_in set h f = elim (tested (eqb set 0)) [
    | passed e ↦
        let m : room < set_length kind (1 + 0) = rw (eqb_eq set 0 e) at f in
        let k : set_length kind 1 ≤ 17 = s.group 0 (omega arith) in absurd (omega arith)
    | failed e ↦
        let d : set ≡ 0 → ⊥ = eqb_ne set 0 e in
        let low : (l : ℕ) × (l < 15) × (set % 2 ^ suc l ≡ 2 ^ l) = low_bit 15 set (omega arith) h in
        let k : set_length kind (2 ^ low.0) ≤ 17 = s.group low.0 low.1 in
        (low.0, longest_ge kind set room 15 (suc low.0) low.1 (rw low.2 (omega arith)), low.2)
  ]

  -- so the first part ends above the bit where the set begins, and is not empty
  pub first_above : (b q L l : ℕ) → suc l ≤ L → q * 2 ^ b % 2 ^ suc l ≡ 2 ^ l → b < L
  first_above b q L l h e = elim (tested (leb (suc l) b)) [
    | passed t ↦
        let z : q * 2 ^ b % 2 ^ suc l ≡ 0 = mod_multiple q b (suc l) (leb_le (suc l) b t) in
        let p : 0 < 2 ^ l = pow_pos l in absurd (omega arith)
    | failed t ↦ let k : b < suc l = leb_lt (suc l) b t in omega arith
  ]

  first_some : (set L l : ℕ) → suc l ≤ L → set % 2 ^ suc l ≡ 2 ^ l → 0 < set % 2 ^ L
  first_some set L l h e = elim (tested (eqb (set % 2 ^ L) 0)) [
    | passed t ↦
        let m : set % 2 ^ ((L - suc l) + suc l) % 2 ^ suc l ≡ set % 2 ^ suc l = mod-mod-pow set (L - suc l) (suc l) in
        let i : (L - suc l) + suc l ≡ L = omega arith in
        let z : 0 % 2 ^ suc l ≡ set % 2 ^ suc l = rw (i, eqb_eq (set % 2 ^ L) 0 t) at m in
        let y : 0 % 2 ^ suc l ≡ 0 = zero-mod (2 ^ suc l) in
        let p : 0 < 2 ^ l = pow_pos l in absurd (omega arith)
    | failed t ↦ let d : set % 2 ^ L ≡ 0 → ⊥ = eqb_ne (set % 2 ^ L) 0 t in omega arith
  ]

cut_next : (kind room n b q d L : ℕ) → L ≡ d + b → 0 < q * 2 ^ b % 2 ^ L → set_length kind (q * 2 ^ b % 2 ^ L) ≤ room →
    Cuts kind room (d + b) (q / 2 ^ d) (cut kind room (q / 2 ^ d * 2 ^ (d + b)) n) →
    Cuts kind room b q (q * 2 ^ b % 2 ^ L ∷ cut kind room (q * 2 ^ b - q * 2 ^ b % 2 ^ L) n)
cut_next kind room n b q d L i some fit rest =
    let e : q * 2 ^ b % 2 ^ L ≡ q % 2 ^ d * 2 ^ b = rw i (low_part q d b) in
    let p : q / 2 ^ d * 2 ^ (d + b) + q % 2 ^ d * 2 ^ b ≡ q * 2 ^ b = both_parts q d b in
    let j : q * 2 ^ b - q % 2 ^ d * 2 ^ b ≡ q / 2 ^ d * 2 ^ (d + b) = omega arith in
    let positive : 0 < q % 2 ^ d = elim (tested (eqb (q % 2 ^ d) 0)) [
      | passed t ↦
          let z : q % 2 ^ d * 2 ^ b ≡ 0 = rw (eqb_eq (q % 2 ^ d) 0 t) (zero-mul (2 ^ b)) in absurd (omega arith)
      | failed t ↦ let n : q % 2 ^ d ≡ 0 → ⊥ = eqb_ne (q % 2 ^ d) 0 t in omega arith
    ] in
    let f : set_length kind (q % 2 ^ d * 2 ^ b) ≤ room = rw (← e) fit in
    rw (e, j) (more d positive f rest)

pub cuts : (kind room : ℕ) → Sound kind → 17 ≤ room → (n b q : ℕ) → b ≤ 15 → 17 ≤ n + b → q * 2 ^ b < 2 ^ 15 →
    Cuts kind room b q (cut kind room (q * 2 ^ b) n)
unfolding cut
cuts kind room s r zero b q h k l = absurd (omega arith)
cuts kind room s r (suc n) b q h k l = elim (tested (fits kind (1 + q * 2 ^ b) room)) [
  | passed e ↦ rw e (whole (leb_le (set_length kind (1 + q * 2 ^ b)) room e))
  | failed e ↦
      let set : ℕ = q * 2 ^ b in
      let L : ℕ = longest kind set room 15 in
      let low : (l : ℕ) × (suc l ≤ L) × (set % 2 ^ suc l ≡ 2 ^ l) =
      first_in kind room s r set l (leb_lt (set_length kind (1 + set)) room e) in
      let above : b < L = first_above kind room s r b q L low.0 low.1 low.2 in
      let most : L ≤ 15 = longest_le kind set room 15 in
      let d : ℕ = L - b in
      let i : L ≡ d + b = omega arith in
      let p : q / 2 ^ d * 2 ^ (d + b) + q % 2 ^ d * 2 ^ b ≡ set = both_parts q d b in
      rw e (cut_next kind room n b q d L i (first_some kind room s r set L low.0 low.1 low.2) (longest_fits kind set room 15)
      (cuts kind room s r n (d + b) (q / 2 ^ d) (omega arith) (omega arith) (omega arith)))
]
