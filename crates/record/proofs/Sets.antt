-- Sets of groups as numbers: what `has` says of the bit operations, and of halves and remainders.
use Prim.Native.Nat.{ℕ, zero, suc, ◌+◌, ◌-◌, ◌*◌, ◌/◌, ◌%◌, ◌^◌, ◌<◌, ◌≤◌, min, max, suc-le-suc}
use mathlib.Core.Path.{◌≡◌, refl, sym, ap, ◌∙◌}
use mathlib.Core.Bool.{Bool, true, false, ◌&&◌, ◌||◌}
use native.Mathlib.Omega.{arith}
use native.Mathlib.Nat.{mod-eq_of_lt, one-mul, div-eq_of_lt, div_self, le_trans, mul-mod_left, suc-mul, add_comm, mod-lt, zero-lt-suc, pow-suc, div-one, zero-div, div-div-eq-div-mul, mul_comm}
use lib.Dec.{eqb, leb}
use lib.Bits.{bit_and, bit_or, and_step, or_step, and_shr, or_shr, or_shifted, and_zero_l}
use lib.Pow.{pow_pos, pow_mono, pow-lt, pow-add, split, shr_lt, field, mod-mod-pow, mod-pow-add}
use lib.Arith.{bin_ind, mod-mul, digits_lt}
use Rattle.record.specs.Groups.{has}
use Rattle.record.proofs.Tests.{leb_le, leb_lt, eqb_eq, eqb_ne, passed, failed, tested}

-- ---- membership

digit_or : (x y : ℕ) → x < 2 → y < 2 → eqb (max x y) 1 ≡ (eqb x 1 || eqb y 1)
digit_or zero zero h k = refl
digit_or zero (suc zero) h k = refl
digit_or (suc zero) zero h k = refl
digit_or (suc zero) (suc zero) h k = refl
digit_or zero (suc (suc y)) h k = absurd (omega arith)
digit_or (suc zero) (suc (suc y)) h k = absurd (omega arith)
digit_or (suc (suc x)) y h k = absurd (omega arith)

digit_and : (x y : ℕ) → x < 2 → y < 2 → eqb (min x y) 1 ≡ (eqb x 1 && eqb y 1)
digit_and zero zero h k = refl
digit_and zero (suc zero) h k = refl
digit_and (suc zero) zero h k = refl
digit_and (suc zero) (suc zero) h k = refl
digit_and zero (suc (suc y)) h k = absurd (omega arith)
digit_and (suc zero) (suc (suc y)) h k = absurd (omega arith)
digit_and (suc (suc x)) y h k = absurd (omega arith)

pub digit_lt : (a : ℕ) → a % 2 < 2
digit_lt a = mod-lt a (zero-lt-suc 1)

pub lowest_or : (a b : ℕ) → bit_or a b % 2 ≡ max (a % 2) (b % 2)
lowest_or a b = let e : bit_or a b ≡ bit_or (a / 2) (b / 2) * 2 + max (a % 2) (b % 2) = or_step a b in
    let h : a % 2 < 2 = digit_lt a in let k : b % 2 < 2 = digit_lt b in omega arith

pub lowest_and : (a b : ℕ) → bit_and a b % 2 ≡ min (a % 2) (b % 2)
lowest_and a b = let e : bit_and a b ≡ bit_and (a / 2) (b / 2) * 2 + min (a % 2) (b % 2) = and_step a b in
    let h : a % 2 < 2 = digit_lt a in let k : b % 2 < 2 = digit_lt b in omega arith

pub has_or : (a b i : ℕ) → has (bit_or a b) i ≡ (has a i || has b i)
unfolding has
has_or a b i =
    rw (or_shr a b i, lowest_or (a / 2 ^ i) (b / 2 ^ i)) (digit_or (a / 2 ^ i % 2) (b / 2 ^ i % 2) (digit_lt (a / 2 ^ i)) (digit_lt (b / 2 ^ i)))

pub has_and : (a b i : ℕ) → has (bit_and a b) i ≡ (has a i && has b i)
unfolding has
has_and a b i =
    rw (and_shr a b i, lowest_and (a / 2 ^ i) (b / 2 ^ i)) (digit_and (a / 2 ^ i % 2) (b / 2 ^ i % 2) (digit_lt (a / 2 ^ i)) (digit_lt (b / 2 ^ i)))

-- ---- subsets

pub record Sub (a b : ℕ) : Type 0 where
  pub member : (i : ℕ) → has a i ≡ true → has b i ≡ true

pub sub_trans : {a b c : ℕ} → Sub a b → Sub b c → Sub a c
sub_trans h k = record { member = λ i e. k.member i (h.member i e) }

pub sub_refl : (a : ℕ) → Sub a a
sub_refl a = record { member = λ i e. e }

pub sub_or_l : (a b : ℕ) → Sub a (bit_or a b)
sub_or_l a b = record { member = λ i e. rw (has_or, e) }

or_true : (x : Bool) → (x || true) ≡ true
or_true true = refl
or_true false = refl

pub sub_or_r : (a b : ℕ) → Sub b (bit_or a b)
sub_or_r a b = record { member = λ i e. rw (has_or, e, or_true) }

or_both : (x y z : Bool) → (x ≡ true → z ≡ true) → (y ≡ true → z ≡ true) → (x || y) ≡ true → z ≡ true
or_both true y z h k e = h refl
or_both false y z h k e = k e

pub sub_or : {a b c : ℕ} → Sub a c → Sub b c → Sub (bit_or a b) c
sub_or {a} {b} {c} h k =
    record { member = λ i e. or_both (has a i) (has b i) (has c i) (h.member i) (k.member i) (sym (has_or a b i) ∙ e) }

and_right : (x y : Bool) → (x && y) ≡ x → x ≡ true → y ≡ true
and_right x y e h = sym (rw h) ∙ e ∙ h

pub sub_of_and : (a b : ℕ) → bit_and a b ≡ a → Sub a b
sub_of_and a b e = record { member = λ i h. and_right (has a i) (has b i) (sym (has_and a b i) ∙ ap (λ (x : ℕ). has x i) e) h }

-- a set's bit 0, and its other bits, one lower in a / 2
pub has_zero : (a : ℕ) → has a 0 ≡ eqb (a % 2) 1
unfolding has
has_zero a = rw div-one

pub has_half : (a i : ℕ) → has (a / 2) i ≡ has a (suc i)
unfolding has
has_half a i = rw (div-div-eq-div-mul a 2 (2 ^ i), mul_comm 2 (2 ^ i), pow-suc 2 i)

sub_half : (a b : ℕ) → Sub a b → Sub (a / 2) (b / 2)
sub_half a b h = record { member = λ i e. has_half b i ∙ h.member (suc i) (sym (has_half a i) ∙ e) }

low_min : (x y : ℕ) → x < 2 → y < 2 → (eqb x 1 ≡ true → eqb y 1 ≡ true) → min x y ≡ x
low_min x y h k f = elim (tested (eqb x 1)) [
  | passed e ↦ let p : x ≡ 1 = eqb_eq x 1 e in let q : y ≡ 1 = eqb_eq y 1 (f e) in omega arith
  | failed e ↦ let p : x ≡ 1 → ⊥ = eqb_ne x 1 e in omega arith
]

pub and_of_sub : (a b : ℕ) → Sub a b → bit_and a b ≡ a
and_of_sub a =
    bin_ind (λ (n : ℕ). (b : ℕ) → Sub n b → bit_and n b ≡ n) (λ b s. and_zero_l b)
    (λ n ih b s.
    let e : bit_and n b ≡ bit_and (n / 2) (b / 2) * 2 + min (n % 2) (b % 2) = and_step n b in
    let l : min (n % 2) (b % 2) ≡ n % 2 = low_min (n % 2) (b % 2) (digit_lt n) (digit_lt b) (λ h. sym (has_zero b) ∙ s.member 0 (has_zero n ∙ h)) in
    let r : bit_and (n / 2) (b / 2) ≡ n / 2 = ih (b / 2) (sub_half n b s) in
    omega arith) a

pub sub_same : {a b : ℕ} → a ≡ b → Sub a b
sub_same {a} {b} e = record { member = λ i h. sym (ap (λ (x : ℕ). has x i) e) ∙ h }

-- ---- below a bit, and from it on

split_or : (n k : ℕ) → bit_or (n / 2 ^ k * 2 ^ k) (n % 2 ^ k) ≡ n
split_or n k = or_shifted (n / 2 ^ k) k (n % 2 ^ k) (mod-lt n (pow_pos k)) ∙ split n k

pub sub_low : (n k : ℕ) → Sub (n % 2 ^ k) n
sub_low n k = sub_trans (sub_or_r (n / 2 ^ k * 2 ^ k) (n % 2 ^ k)) (sub_same (split_or n k))

pub sub_high : (n k : ℕ) → Sub (n / 2 ^ k * 2 ^ k) n
sub_high n k = sub_trans (sub_or_l (n / 2 ^ k * 2 ^ k) (n % 2 ^ k)) (sub_same (split_or n k))

pub has_empty : (i : ℕ) → has 0 i ≡ false
unfolding has
has_empty i = rw (zero-div (2 ^ i))

-- a remainder by a power of two: its lowest digit, and the rest
pub mod_digit : (a k : ℕ) → a % 2 ^ suc k ≡ a / 2 % 2 ^ k * 2 + a % 2
mod_digit a k = rw (pow-suc 2 k) (mod-mul a (pow_pos k) (zero-lt-suc 1))

low_next : (a l : ℕ) → a % 2 ≡ 0 → a / 2 % 2 ^ suc l ≡ 2 ^ l → a % 2 ^ suc (suc l) ≡ 2 ^ suc l
low_next a l e h = omega (arith, mod_digit a (suc l), pow-suc 2 l)

-- the lowest bit of a set that is not empty
pub low_bit : (m a : ℕ) → 0 < a → a < 2 ^ m → (l : ℕ) × (l < m) × (a % 2 ^ suc l ≡ 2 ^ l)
low_bit zero a h k = absurd (omega arith)
low_bit (suc m) a h k = elim (tested (eqb (a % 2) 1)) [
  | passed e ↦ (0, zero-lt-suc m, eqb_eq (a % 2) 1 e)
  | failed e ↦
      let n : a % 2 ≡ 1 → ⊥ = eqb_ne (a % 2) 1 e in
      let p : a < 2 ^ m * 2 = rw (← pow-suc 2 m) k in
      let ih : (l : ℕ) × (l < m) × (a / 2 % 2 ^ suc l ≡ 2 ^ l) = low_bit m (a / 2) (omega arith) (omega arith) in
      (suc ih.0, suc-le-suc ih.1, low_next a ih.0 (omega arith) ih.2)
]

-- a set below 2 ^ i does not have bit i
pub has_above : (a i : ℕ) → a < 2 ^ i → has a i ≡ false
unfolding has
has_above a i h = rw (div-eq_of_lt h)

-- ---- bits of a set below a bit

-- the remainder by 2 ^ k has the bits of a set below k
pub has_low : (a k i : ℕ) → i < k → has (a % 2 ^ k) i ≡ has a i
unfolding has
has_low a k i h =
    let e : k ≡ suc (k - suc i) + i = omega arith in
    let f : a % 2 ^ (suc (k - suc i) + i) / 2 ^ i ≡ a / 2 ^ i % 2 ^ suc (k - suc i) = field a (suc (k - suc i)) i in
    let m : a / 2 ^ i % 2 ^ ((k - suc i) + 1) % 2 ^ 1 ≡ a / 2 ^ i % 2 ^ 1 = mod-mod-pow (a / 2 ^ i) (k - suc i) 1 in
    let s : (k - suc i) + 1 ≡ suc (k - suc i) = omega arith in
    let g : a % 2 ^ k / 2 ^ i ≡ a / 2 ^ i % 2 ^ suc (k - suc i) = ap (λ (x : ℕ). a % 2 ^ x / 2 ^ i) e ∙ f in
    let n : a / 2 ^ i % 2 ^ suc (k - suc i) % 2 ≡ a / 2 ^ i % 2 = ap (λ (x : ℕ). a / 2 ^ i % 2 ^ x % 2) (sym s) ∙ m in
    rw (g, n)

-- and none from k on
pub has_high : (a k i : ℕ) → k ≤ i → has (a % 2 ^ k) i ≡ false
has_high a k i h = has_above (a % 2 ^ k) i (le_trans (mod-lt a (pow_pos k)) (pow_mono h))

-- a set of one bit has that bit
pub has_own : (b : ℕ) → has (2 ^ b) b ≡ true
unfolding has
has_own b = rw (div_self (pow_pos b))

-- and no other
pub has_power : (b i : ℕ) → (i ≡ b → ⊥) → has (2 ^ b) i ≡ false
has_power b i n = elim (tested (leb (suc b) i)) [
  | passed e ↦ has_above (2 ^ b) i (pow-lt (leb_le (suc b) i e))
  | failed e ↦
      let l : i < suc b = leb_lt (suc b) i e in
      let k : b ≡ (b - suc i) + suc i = omega arith in
      let z : 2 ^ b % 2 ^ suc i ≡ 0 = ap (λ (x : ℕ). 2 ^ x % 2 ^ suc i) k ∙ ap (λ (x : ℕ). x % 2 ^ suc i) (pow-add 2 (b - suc i) (suc i)) ∙ mul-mod_left (2 ^ (b - suc i)) (2 ^ suc i) in
      sym (has_low (2 ^ b) (suc i) i (omega arith)) ∙ ap (λ (x : ℕ). has x i) z ∙ has_empty i
]

-- a set up to the next bit: the other bits stay
pub same_bit : (a b i : ℕ) → (i ≡ b → ⊥) → has (a % 2 ^ suc b) i ≡ has (a % 2 ^ b) i
same_bit a b i n = elim (tested (leb (suc b) i)) [
  | passed e ↦
      let l : b < i = leb_le (suc b) i e in
      has_high a (suc b) i l ∙ sym (has_high a b i (omega arith))
  | failed e ↦
      let l : i < suc b = leb_lt (suc b) i e in
      let k : i < b = omega arith in
      has_low a (suc b) i l ∙ sym (has_low a b i k)
]

-- a set below 2 ^ n stays below when it gains a bit i below n: a / 2 ^ i is even
pub add_bit : (a i n : ℕ) → has a i ≡ false → a < 2 ^ n → i < n → a + 2 ^ i < 2 ^ n
unfolding has
add_bit a i n e h l =
    let k : n ≡ suc (n - suc i) + i = omega arith in
    let p : 2 ^ n ≡ 2 ^ suc (n - suc i) * 2 ^ i = ap (λ (x : ℕ). 2 ^ x) k ∙ pow-add 2 (suc (n - suc i)) i in
    let q : a / 2 ^ i < 2 ^ suc (n - suc i) = shr_lt (suc (n - suc i)) i (rw (← k) h) in
    let d : 2 ^ suc (n - suc i) ≡ 2 ^ (n - suc i) * 2 = pow-suc 2 (n - suc i) in
    let z : a / 2 ^ i % 2 ≡ 1 → ⊥ = eqb_ne (a / 2 ^ i % 2) 1 e in
    let r : suc (a / 2 ^ i) < 2 ^ suc (n - suc i) = omega arith in
    let m : suc (a / 2 ^ i) * 2 ^ i + a % 2 ^ i < 2 ^ suc (n - suc i) * 2 ^ i = digits_lt r (mod-lt a (pow_pos i)) in
    let s : a / 2 ^ i * 2 ^ i + a % 2 ^ i ≡ a = split a i in
    let t : suc (a / 2 ^ i) * 2 ^ i ≡ a / 2 ^ i * 2 ^ i + 2 ^ i = suc-mul (a / 2 ^ i) (2 ^ i) in
    omega arith

-- ---- a set below a bit, and with the bit

low_digit : (a b : ℕ) → a % 2 ^ (b + 1) ≡ a / 2 ^ b % 2 * 2 ^ b + a % 2 ^ b
low_digit a b = ap (λ (x : ℕ). a % 2 ^ x) (add_comm b 1) ∙ mod-pow-add a 1 b

digit_of : (x : ℕ) → (eqb (x % 2) 1 ≡ true → x % 2 ≡ 1) × (eqb (x % 2) 1 ≡ false → x % 2 ≡ 0)
digit_of x = (eqb_eq (x % 2) 1, λ e. let n : x % 2 ≡ 1 → ⊥ = eqb_ne (x % 2) 1 e in omega arith)

pub mod_next : (a b : ℕ) → has a b ≡ true → a % 2 ^ (b + 1) ≡ a % 2 ^ b + 2 ^ b
unfolding has
mod_next a b e = low_digit a b ∙ rw ((digit_of (a / 2 ^ b)).0 e) (omega arith)

pub mod_stays : (a b : ℕ) → has a b ≡ false → a % 2 ^ (b + 1) ≡ a % 2 ^ b
unfolding has
mod_stays a b e = low_digit a b ∙ rw ((digit_of (a / 2 ^ b)).1 e) (omega arith)

-- a bit below 32, as the code computes it
pub one_bit : (b : ℕ) → b < 32 → 1 * 2 ^ b % 4294967296 ≡ 2 ^ b
one_bit b h =
    let p : 2 ^ b < 2 ^ 32 = pow-lt h in
    rw (one-mul (2 ^ b)) (mod-eq_of_lt p)
