-- Laws of octets, for any number of them: reading and writing one octet more; reading and writing are inverse; so are `signed` and `unsigned`.
use Prim.Native.Nat.{ℕ, zero, suc, ◌+◌, ◌*◌, ◌-◌, ◌/◌, ◌%◌, ◌^◌, ◌≤◌, ◌<◌}
use mathlib.Core.Path.{◌≡◌, refl, ap, ◌∙◌}
use mathlib.Core.List.{List, [], ◌∷◌, ◌++◌, map, append-nil}
use native.Mathlib.Nat.{pow-suc, one-le-pow, add-zero, zero-add, zero-lt-suc}
use native.Mathlib.Numerals.{add-one}
use native.Mathlib.Omega.{arith}
use lib.Arith.{mod-mul}
use lib.Dec.{lit<}
use lib.IntN.{ℤ, pos, negsuc}
use lib.ListN.{length, take, drop, get_or, set, length-append, drop_of_length-le}
use lib.Seq.{set_out, sets-eq, get_or-drop, drop-length}
use mir.Syntax.{w8, w16}
use mir.Val.{Fits, SFits}
use mir.Facts.{to_z-of_z, of_z-to_z}
use Rattle.record.specs.Octets.{number, spelled, placed, over, signed, unsigned}

number_nil : (n : ℕ) → number n [] ≡ 0
unfolding number
number_nil zero = refl
number_nil (suc n) = refl

-- octets past the end read as 0
pub number_past : (n : ℕ) {at : ℕ} (s : List ℕ) → length s ≤ at → number n (drop at s) ≡ 0
number_past n s h = rw (drop_of_length-le s h) (number_nil n)

pub number_one : (at : ℕ) (s : List ℕ) → number 1 (drop at s) ≡ get_or s at 0
unfolding number
number_one zero [] = refl
number_one zero (b ∷ s) = omega arith
number_one (suc at) [] = refl
number_one (suc at) (b ∷ s) = number_one at s

number_next : (n at : ℕ) (s : List ℕ) → number (suc n) (drop at s) ≡ number 1 (drop at s) + 256 * number n (drop (suc at) s)
unfolding number
number_next n zero [] = let e : number n [] ≡ 0 = number_nil n in omega arith
number_next n zero (b ∷ s) = omega arith
number_next n (suc at) [] = let e : number n [] ≡ 0 = number_nil n in omega arith
number_next n (suc at) (b ∷ s) = number_next n at s

-- reading one octet more
pub number_step : (n at : ℕ) (s : List ℕ) → number (suc n) (drop at s) ≡ number 1 (drop at s) + 256 * number n (drop (at + 1) s)
number_step n at s = rw (add-one at) (number_next n at s)

-- n octets spell less than 256 ^ n
pub number_below : (n : ℕ) (s : List ℕ) → ((i : ℕ) → get_or s i 0 < 256) → number n s < 256 ^ n
unfolding number
number_below zero s h = lit< tt
number_below (suc n) [] h = one-le-pow (suc n) 256 (lit< tt)
number_below (suc n) (b ∷ s) h =
    let p : number n s < 256 ^ n = number_below n s (λ i. h (suc i)) in
    let q : b < 256 = h 0 in
    rw (pow-suc 256 n) (omega arith)

-- the same for a slice's octets, from an index on
pub octets_below : (n at : ℕ) (s : List ℕ) → ((i : ℕ) → Fits w8 (get_or s i 0)) → number n (drop at s) < 256 ^ n
octets_below n at s h = number_below n (drop at s) (λ i. rw (get_or-drop at s i 0) (h (at + i)).fits)

pub length_spelled : (n x : ℕ) → length (spelled n x) ≡ n
unfolding spelled
length_spelled zero x = refl
length_spelled (suc n) x = ap suc (length_spelled n (x / 256))

pub number_spelled : (n x : ℕ) (rest : List ℕ) → x < 256 ^ n → number n (spelled n x ++ rest) ≡ x
unfolding spelled number
number_spelled zero x rest h = omega arith
number_spelled (suc n) x rest h =
    let p : x < 256 ^ n * 256 = rw (← pow-suc 256 n) h in
    let e : number n (spelled n (x / 256) ++ rest) ≡ x / 256 = number_spelled n (x / 256) rest (omega arith) in
    omega arith

pub spelled_number : (n : ℕ) (s : List ℕ) → n ≤ length s → ((i : ℕ) → i < n → get_or s i 0 < 256) → spelled n (number n s) ≡ take n s
unfolding spelled number
spelled_number zero s l h = refl
spelled_number (suc n) [] l h = absurd (omega arith)
spelled_number (suc n) (b ∷ s) l h =
    let q : b < 256 = h 0 (zero-lt-suc n) in
    let m : ℕ = number n s in
    let low : (b + 256 * m) % 256 ≡ b = omega arith in
    let high : (b + 256 * m) / 256 ≡ m = omega arith in
    rw (low, high) (ap (λ (r : List ℕ). b ∷ r) (spelled_number n s (omega arith) (λ i k. h (suc i) (omega arith))))

-- the n low octets of a number do not depend on the higher ones
pub spelled_low : (n x : ℕ) → spelled n (x % 256 ^ n) ≡ spelled n x
unfolding spelled
spelled_low zero x = refl
spelled_low (suc n) x =
    let q : ℕ = x / 256 % 256 ^ n in
    let e : x % 256 ^ suc n ≡ q * 256 + x % 256 = rw (pow-suc 256 n) (mod-mul x (one-le-pow n 256 (lit< tt)) (lit< tt)) in
    let low : (q * 256 + x % 256) % 256 ≡ x % 256 = omega arith in
    let high : (q * 256 + x % 256) / 256 ≡ q = omega arith in
    rw (e, low, high) (ap (λ (r : List ℕ). x % 256 ∷ r) (spelled_low n (x / 256)))

pub placed_append : (out : List ℕ) (at : ℕ) (a b : List ℕ) → placed (placed out at a) (at + length a) b ≡ placed out at (a ++ b)
placed_append out at [] b = rw (add-zero at)
placed_append out at (x ∷ a) b =
    let e : at + suc (length a) ≡ suc at + length a = omega arith in rw e (placed_append (set out at x) (suc at) a b)

-- reading no octet, and two to four, one by one
pub number_none : (s : List ℕ) → number 0 s ≡ 0
unfolding number
number_none s = refl

pub number_two : (at : ℕ) (s : List ℕ) → number 2 (drop at s) ≡ number 1 (drop at s) + 256 * number 1 (drop (at + 1) s)
number_two = number_step 1

pub number_three : (at : ℕ) (s : List ℕ) →
    number 3 (drop at s) ≡ number 1 (drop at s) + 256 * (number 1 (drop (at + 1) s) + 256 * number 1 (drop (at + 2) s))
number_three at s = let e : at + 1 + 1 ≡ at + 2 = omega arith in rw (number_step 2 at s, number_two (at + 1) s, e)

pub number_four : (at : ℕ) (s : List ℕ) →
    number 4 (drop at s) ≡
    number 1 (drop at s) + 256 * (number 1 (drop (at + 1) s) + 256 * (number 1 (drop (at + 2) s) + 256 * number 1 (drop (at + 3) s)))
number_four at s =
    let e : at + 1 + 1 ≡ at + 2 = omega arith in
    let f : at + 1 + 2 ≡ at + 3 = omega arith in rw (number_step 3 at s, number_three (at + 1) s, e, f)

-- writing one octet
pub placed_one : (x : ℕ) (out : List ℕ) (at : ℕ) → x < 256 → set out at x ≡ placed out at (spelled 1 x)
unfolding spelled
placed_one x out at h = let e : x % 256 ≡ x = omega arith in rw e

-- writing one octet more: the low one, then the rest after it
pub placed_step : (n x : ℕ) (out : List ℕ) (at : ℕ) {mid all : List ℕ} → mid ≡ placed out at (spelled 1 (x % 256)) →
    all ≡ placed mid (at + 1) (spelled n (x / 256)) → all ≡ placed out at (spelled (suc n) x)
unfolding spelled
placed_step n x out at p q = let e : x % 256 % 256 ≡ x % 256 = omega arith in rw (q, p, add-one at, e)

-- writing no octet, and the same for a number of octets that is not 0
pub placed_none : (x : ℕ) (out : List ℕ) (at : ℕ) → out ≡ placed out at (spelled 0 x)
unfolding spelled
placed_none x out at = refl

pub placed_more : (n x : ℕ) (out : List ℕ) (at : ℕ) → (n ≡ 0 → ⊥) → placed (set out at (x % 256)) (at + 1) (spelled (n - 1) (x / 256)) ≡ placed out at (spelled n x)
placed_more zero x out at h = absurd (h refl)
placed_more (suc n) x out at h =
    let e : suc n - 1 ≡ n = omega arith in
    rw e (placed_step n x out at {mid = set out at (x % 256)} (placed_one (x % 256) out at (omega arith)) refl)

-- nothing is written past the end
pub placed_past : (octets out : List ℕ) {at : ℕ} → length out ≤ at → placed out at octets ≡ out
placed_past [] out h = refl
placed_past (x ∷ octets) out {at} h = rw (set_out out at x h) (placed_past octets out (omega arith))

pub placed_over : (out octets : List ℕ) → length octets ≤ length out → placed out 0 octets ≡ over out octets
placed_over out octets h =
    let e : 0 + length octets ≡ length octets = zero-add (length octets) in
    sets-eq octets out 0 (omega arith) ∙ rw e

-- two runs of octets that fill the lent buffer
pub placed_full : (out a b : List ℕ) (n m : ℕ) → length a ≡ n → length b ≡ m → length out ≡ n + m → placed (placed out 0 a) n b ≡ a ++ b
placed_full out a b n m e h k =
    let l : length (a ++ b) ≡ length out = length-append a b ∙ omega arith in
    let z : 0 + length a ≡ n = omega arith in
    let p : placed (placed out 0 a) n b ≡ placed out 0 (a ++ b) = rw z at (placed_append out 0 a b) in
    p ∙ placed_over out (a ++ b) (omega arith) ∙ rw (l, drop-length out) (append-nil (a ++ b))

pub signed_unsigned : (z : ℤ) → SFits w16 z → signed (unsigned z) ≡ z
signed_unsigned z h = to_z-of_z {w = w16} h

pub unsigned_signed : (n : ℕ) → n < 65536 → unsigned (signed n) ≡ n
unsigned_signed n h = of_z-to_z {w = w16} (record { fits = h })

abbrev pub ends : List ℤ
ends = negsuc 32767 ∷ negsuc 0 ∷ pos 0 ∷ pos 32767 ∷ []

-- "exact at both ends": -32,768, -1, 0 and 32,767, both ways
pub both_ends : (map unsigned ends ≡ 32768 ∷ 65535 ∷ 0 ∷ 32767 ∷ []) × (map signed (32768 ∷ 65535 ∷ 0 ∷ 32767 ∷ []) ≡ ends)
both_ends = (refl, refl)
