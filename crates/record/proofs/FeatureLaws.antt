-- A Feature value is read as it was written and written as it was read, except for unnamed bits.
use Prim.Native.Nat.{ℕ, ◌+◌, ◌*◌, ◌/◌, ◌%◌, ◌^◌, ◌<◌}
use mathlib.Core.Path.{◌≡◌, refl, sym, ap, ◌∙◌}
use mathlib.Core.Bool.{Bool, true, false, cond}
use mathlib.Core.List.{List, [], ◌∷◌, ◌++◌, append-nil}
use native.Mathlib.Omega.{arith}
use native.Mathlib.Nat.{mod-lt, mod-mod, mod-eq_of_lt}
use borrow.Author.Tests.{eqb-true}
use lib.Dec.{eqb, lit<}
use lib.ListN.{length, take, drop, get_or, length-append, length-drop, take-append-drop}
use lib.Seq.{drop_at, get_or-drop, take_all}
use Rattle.record.specs.declared.feature.Feature.{Feature}
use Rattle.record.specs.Octets.{number, spelled}
use Rattle.record.specs.Answer.{Answer, refused, given}
use Rattle.record.specs.Feature.{named_bits, named, words, feature_of, feature_octets}
use Rattle.record.proofs.OctetLaws.{length_spelled, number_spelled, number_step, number_one, spelled_number}

named_less : (x : ℕ) → named_bits x < 256 ^ 4
named_less x = let h : x % 2 ^ 17 < 2 ^ 17 = mod-lt x (lit< tt) in omega arith

-- reading what was written
pub feature_again : (f : Feature) → feature_of (feature_octets f) ≡ given (named f)
feature_again f =
    let x : ℕ = f.features in
    let y : ℕ = f.targets in
    let a : List ℕ = spelled 4 (named_bits x) in
    let b : List ℕ = spelled 4 (named_bits y) in
    let l : length (a ++ b) ≡ 8 = length-append a b ∙ rw (length_spelled 4 (named_bits x), length_spelled 4 (named_bits y)) in
    let p : number 4 (a ++ b) ≡ named_bits x = number_spelled 4 (named_bits x) b (named_less x) in
    let q : number 4 b ≡ named_bits y = rw append-nil at (number_spelled 4 (named_bits y) [] (named_less y)) in
    rw (l, p, drop_at a b 4 (length_spelled 4 (named_bits x)), q, mod-mod x (2 ^ 17), mod-mod y (2 ^ 17))

-- a value that was read: there were 8 octets, and it has their named bits
read : (s : List ℕ) (f : Feature) (b : Bool) → ◌≡◌ {A = Answer Feature} (cond b (given (named (words s))) (refused 22)) (given f) →
    (b ≡ true) × (named (words s) ≡ f)
read s f true e = (refl, cc)
read s f false e = absurd (let z : ◌≡◌ {A = ℕ} 0 1 = cc in omega arith)

-- writing what was read: the same as writing the two words
rewritten : (s : List ℕ) (f : Feature) → feature_of s ≡ given f → feature_octets f ≡ feature_octets (words s)
rewritten s f e =
    sym (ap feature_octets (read s f (eqb (length s) 8) e).1) ∙ rw (mod-mod (number 4 s) (2 ^ 17), mod-mod (number 4 (drop 4 s)) (2 ^ 17))

-- four octets, with the bits above 16 of their number cleared
abbrev pub cleared : List ℕ → List ℕ
cleared s = get_or s 0 0 ∷ get_or s 1 0 ∷ get_or s 2 0 % 2 ∷ 0 ∷ []

digits : (a b c : ℕ) → a < 256 → b < 256 → c < 256 → spelled 4 (a + 256 * (b + 256 * c)) ≡ a ∷ b ∷ c ∷ 0 ∷ []
unfolding spelled
digits a b c h k l =
    let p : (a + 256 * (b + 256 * c)) % 256 ≡ a = omega arith in
    let q : (a + 256 * (b + 256 * c)) / 256 ≡ b + 256 * c = omega arith in
    let r : (b + 256 * c) % 256 ≡ b = omega arith in
    let t : (b + 256 * c) / 256 ≡ c = omega arith in
    let u : c % 256 ≡ c = omega arith in
    let v : c / 256 ≡ 0 = omega arith in
    rw (p, q, r, t, u, v)

word_cleared : (s : List ℕ) → ((i : ℕ) → get_or s i 0 < 256) → spelled 4 (named_bits (number 4 s)) ≡ cleared s
word_cleared s h =
    let a : ℕ = get_or s 0 0 in
    let b : ℕ = get_or s 1 0 in
    let c : ℕ = get_or s 2 0 % 2 in
    let e : named_bits (number 4 s) ≡ a + 256 * (b + 256 * c) =
    omega (arith, h 0, h 1, number_step 3 0 s, number_step 2 1 s, number_step 1 2 s, number_one 0 s, number_one 1 s, number_one 2 s) in
    rw e (digits a b c (h 0) (h 1) (omega arith))

-- writing what was read: the same octets, with the bits that have no name cleared
pub octets_again : (s : List ℕ) (f : Feature) → ((i : ℕ) → get_or s i 0 < 256) → feature_of s ≡ given f →
    feature_octets f ≡ cleared s ++ cleared (drop 4 s)
octets_again s f h e =
    rewritten s f e ∙ rw (word_cleared s h, word_cleared (drop 4 s) (λ i. rw (get_or-drop 4 s i 0) (h (4 + i))))

-- and exactly the same octets if both words have named bits only
pub octets_same : (s : List ℕ) (f : Feature) → ((i : ℕ) → get_or s i 0 < 256) →
    number 4 s < 2 ^ 17 → number 4 (drop 4 s) < 2 ^ 17 → feature_of s ≡ given f → feature_octets f ≡ s
octets_same s f h k m e =
    let l : length s ≡ 8 = eqb-true (length s) 8 (read s f (eqb (length s) 8) e).0 in
    let t : length (drop 4 s) ≡ 4 = length-drop 4 s ∙ omega arith in
    let p : spelled 4 (number 4 s) ≡ take 4 s = spelled_number 4 s (omega arith) (λ i n. h i) in
    let q : spelled 4 (number 4 (drop 4 s)) ≡ drop 4 s =
    spelled_number 4 (drop 4 s) (omega arith) (λ i n. rw (get_or-drop 4 s i 0) (h (4 + i))) ∙ take_all 4 (drop 4 s) (omega arith) in
    rewritten s f e ∙ rw (mod-eq_of_lt k, mod-eq_of_lt m, p, q) (take-append-drop 4 s)
