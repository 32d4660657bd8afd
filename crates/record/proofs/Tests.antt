-- Tests that pass or fail: what they say of numbers, and of all the elements of a list.
use Prim.Native.Nat.{ℕ, zero, suc, ◌<◌, ◌≤◌, suc-le-suc}
use mathlib.Core.Path.{◌≡◌, refl, sym, ◌∙◌}
use mathlib.Core.Bool.{Bool, true, false, ◌&&◌, true≢false}
use mathlib.Core.List.{List, [], ◌∷◌}
use native.Mathlib.Omega.{arith}
use lib.Dec.{T, eqb, leb, ltb, eqb→eq, eqb_refl, leb→le, le→leb, nleb→lt}
use lib.ListN.{length, get_or}

pub test_true : (b : Bool) → T b → b ≡ true
test_true true t = refl
test_true false t = absurd t

pub test_false : (b : Bool) → (T b → ⊥) → b ≡ false
test_false true n = absurd (n tt)
test_false false n = refl

pub test_holds : {b : Bool} → b ≡ true → T b
test_holds e = rw e tt

pub leb_true : {m n : ℕ} → m ≤ n → leb m n ≡ true
leb_true {m} {n} h = test_true (leb m n) (le→leb m n h)

pub leb_false : {m n : ℕ} → n < m → leb m n ≡ false
leb_false {m} {n} h = test_false (leb m n) λ t. let k : m ≤ n = leb→le m n t in omega arith

pub ltb_false : (m n : ℕ) → n ≤ m → ltb m n ≡ false
ltb_false m n h = leb_false (suc-le-suc h)

pub leb_le : (m n : ℕ) → leb m n ≡ true → m ≤ n
leb_le m n e = leb→le m n (test_holds e)

pub leb_lt : (m n : ℕ) → leb m n ≡ false → n < m
leb_lt m n e = nleb→lt m n (rw e tt)

pub ltb_le : (m n : ℕ) → ltb m n ≡ false → n ≤ m
ltb_le m n e = let h : n < suc m = leb_lt (suc m) n e in omega arith

pub eqb_same : (n : ℕ) → eqb n n ≡ true
eqb_same n = test_true (eqb n n) (eqb_refl n)

pub eqb_true : {m n : ℕ} → m ≡ n → eqb m n ≡ true
eqb_true {m} {n} h = rw h (eqb_same n)

pub eqb_false : {m n : ℕ} → (m ≡ n → ⊥) → eqb m n ≡ false
eqb_false {m} {n} h = test_false (eqb m n) λ t. h (eqb→eq m n t)

pub eqb_eq : (m n : ℕ) → eqb m n ≡ true → m ≡ n
eqb_eq m n e = eqb→eq m n (test_holds e)

pub eqb_ne : (m n : ℕ) → eqb m n ≡ false → m ≡ n → ⊥
eqb_ne m n e h = true≢false (sym (eqb_true h) ∙ e)

-- a test passes or fails
pub data Tested (b : Bool) : Type 0 where
  passed : b ≡ true → Tested b
  failed : b ≡ false → Tested b

pub tested : (b : Bool) → Tested b
tested true = passed refl
tested false = failed refl

pub and_l : (x y : Bool) → (x && y) ≡ true → x ≡ true
and_l true y e = refl
and_l false y e = e

pub and_r : (x y : Bool) → (x && y) ≡ true → y ≡ true
and_r true y e = e
and_r false y e = absurd (true≢false (sym e))

-- whether a test holds for all elements of a list
abbrev pub all : {A : Type 0} → (A → Bool) → List A → Bool
all p [] = true
all p (x ∷ l) = p x && all p l

-- then it holds at every index, past the end too if it holds for the default
pub all_at : {A : Type 0} (p : A → Bool) (l : List A) (d : A) → all p l ≡ true → p d ≡ true → (i : ℕ) → p (get_or l i d) ≡ true
all_at p [] d e f i = f
all_at p (x ∷ l) d e f zero = and_l (p x) (all p l) e
all_at p (x ∷ l) d e f (suc i) = all_at p l d (and_r (p x) (all p l) e) f i

pub all_in : {A : Type 0} (p : A → Bool) (l : List A) (d : A) → all p l ≡ true → (i : ℕ) → i < length l → p (get_or l i d) ≡ true
all_in p [] d e i h = absurd (omega arith)
all_in p (x ∷ l) d e zero h = and_l (p x) (all p l) e
all_in p (x ∷ l) d e (suc i) h = all_in p l d (and_r (p x) (all p l) e) i (omega arith)
