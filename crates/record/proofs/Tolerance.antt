-- What reading ignores: "Octets after the last named group are ignored."; "All other bits are reserved: written 0, ignored when read."
use Prim.Native.Nat.{ℕ, zero, suc, ◌+◌, ◌*◌, ◌-◌, ◌/◌, ◌%◌, ◌≤◌}
use mathlib.Core.Path.{◌≡◌, refl, sym, ap, ap₂, ◌∙◌}
use mathlib.Core.Bool.{Bool, true, false, cond, not, ◌&&◌}
use mathlib.Core.List.{List, [], ◌∷◌, ◌++◌}
use native.Mathlib.Omega.{arith}
use lib.Bits.{and_comm}
use lib.Dec.{eqb, leb}
use lib.ListN.{length, drop, set, length-append, length-drop}
use lib.Seq.{drop-append-le}
use Rattle.record.specs.declared.layout.Row.{Row}
use Rattle.record.specs.declared.notification.Part.{Part}
use Rattle.record.specs.Layout.{layout, octets_of}
use Rattle.record.specs.Groups.{has, named, size, known, listed, flags_octets, set_length, optional, turned}
use Rattle.record.specs.Octets.{number}
use Rattle.record.specs.Answer.{Answer, given, provided}
use Rattle.record.specs.Notification.{flags_of, names, heading, part_of, read_into, values, joined}
use Rattle.record.proofs.Once.{value_same, never}
use Rattle.record.proofs.Sets.{Sub, and_of_sub, has_and, has_zero, has_half}
use Rattle.record.proofs.Tests.{leb_le, leb_true, eqb_false, eqb_eq, eqb_ne, and_r, Tested, passed, failed, tested}

-- ---- octets after the last named group

number_front : (n : ℕ) (s t : List ℕ) → n ≤ length s → number n (s ++ t) ≡ number n s
unfolding number
number_front zero s t h = refl
number_front (suc n) [] t h = absurd (omega arith)
number_front (suc n) (b ∷ s) t h = ap (λ (x : ℕ). b + 256 * x) (number_front n s t (omega arith))

read_front : (rows : List Row) (s t v : List ℕ) → size rows ≤ length s → read_into rows (s ++ t) v ≡ read_into rows s v
unfolding read_into size
read_front [] s t v h = refl
read_front (r ∷ rows) s t v h =
    let n : ℕ = octets_of r.2 in
    let k : n ≤ length s = omega arith in
    let l : size rows ≤ length (drop n s) = rw (length-drop n s) (omega arith) in
    ap₂ (λ (o : List ℕ) (x : ℕ). read_into rows o (set v r.1 x)) (drop-append-le n s t k) (number_front n s t k)
    ∙ read_front rows (drop n s) t (set v r.1 (number n s)) l

-- an answer that is given passed its test
past : {A : Type 0} (b : Bool) (n : ℕ) (a : Answer A) (x : A) → provided b n a ≡ given x → (b ≡ true) × (a ≡ given x)
past true n a x e = (refl, e)
past false n a x e = absurd (never x n (sym e))

-- a notification that is not refused is read the same with more octets after it, as long as there are at most 512
pub more_octets : (kind : ℕ) (s t : List ℕ) (p : Part) → part_of kind s ≡ given p → length (s ++ t) ≤ 512 →
    (part_of kind (s ++ t) ≡ given p) × ((v : List ℕ) → joined kind (s ++ t) v ≡ joined kind s v)
unfolding part_of values
more_octets kind s t p e h =
    let f : ℕ = flags_octets kind in
    let need : ℕ = f + set_length kind (names kind (flags_of kind s)) in
    let a : (known kind ≡ true) × _ = past (known kind) 11 _ p e in
    let b : (leb (length s) 512 ≡ true) × _ = past (leb (length s) 512) 30 _ p a.1 in
    let c : (leb f (length s) ≡ true) × _ = past (leb f (length s)) 31 _ p b.1 in
    let d : (leb need (length s) ≡ true) × _ = past (leb need (length s)) 32 _ p c.1 in
    let i : f ≤ length s = leb_le f (length s) c.0 in
    let j : need ≤ length s = leb_le need (length s) d.0 in
    let l : length (s ++ t) ≡ length s + length t = length-append s t in
    let same : flags_of kind (s ++ t) ≡ flags_of kind s = number_front f s t i in (
      rw (
        same,
        a.0,
        leb_true {m = length (s ++ t)} {n = 512} h,
        leb_true {m = f} {n = length (s ++ t)} (omega arith),
        leb_true {m = need} {n = length (s ++ t)} (omega arith),
      ) d.1,
      λ v.
          let rows : List Row = named (names kind (flags_of kind s)) (layout kind) in
          let k : size rows ≤ length (drop f s) = rw (length-drop f s) (omega arith) in
          ap₂ (λ (g : ℕ) (o : List ℕ). read_into (named (names kind g) (layout kind)) o v) same (drop-append-le f s t i) ∙ read_front rows (drop f s) t v k,
    )

-- ---- reserved bits

-- bit 0 inverted, and every other as it was
turned_bit : (x i : ℕ) → has (turned x) i ≡ cond (eqb i 0) (not (has x i)) (has x i)
turned_bit x zero = has_zero (turned x) ∙ even (tested (eqb (x % 2) 1)) ∙ ap not (sym (has_zero x))
  where
    even : Tested (eqb (x % 2) 1) → eqb (turned x % 2) 1 ≡ not (eqb (x % 2) 1)
    even (passed t) =
        let e : x % 2 ≡ 1 = eqb_eq (x % 2) 1 t in
        let o : (x + 1 - x % 2 * 2) % 2 ≡ 0 = omega arith in rw (o, t)
    even (failed t) =
        let e : x % 2 ≡ 1 → ⊥ = eqb_ne (x % 2) 1 t in
        let o : (x + 1 - x % 2 * 2) % 2 ≡ 1 = omega arith in rw (o, t)
turned_bit x (suc i) =
    let h : (x + 1 - x % 2 * 2) / 2 ≡ x / 2 = omega arith in
    let n : eqb (suc i) 0 ≡ false = eqb_false (λ (z : suc i ≡ 0). omega (arith, z)) in
    sym (has_half (turned x) i) ∙ ap (λ (y : ℕ). has y i) h ∙ has_half x i ∙ ap (λ (b : Bool). cond b (not (has x (suc i))) (has x (suc i))) (sym n)

sub_both : (a b : ℕ) → Sub a b → Sub b a → a ≡ b
sub_both a b s t = sym (and_of_sub a b s) ∙ and_comm a b ∙ and_of_sub b a t

-- flags that agree in bit 0 and in the bits listed for a kind name the same groups
pub reserved_ignored : (kind flags other : ℕ) → ((b : ℕ) → has (1 + listed kind) b ≡ true → has flags b ≡ has other b) → names kind flags ≡ names kind other
reserved_ignored kind flags other agree =
    sub_both (names kind flags) (names kind other) (half flags other agree) (half other flags (λ b h. sym (agree b h)))
  where
    half : (x y : ℕ) → ((b : ℕ) → has (1 + listed kind) b ≡ true → has x b ≡ has y b) → Sub (names kind x) (names kind y)
    half x y same = record {
      member = λ i e.
          let all : ℕ = 1 + listed kind in
          let g : (has (turned x) i && has all i) ≡ true = sym (has_and (turned x) all i) ∙ e in
          let l : has all i ≡ true = and_r (has (turned x) i) (has all i) g in
          let f : has (turned x) i ≡ has (turned y) i = turned_bit x i ∙ ap (λ (b : Bool). cond (eqb i 0) (not b) b) (same i l) ∙ sym (turned_bit y i) in
          has_and (turned y) all i ∙ ap (λ (b : Bool). b && has all i) (sym f) ∙ g;
    }

-- ---- what is read is what the flags say
pub part_is : (kind : ℕ) (s : List ℕ) (p : Part) → part_of kind s ≡ given p →
    p ≡ record { groups = optional (names kind (flags_of kind s)); last = eqb (flags_of kind s % 2) 0; direction = heading kind (flags_of kind s) }
unfolding part_of
part_is kind s p e =
    let f : ℕ = flags_octets kind in
    let a : (known kind ≡ true) × _ = past (known kind) 11 _ p e in
    let b : (leb (length s) 512 ≡ true) × _ = past (leb (length s) 512) 30 _ p a.1 in
    let c : (leb f (length s) ≡ true) × _ = past (leb f (length s)) 31 _ p b.1 in
    let d : (leb (f + set_length kind (names kind (flags_of kind s))) (length s) ≡ true) × _ =
    past (leb (f + set_length kind (names kind (flags_of kind s))) (length s)) 32 _ p c.1 in
    sym (value_same _ p d.1)
