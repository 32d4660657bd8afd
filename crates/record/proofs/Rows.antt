-- Rows by their bits: which of them a set names, and how many octets they take.
use Prim.Native.Nat.{ℕ, suc, ◌+◌, ◌%◌, ◌^◌, ◌<◌, ◌≤◌, zero-le}
use mathlib.Core.Path.{◌≡◌, refl, sym, ap, ◌∙◌}
use mathlib.Core.Bool.{Bool, true, false, cond, ◌&&◌}
use mathlib.Core.List.{List, [], ◌∷◌}
use native.Mathlib.Omega.{arith}
use lib.Dec.{ltb, eqb}
use lib.Pow.{pow_pos}
use Rattle.record.specs.declared.layout.Row.{Row}
use Rattle.record.specs.Groups.{has, named, size, groups_of}
use Rattle.record.proofs.Sets.{has_empty, has_power, has_own, has_low, has_high, same_bit, add_bit}
use Rattle.record.proofs.Tests.{passed, failed, tested, eqb_eq, eqb_ne, and_l, and_r, leb_le}

-- whether the bits of all rows are below a number
abbrev pub below : ℕ → List Row → Bool
below n [] = true
below n (r ∷ rows) = ltb r.0 n && below n rows

-- a bit above those of all rows names none
pub no_rows : (rows : List Row) (n bit : ℕ) → below n rows ≡ true → n ≤ bit → named (2 ^ bit) rows ≡ []
unfolding named
no_rows [] n bit e h = refl
no_rows (r ∷ rows) n bit e h =
    let l : r.0 < n = leb_le (suc r.0) n (and_l (ltb r.0 n) (below n rows) e) in
    rw (has_power bit r.0 (λ (x : r.0 ≡ bit). omega arith)) (no_rows rows n bit (and_r (ltb r.0 n) (below n rows) e) h)

pub no_group : (rows : List Row) (n bit : ℕ) → below n rows ≡ true → n ≤ bit → size (named (2 ^ bit) rows) ≡ 0
unfolding size
no_group rows n bit e h = rw (no_rows rows n bit e h)

-- the empty set names none
pub named_empty : (rows : List Row) → named 0 rows ≡ []
unfolding named
named_empty [] = refl
named_empty (r ∷ rows) = rw (has_empty r.0) (named_empty rows)

-- ---- a set's octets, bit by bit

module _ (r : Row) (a b c : List Row) where
  -- the row's bit is another: it is in both sets or in neither
  next_other : (h x : Bool) → size a ≡ size b + cond h (size c) 0 → size (cond x (r ∷ a) a) ≡ size (cond x (r ∷ b) b) + cond h (size c) 0
  unfolding size
  next_other h true e = omega arith
  next_other h false e = e

  -- the row's bit is the one that is added
  next_own : (h : Bool) → size a ≡ size b + cond h (size c) 0 → size (cond h (r ∷ a) a) ≡ size b + cond h (size (r ∷ c)) 0
  unfolding size
  next_own true e = omega arith
  next_own false e = e

module _ (r : Row) (rows : List Row) (set b : ℕ)
    (ih : size (named (set % 2 ^ suc b) rows) ≡ size (named (set % 2 ^ b) rows) + cond (has set b) (size (named (2 ^ b) rows)) 0) where
  at_own : r.0 ≡ b → size (named (set % 2 ^ suc b) (r ∷ rows)) ≡ size (named (set % 2 ^ b) (r ∷ rows)) + cond (has set b) (size (named (2 ^ b) (r ∷ rows))) 0
  unfolding named
  at_own e =
      let x : has (set % 2 ^ suc b) r.0 ≡ has set b = ap (has (set % 2 ^ suc b)) e ∙ has_low set (suc b) b (omega arith) in
      let y : has (set % 2 ^ b) r.0 ≡ false = ap (has (set % 2 ^ b)) e ∙ has_high set b b (omega arith) in
      let z : has (2 ^ b) r.0 ≡ true = ap (has (2 ^ b)) e ∙ has_own b in
      rw (x, y, z)
      (next_own r (named (set % 2 ^ suc b) rows) (named (set % 2 ^ b) rows) (named (2 ^ b) rows) (has set b) ih)

  at_other : (r.0 ≡ b → ⊥) →
      size (named (set % 2 ^ suc b) (r ∷ rows)) ≡ size (named (set % 2 ^ b) (r ∷ rows)) + cond (has set b) (size (named (2 ^ b) (r ∷ rows))) 0
  unfolding named
  at_other n =
      rw (same_bit set b r.0 n, has_power b r.0 n)
      (next_other r (named (set % 2 ^ suc b) rows) (named (set % 2 ^ b) rows) (named (2 ^ b) rows) (has set b) (has (set % 2 ^ b) r.0) ih)

none_added : (h : Bool) → ◌≡◌ {A = ℕ} 0 (0 + cond h 0 0)
none_added true = refl
none_added false = refl

pub size_next : (rows : List Row) (set b : ℕ) →
    size (named (set % 2 ^ suc b) rows) ≡ size (named (set % 2 ^ b) rows) + cond (has set b) (size (named (2 ^ b) rows)) 0
size_next [] set b = unfold size named in none_added (has set b)
size_next (r ∷ rows) set b = elim (tested (eqb r.0 b)) [
  | passed e ↦ at_own r rows set b (size_next rows set b) (eqb_eq r.0 b e)
  | failed e ↦ at_other r rows set b (size_next rows set b) (eqb_ne r.0 b e)
]

-- the rows of a set take no more octets than all rows
pub size_named : (rows : List Row) (set : ℕ) → size (named set rows) ≤ size rows
unfolding size named
size_named [] set = zero-le
size_named (r ∷ rows) set = some (has set r.0) (size_named rows set)
  where
    some : (h : Bool) → size (named set rows) ≤ size rows → size (cond h (r ∷ named set rows) (named set rows)) ≤ size (r ∷ rows)
    some true e = omega arith
    some false e = omega arith

-- if the bits of all rows are below n, a set's bits from n on name none
pub named_low : (rows : List Row) (set n : ℕ) → below n rows ≡ true → named (set % 2 ^ n) rows ≡ named set rows
unfolding named
named_low [] set n e = refl
named_low (r ∷ rows) set n e =
    let l : r.0 < n = leb_le (suc r.0) n (and_l (ltb r.0 n) (below n rows) e) in
    rw (has_low set n r.0 l, named_low rows set n (and_r (ltb r.0 n) (below n rows) e))

-- a set below 2 ^ n stays below it when it gains a bit below n
gained : (b : Bool) (set i n : ℕ) → b ≡ has set i → set < 2 ^ n → i < n → cond b set (set + 2 ^ i) < 2 ^ n
gained true set i n e h l = h
gained false set i n e h l = add_bit set i n (sym e) h l

-- if the bits of all rows are below n, the set of their groups is below 2 ^ n
pub groups_below : (rows : List Row) (n : ℕ) → below n rows ≡ true → groups_of rows < 2 ^ n
unfolding groups_of
groups_below [] n e = pow_pos n
groups_below (r ∷ rows) n e =
    gained (has (groups_of rows) r.0) (groups_of rows) r.0 n refl (groups_below rows n (and_r (ltb r.0 n) (below n rows) e))
    (leb_le (suc r.0) n (and_l (ltb r.0 n) (below n rows) e))
