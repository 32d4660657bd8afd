-- The numbers after reading: each field is in one row of a kind, so that what is read fits its width and no other number changes.
use Prim.Native.Nat.{ℕ, ◌+◌, ◌^◌, ◌<◌}
use mathlib.Core.Path.{◌≡◌, refl, sym, ◌∙◌}
use mathlib.Core.Bool.{Bool, true, false, cond, not, ◌&&◌}
use mathlib.Core.List.{List, [], ◌∷◌}
use native.Mathlib.Omega.{arith}
use borrow.Author.Tests.{lt-ltb, ltb-true}
use lib.Dec.{eqb, ltb}
use lib.ListN.{length, get_or, set, drop, length-set}
use lib.Seq.{get_or-drop, get_or-set_same, get_or-set_other}
use Rattle.record.specs.declared.layout.Row.{Row}
use Rattle.record.specs.Layout.{layout, octets_of, tables, treadmill, cross_trainer, step_climber, stair_climber, rower, indoor_bike}
use Rattle.record.specs.Groups.{has, named}
use Rattle.record.specs.Octets.{number}
use Rattle.record.specs.Notification.{read_into}
use Rattle.record.specs.Record.{all_fit}
use Rattle.record.proofs.OctetLaws.{number_below}
use Rattle.record.proofs.Tests.{and_l, and_r, eqb_ne, all, all_at}

-- whether a row is of another field
abbrev pub other : ℕ → Row → Bool
other f r = not (eqb f r.1)

abbrev pub distinct : List Row → Bool
distinct [] = true
distinct (r ∷ rows) = (ltb r.1 31 && all (other r.1) rows) && distinct rows

pub layout_distinct : (kind : ℕ) → distinct (layout kind) ≡ true
unfolding layout tables treadmill cross_trainer step_climber stair_climber rower indoor_bike
layout_distinct kind = all_at distinct tables [] refl refl kind

named_all : (p : Row → Bool) (set : ℕ) (rows : List Row) → all p rows ≡ true → all p (named set rows) ≡ true
unfolding named
named_all p set [] e = refl
named_all p set (r ∷ rows) e = go (has set r.0) (named_all p set rows (and_r (p r) (all p rows) e))
  where
    go : (b : Bool) → all p (named set rows) ≡ true → all p (cond b (r ∷ named set rows) (named set rows)) ≡ true
    go true f = rw (and_l (p r) (all p rows) e) f
    go false f = f

pub named_distinct : (set : ℕ) (rows : List Row) → distinct rows ≡ true → distinct (named set rows) ≡ true
unfolding named
named_distinct set [] e = refl
named_distinct set (r ∷ rows) e = go (has set r.0) (named_distinct set rows (and_r (ltb r.1 31 && all (other r.1) rows) (distinct rows) e))
  where
    first : (ltb r.1 31 && all (other r.1) rows) ≡ true
    first = and_l (ltb r.1 31 && all (other r.1) rows) (distinct rows) e

    go : (b : Bool) → distinct (named set rows) ≡ true → distinct (cond b (r ∷ named set rows) (named set rows)) ≡ true
    go true f =
        rw (and_l (ltb r.1 31) (all (other r.1) rows) first, named_all (other r.1) set rows (and_r (ltb r.1 31) (all (other r.1) rows) first)) f
    go false f = f

-- ---- the numbers that are read

apart : (f : ℕ) (r : Row) (rows : List Row) → all (other f) (r ∷ rows) ≡ true → (f ≡ r.1 → ⊥) × (all (other f) rows ≡ true)
apart f r rows e = (λ h. eqb_ne f r.1 (not_so (eqb f r.1) (and_l (other f r) (all (other f) rows) e)) h, and_r (other f r) (all (other f) rows) e)
  where
    not_so : (b : Bool) → not b ≡ true → b ≡ false
    not_so true h = sym h
    not_so false h = refl

-- the number of a field that is in no row stays
read_apart : (rows : List Row) (s z : List ℕ) (f : ℕ) → all (other f) rows ≡ true → get_or (read_into rows s z) f 0 ≡ get_or z f 0
unfolding read_into
read_apart [] s z f e = refl
read_apart (r ∷ rows) s z f e =
    let a = apart f r rows e in
    read_apart rows (drop (octets_of r.2) s) (set z r.1 (number (octets_of r.2) s)) f a.1 ∙ get_or-set_other z r.1 f (number (octets_of r.2) s) 0 a.0

module _ (r : Row) (rows : List Row) (e : distinct (r ∷ rows) ≡ true) where
  abbrev first : Bool
  first = ltb r.1 31 && all (other r.1) rows

  field_small : r.1 < 31
  field_small = ltb-true r.1 31 (and_l (ltb r.1 31) (all (other r.1) rows) (and_l first (distinct rows) e))

  others_apart : all (other r.1) rows ≡ true
  others_apart = and_r (ltb r.1 31) (all (other r.1) rows) (and_l first (distinct rows) e)

  rest_distinct : distinct rows ≡ true
  rest_distinct = and_r first (distinct rows) e

-- "each value fits its width"
pub fit_read : (rows : List Row) (s z : List ℕ) → distinct rows ≡ true → length z ≡ 31 → ((i : ℕ) → get_or s i 0 < 256) → all_fit rows (read_into rows s z) ≡ true
unfolding read_into all_fit
fit_read [] s z e l h = refl
fit_read (r ∷ rows) s z e l h =
    let w : ℕ = octets_of r.2 in
    let n : ℕ = number w s in
    let k : r.1 < 31 = field_small r rows e in
    let g : get_or (read_into rows (drop w s) (set z r.1 n)) r.1 0 ≡ n =
    read_apart rows (drop w s) (set z r.1 n) r.1 (others_apart r rows e) ∙ get_or-set_same z r.1 n 0 (omega arith) in
    rw (g, lt-ltb n (256 ^ w) (number_below w s h))
    (fit_read rows (drop w s) (set z r.1 n) (rest_distinct r rows e) (length-set z r.1 n ∙ l) (λ i. rw (get_or-drop w s i 0) (h (w + i))))
