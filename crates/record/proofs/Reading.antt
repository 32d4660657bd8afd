-- Reading rows one after the other.
use Prim.Native.Nat.{ℕ, ◌+◌, ◌*◌, ◌<◌, ◌≤◌}
use mathlib.Core.Path.{◌≡◌, sym, ap, ◌∙◌}
use mathlib.Core.Bool.{Bool, true, false, cond}
use mathlib.Core.List.{List, [], ◌∷◌}
use native.Mathlib.Nat.{add-zero}
use native.Mathlib.Numerals.{add-one}
use native.Mathlib.Omega.{arith}
use lib.ListN.{length, get_or, drop, set}
use lib.Seq.{drop-cons, drop-drop}
use Rattle.record.specs.declared.layout.Row.{Row}
use Rattle.record.specs.Layout.{octets_of, no_row}
use Rattle.record.specs.Groups.{has, named}
use Rattle.record.specs.Octets.{number}
use Rattle.record.specs.Notification.{read_into}

module _ (r : Row) (rest : List Row) (s : List ℕ) (at : ℕ) (v : List ℕ) where
  read_row : (h : Bool) →
      read_into (cond h (r ∷ rest) rest) (drop at s) v ≡
      read_into rest (drop (at + cond h (octets_of r.2) 0) s) (cond h (set v r.1 (number (octets_of r.2) (drop at s))) v)
  unfolding read_into
  read_row true =
      ap (λ (l : List ℕ). read_into rest l (set v r.1 (number (octets_of r.2) (drop at s)))) (drop-drop (octets_of r.2) at s)
  read_row false = rw (add-zero at)

-- reading row i, then the rows after it
pub read_next : (among : ℕ) (rows : List Row) (i : ℕ) (r : Row) (s : List ℕ) (at : ℕ) (v : List ℕ) → r ≡ get_or rows i no_row → i < length rows →
    read_into (named among (drop (i + 1) rows)) (drop (at + cond (has among r.0) (octets_of r.2) 0) s)
    (cond (has among r.0) (set v r.1 (number (octets_of r.2) (drop at s))) v) ≡
    read_into (named among (drop i rows)) (drop at s) v
read_next among rows i r s at v e h =
    let d : drop i rows ≡ r ∷ drop (i + 1) rows = drop-cons rows i no_row h ∙ rw (← e, add-one i) in
    sym (ap (λ (l : List Row). read_into (named among l) (drop at s) v) d ∙ named_row)
  where
    named_row :
        read_into (named among (r ∷ drop (i + 1) rows)) (drop at s) v ≡
        read_into (named among (drop (i + 1) rows)) (drop (at + cond (has among r.0) (octets_of r.2) 0) s)
        (cond (has among r.0) (set v r.1 (number (octets_of r.2) (drop at s))) v)
    named_row = unfold named in read_row r (named among (drop (i + 1) rows)) s at v (has among r.0)

-- nothing is left to read
pub read_none : (among : ℕ) (rows : List Row) (s v : List ℕ) → rows ≡ [] → read_into (named among rows) s v ≡ v
unfolding read_into named
read_none among rows s v e = rw e

-- each row takes at most three octets
pub taken_most : (h : Bool) (n at i : ℕ) → n ≤ 3 → at ≤ 3 + 3 * i → at + cond h n 0 ≤ 3 + 3 * (i + 1)
taken_most true n at i w l = omega arith
taken_most false n at i w l = omega arith
