-- Writing rows one after the other.
use Prim.Native.Nat.{ℕ, ◌+◌, ◌<◌}
use mathlib.Core.Path.{◌≡◌, refl, sym, ap, ◌∙◌}
use mathlib.Core.Bool.{Bool, true, false, cond}
use mathlib.Core.List.{List, [], ◌∷◌}
use native.Mathlib.Nat.{add-zero}
use native.Mathlib.Numerals.{add-one}
use lib.ListN.{length, get_or, drop, length-append}
use lib.Seq.{drop-cons}
use Rattle.record.specs.declared.layout.Row.{Row}
use Rattle.record.specs.Layout.{octets_of, no_row}
use Rattle.record.specs.Groups.{has, named, size}
use Rattle.record.specs.Octets.{spelled, placed}
use Rattle.record.specs.Split.{written}
use Rattle.record.proofs.OctetLaws.{length_spelled, placed_append}

module _ (r : Row) (rest : List Row) (v out : List ℕ) (at : ℕ) where
  write_row : (h : Bool) →
      placed (placed out at (cond h (spelled (octets_of r.2) (get_or v r.1 0)) [])) (at + cond h (octets_of r.2) 0) (written rest v) ≡
      placed out at (written (cond h (r ∷ rest) rest) v)
  unfolding written
  write_row true =
      let a : List ℕ = spelled (octets_of r.2) (get_or v r.1 0) in
      ap (λ (n : ℕ). placed (placed out at a) (at + n) (written rest v)) (sym (length_spelled (octets_of r.2) (get_or v r.1 0)))
      ∙ placed_append out at a (written rest v)
  write_row false = rw (add-zero at)

-- writing row i, then the rows after it
pub write_next : (among : ℕ) (rows : List Row) (i : ℕ) (r : Row) (v out : List ℕ) (at : ℕ) → r ≡ get_or rows i no_row → i < length rows →
    placed (placed out at (cond (has among r.0) (spelled (octets_of r.2) (get_or v r.1 0)) [])) (at + cond (has among r.0) (octets_of r.2) 0)
    (written (named among (drop (i + 1) rows)) v) ≡
    placed out at (written (named among (drop i rows)) v)
write_next among rows i r v out at e h =
    let d : drop i rows ≡ r ∷ drop (i + 1) rows = drop-cons rows i no_row h ∙ rw (← e, add-one i) in
    named_row ∙ ap (λ (l : List Row). placed out at (written (named among l) v)) (sym d)
  where
    named_row :
        placed (placed out at (cond (has among r.0) (spelled (octets_of r.2) (get_or v r.1 0)) [])) (at + cond (has among r.0) (octets_of r.2) 0)
        (written (named among (drop (i + 1) rows)) v) ≡
        placed out at (written (named among (r ∷ drop (i + 1) rows)) v)
    named_row = unfold named in write_row r (named among (drop (i + 1) rows)) v out at (has among r.0)

-- nothing is left to write
pub write_none : (among : ℕ) (rows : List Row) (v out : List ℕ) (at : ℕ) → rows ≡ [] → placed out at (written (named among rows) v) ≡ out
unfolding written named
write_none among rows v out at e = rw e

-- the number of octets that rows take
pub length_written : (rows : List Row) (v : List ℕ) → length (written rows v) ≡ size rows
unfolding written size
length_written [] v = refl
length_written (r ∷ rows) v = rw (length-append, length_spelled, length_written rows v)
