-- What the loops over rows and numbers find, step by step, and the five tests of a record.
use Prim.Native.Nat.{ℕ, ◌+◌, ◌<◌, ◌≤◌}
use mathlib.Core.Path.{◌≡◌, refl, sym, ap, ◌∙◌}
use mathlib.Core.Bool.{Bool, true, false, cond, ◌&&◌, and-true}
use mathlib.Core.List.{List, [], ◌∷◌}
use native.Mathlib.Numerals.{add-one}
use lib.Bits.{bit_and}
use lib.Dec.{eqb, leb}
use lib.ListN.{length, get_or, drop, drop_of_length-le}
use lib.Seq.{drop-cons}
use Rattle.std.specs.List.{list_all}
use Rattle.record.specs.declared.layout.Row.{Row}
use Rattle.record.specs.Layout.{layout, no_row}
use Rattle.record.specs.Groups.{has, named, listed, known, within}
use Rattle.record.specs.Record.{all_fit, others, all_zero, formed}

-- ---- a step of a loop: what is left from here is one row or number, and what is left from the next

module _ (set : ℕ) (rows : List Row) (i : ℕ) (r : Row) (e : r ≡ get_or rows i no_row) (h : i < length rows) (v : List ℕ) where
  left : drop i rows ≡ r ∷ drop (i + 1) rows
  left = rw (add-one, e) (drop-cons rows i no_row h)

  pub fit_turn : {x t : Bool} → x ≡ all_fit (named set (r ∷ [])) v → all_fit (named set (drop i rows)) v ≡ t →
      (x && all_fit (named set (drop (i + 1) rows)) v) ≡ t
  unfolding all_fit named
  fit_turn p q = rw p (go (has set r.0) ∙ ap (λ (l : List Row). all_fit (named set l) v) (sym left) ∙ q)
    where
      go : (b : Bool) → (all_fit (cond b (r ∷ []) []) v && all_fit (named set (drop (i + 1) rows)) v) ≡
          all_fit (cond b (r ∷ named set (drop (i + 1) rows)) (named set (drop (i + 1) rows))) v
      go true = rw and-true
      go false = refl

  pub others_turn : {w t : List ℕ} → w ≡ others (named set (r ∷ [])) v → others (named set (drop i rows)) v ≡ t →
      others (named set (drop (i + 1) rows)) w ≡ t
  unfolding others named
  others_turn p q = rw p (go (has set r.0) ∙ ap (λ (l : List Row). others (named set l) v) (sym left) ∙ q)
    where
      go : (b : Bool) → others (named set (drop (i + 1) rows)) (others (cond b (r ∷ []) []) v) ≡
          others (cond b (r ∷ named set (drop (i + 1) rows)) (named set (drop (i + 1) rows))) v
      go true = refl
      go false = refl

-- no row is left at the end
module _ (set : ℕ) (rows : List Row) (i : ℕ) (h : length rows ≤ i) (v : List ℕ) where
  pub fit_end : all_fit (named set (drop i rows)) v ≡ true
  unfolding all_fit named
  fit_end = rw (drop_of_length-le rows h)

  pub others_end : others (named set (drop i rows)) v ≡ v
  unfolding others named
  others_end = rw (drop_of_length-le rows h)

-- that all numbers are 0, as a test of each
pub zeros_by_test : (v : List ℕ) → list_all (λ x. eqb x 0) v ≡ all_zero v
unfolding all_zero
zeros_by_test [] = refl
zeros_by_test (x ∷ v) = ap (λ (b : Bool). eqb x 0 && b) (zeros_by_test v)

-- ---- the five tests of a record, as a program finds them

pub tests : (k g d : ℕ) (v : List ℕ) {a b e f z : Bool} → known k ≡ a → within g (listed k) ≡ b → leb d (cond (eqb k 2) 1 0) ≡ e →
    all_fit (named (1 + g) (layout k)) v ≡ f → all_zero (others (named (1 + g) (layout k)) v) ≡ z → formed k g d v ≡ (a && b && e && f && z)
unfolding formed
tests k g d v p q r s t = λ i. p i && q i && r i && s i && t i

-- the second and the third test, by what a program found to compare with
pub listed_test : (g k : ℕ) {l : ℕ} {b : Bool} → l ≡ listed k → eqb (bit_and g l) g ≡ b → within g (listed k) ≡ b
listed_test g k {l} {b} p e = rw (← p) e

pub way_test : (d k : ℕ) {l : ℕ} {b : Bool} → l ≡ cond (eqb k 2) 1 0 → leb d l ≡ b → leb d (cond (eqb k 2) 1 0) ≡ b
way_test d k {l} {b} p e = rw (← p) e
