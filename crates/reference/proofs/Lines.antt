-- The lines of rows, one after the other. Assumes nothing.
use Prim.Native.Nat.{ℕ, ◌+◌, ◌<◌, ◌≤◌}
use mathlib.Core.Path.{◌≡◌, sym, ap, ◌∙◌}
use mathlib.Core.List.{List, [], ◌∷◌, ◌++◌, append-nil, append_assoc}
use native.Mathlib.Numerals.{add-one}
use native.Mathlib.Omega.{arith}
use lib.ListN.{length, get_or, take}
use lib.Seq.{take-suc, take_all}
use Rattle.record.specs.declared.layout.Row.{Row}
use Rattle.record.specs.Layout.{octets_of}
use Rattle.record.specs.Groups.{size}
use Rattle.reference.specs.Tables.{row_line, row_lines}
use Rattle.text.specs.declared.text.Sheet.{Sheet}
use Rattle.text.specs.Sheet.{Put}
use Rattle.text.proofs.Writing.{put_then}

size_append : (rs : List Row) (r : Row) → size (rs ++ (r ∷ [])) ≡ size rs + octets_of r.2
unfolding size
size_append [] r = omega arith
size_append (s ∷ rs) r = let e : size (rs ++ (r ∷ [])) ≡ size rs + octets_of r.2 = size_append rs r in omega arith

module _ (kind : ℕ) where
  lines_append : (o : ℕ) (rs : List Row) (r : Row) → row_lines kind o (rs ++ (r ∷ [])) ≡ row_lines kind o rs ++ row_line kind (o + size rs) r
  unfolding size
  lines_append o [] r = let e : o ≡ o + 0 = omega arith in append-nil (row_line kind o r) ∙ ap (λ (k : ℕ). row_line kind k r) e
  lines_append o (s ∷ rs) r =
      let e : o + octets_of s.2 + size rs ≡ o + (octets_of s.2 + size rs) = omega arith in
      rw (lines_append (o + octets_of s.2) rs r, e) (sym (append_assoc (row_line kind o s) _ _))

  -- an iteration of a loop over rows
  pub next_line : (o : ℕ) (rs : List Row) (i k : ℕ) (d r : Row) {s s' s'' : Sheet} → r ≡ get_or rs i d → i < length rs → k ≡ o + size (take i rs) →
      Put s (row_lines kind o (take i rs)) s' → Put s' (row_line kind k r) s'' → Put s (row_lines kind o (take (i + 1) rs)) s''
  next_line o rs i k d r e h f p q = rw (add-one, take-suc rs i d h, ← e, lines_append o (take i rs) r, ← f) (put_then p q)

  pub all_lines : (o : ℕ) (rs : List Row) (i : ℕ) {s s' : Sheet} → length rs ≤ i → Put s (row_lines kind o (take i rs)) s' → Put s (row_lines kind o rs) s'
  all_lines o rs i h p = rw (take_all i rs h) at p

pub next_size : (o : ℕ) (rs : List Row) (i : ℕ) (d r : Row) → r ≡ get_or rs i d → i < length rs → o + size (take (i + 1) rs) ≡ o + size (take i rs) + octets_of r.2
next_size o rs i d r e h =
    rw (add-one, take-suc rs i d h, ← e) (let f : size (take i rs ++ (r ∷ [])) ≡ size (take i rs) + octets_of r.2 = size_append (take i rs) r in omega arith)
