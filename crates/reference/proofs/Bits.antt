-- The lines of rows, each by the bit of the row before it, one after the other. Assumes nothing.
use Prim.Native.Nat.{ℕ, ◌+◌, ◌<◌, ◌≤◌}
use mathlib.Core.Path.{◌≡◌, refl, sym}
use mathlib.Core.List.{List, [], ◌∷◌, ◌++◌, append-nil, append_assoc}
use native.Mathlib.Numerals.{add-one}
use lib.ListN.{length, get_or, take}
use lib.Seq.{take-suc, take_all}
use Rattle.record.specs.declared.layout.Row.{Row}
use Rattle.reference.specs.Tables.{last_bit, by_bit}
use Rattle.text.specs.declared.text.Sheet.{Sheet}
use Rattle.text.specs.Sheet.{Put}
use Rattle.text.proofs.Writing.{put_then}

last_append : (b : ℕ) (rs : List Row) (r : Row) → last_bit b (rs ++ (r ∷ [])) ≡ r.0
last_append b [] r = refl
last_append b (s ∷ rs) r = last_append s.0 rs r

-- an iteration of a loop over rows: the bit of the last row
pub next_bit : (b : ℕ) (rs : List Row) (i : ℕ) (d r : Row) → r ≡ get_or rs i d → i < length rs → r.0 ≡ last_bit b (take (i + 1) rs)
next_bit b rs i d r e h = rw (add-one, take-suc rs i d h, ← e) (sym (last_append b (take i rs) r))

module _ (line : ℕ → Row → List ℕ) where
  lines_append : (b : ℕ) (rs : List Row) (r : Row) → by_bit line b (rs ++ (r ∷ [])) ≡ by_bit line b rs ++ line (last_bit b rs) r
  lines_append b [] r = append-nil (line b r)
  lines_append b (s ∷ rs) r = rw (lines_append s.0 rs r) (sym (append_assoc (line b s) _ _))

  -- an iteration of a loop over rows, and its end
  pub next_row : (b : ℕ) (rs : List Row) (i k : ℕ) (d r : Row) {s s' s'' : Sheet} → r ≡ get_or rs i d → i < length rs → k ≡ last_bit b (take i rs) →
      Put s (by_bit line b (take i rs)) s' → Put s' (line k r) s'' → Put s (by_bit line b (take (i + 1) rs)) s''
  next_row b rs i k d r e h f p q = rw (add-one, take-suc rs i d h, ← e, lines_append b (take i rs) r, ← f) (put_then p q)

  pub all_rows : (b : ℕ) (rs : List Row) (i : ℕ) {s s' : Sheet} → length rs ≤ i → Put s (by_bit line b (take i rs)) s' → Put s (by_bit line b rs) s'
  all_rows b rs i h p = rw (take_all i rs h) at p

-- the bit of the last row, at the end of such a loop
pub all_bits : (b : ℕ) (rs : List Row) (i k : ℕ) → length rs ≤ i → k ≡ last_bit b (take i rs) → k ≡ last_bit b rs
all_bits b rs i k h f = rw (take_all i rs h) at f
