-- The texts of numbers, and the lines of rows. Assumes nothing.
use Prim.Native.Nat.{ℕ, suc, ◌+◌, ◌-◌, ◌<◌, ◌≤◌}
use mathlib.Core.Path.{◌≡◌, refl, sym}
use mathlib.Core.List.{List, [], ◌∷◌, ◌++◌, append-nil, append_assoc}
use mathlib.Core.Bool.{true, false}
use native.Mathlib.Numerals.{add-one}
use native.Mathlib.Omega.{arith}
use borrow.Author.Tests.{lt-ltb, le-ltb}
use lib.ListN.{length, get_or, take}
use lib.Seq.{take-suc}
use Rattle.record.specs.declared.layout.Row.{Row}
use Rattle.record.specs.declared.record.Record.{Record}
use Rattle.record.specs.Layout.{layout}
use Rattle.record.specs.Groups.{has, optional}
use Rattle.record.specs.Record.{wire}
use Rattle.record.specs.Octets as Octets
use Rattle.listing.specs.Lines.{value, field_line, field_lines, head_lines, record_lines}
use Rattle.text.specs.Names.{name}
use Rattle.text.specs.declared.text.Sheet.{Sheet}
use Rattle.text.specs.Sheet.{Put}
use Rattle.text.specs.Text.{decimal, integer, line}
use Rattle.text.proofs.Writing.{put_then}

-- the text of sixteen bits: below 32,768, and from 32,768 on
pub plain_text : (n : ℕ) → n < 32768 → integer (Octets.signed n) ≡ decimal n
unfolding integer
plain_text n h = rw (lt-ltb n 32768 h)

pub minus_text : (n : ℕ) → 32768 ≤ n → n < 65536 → integer (Octets.signed n) ≡ 45 ∷ decimal (65536 - n)
unfolding integer
minus_text n h k =
    let e : suc (65536 - suc n) ≡ 65536 - n = omega arith in
    rw (le-ltb n 32768 h, e)

module _ (set : ℕ) (v : List ℕ) where
  pub shown : (r : Row) → has set r.0 ≡ true → field_line set v r ≡ line (name r.1) (value r.2 (get_or v r.1 0))
  unfolding field_line
  shown r e = rw e

  pub hidden : (r : Row) → has set r.0 ≡ false → field_line set v r ≡ []
  unfolding field_line
  hidden r e = rw e

  lines_append : (rs ss : List Row) → field_lines set v (rs ++ ss) ≡ field_lines set v rs ++ field_lines set v ss
  lines_append [] ss = refl
  lines_append (r ∷ rs) ss = rw (lines_append rs ss) (sym (append_assoc (field_line set v r) _ _))

  -- one iteration of a loop over rows
  pub next_row : (rs : List Row) (i : ℕ) (d r : Row) {s s' s'' : Sheet} → r ≡ get_or rs i d → i < length rs → Put s (field_lines set v (take i rs)) s'
      → Put s' (field_line set v r) s'' → Put s (field_lines set v (take (i + 1) rs)) s''
  next_row rs i d r e h p q =
      rw (add-one, take-suc rs i d h, ← e, lines_append (take i rs) (r ∷ []), append-nil (field_line set v r)) (put_then p q)

-- the head of a record, then its fields
pub whole_record : (number : ℕ) (r : Record) {v : List ℕ} {s s' s'' : Sheet} → v ≡ wire r → Put s (head_lines number r.kind r.groups r.direction) s'
    → Put s' (field_lines (optional r.groups + 1) v (layout r.kind)) s'' → Put s (record_lines number r) s''
unfolding record_lines
whole_record number r e p q = put_then p (rw e at q)
