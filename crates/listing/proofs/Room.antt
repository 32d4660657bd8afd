-- How long lines are: the lines of one notification fit in 1,024 octets. Assumes nothing.
use Prim.Native.Nat.{ℕ, zero, suc, ◌+◌, ◌*◌, ◌-◌, ◌/◌, ◌%◌, ◌^◌, ◌<◌, ◌≤◌, max}
use mathlib.Core.Path.{◌≡◌, refl}
use mathlib.Core.Bool.{Bool, true, false, cond}
use mathlib.Core.List.{List, [], ◌∷◌}
use native.Mathlib.Nat.{le-max_left, le-max_right, le_trans, pow-suc}
use native.Mathlib.Decide.{dec_lt}
use native.Mathlib.Omega.{arith}
use lib.ListN.{length, get_or, length-append}
use Rattle.record.specs.declared.layout.Row.{Row}
use Rattle.record.specs.declared.layout.Width.{Width}
use Rattle.record.specs.declared.layout.Width.TheVariants.{U8, U16, U24, S16}
use Rattle.record.specs.declared.record.Record.{Record}
use Rattle.record.specs.Layout.{layout, tables, treadmill, cross_trainer, step_climber, stair_climber, rower, indoor_bike}
use Rattle.record.specs.Groups.{has, optional}
use Rattle.record.specs.Record.{wire}
use Rattle.text.specs.Names.{name, names}
use Rattle.text.specs.Text.{ascii, decimal, line}
use Rattle.text.proofs.Writing.{one_digit, more_digits}
use Rattle.listing.specs.Lines.{value, field_line, field_lines, head_lines, record_lines, refused_line, head_room, fields_room, longest}
use Rattle.listing.proofs.Rows.{plain_text, minus_text}

-- a number below a power of ten has no more digits than the exponent
digits_at_most : (k n : ℕ) → n < 10 ^ suc k → length (decimal n) ≤ suc k
digits_at_most zero n h = rw (one_digit n h) (omega arith)
digits_at_most (suc k) n h = elim (dec_lt n 10) [
  | yes p ↦ rw (one_digit n p) (omega arith)
  | no p ↦
      let big : 10 ≤ n = omega arith in
      let e : 10 ^ suc (suc k) ≡ 10 ^ suc k * 10 = pow-suc 10 (suc k) in
      let r : length (decimal (n / 10)) ≤ suc k = digits_at_most k (n / 10) (omega arith) in
      rw (more_digits n big, length-append) (omega arith)
]

-- the text of a u32
text_at_most : (n : ℕ) → n < 2 ^ 32 → length (decimal n) ≤ 10
text_at_most n h = digits_at_most 9 n (omega arith)

line_at_most : (key text : List ℕ) → length text ≤ 10 → length (line key text) ≤ length key + 11
unfolding line
line_at_most key text h = simp length-append (omega arith)

number_line : (key : List ℕ) (n : ℕ) → n < 2 ^ 32 → length (line key (decimal n)) ≤ length key + 11
number_line key n h = line_at_most key (decimal n) (text_at_most n h)

value_at_most : (w : Width) (n : ℕ) → n < 2 ^ 32 → length (value w n) ≤ 10
value_at_most U8 n h = text_at_most n h
value_at_most U16 n h = text_at_most n h
value_at_most U24 n h = text_at_most n h
value_at_most S16 n h = elim (dec_lt (n % 2 ^ 16) 32768) [
  | yes p ↦ rw (plain_text (n % 2 ^ 16) p) (text_at_most _ (omega arith))
  | no p ↦
      let d : length (decimal (65536 - n % 2 ^ 16)) ≤ 5 = digits_at_most 4 (65536 - n % 2 ^ 16) (omega arith) in
      rw (minus_text (n % 2 ^ 16) (omega arith) (omega arith)) (omega arith)
]

-- the largest measure in a list: no element read from the list exceeds it
largest : {A : Type 0} → (A → ℕ) → List A → ℕ
largest f [] = 0
largest f (x ∷ l) = max (f x) (largest f l)

at_most_largest : {A : Type 0} (f : A → ℕ) (l : List A) (i : ℕ) (d : A) → f d ≡ 0 → f (get_or l i d) ≤ largest f l
unfolding largest
at_most_largest f [] i d e = omega arith
at_most_largest f (x ∷ l) zero d e = le-max_left (f x) (largest f l)
at_most_largest f (x ∷ l) (suc i) d e = le_trans (at_most_largest f l i d e) (le-max_right (f x) (largest f l))

name_at_most : (field : ℕ) → length (name field) ≤ 21
unfolding name names largest
name_at_most field = at_most_largest (λ s. length (ascii s)) names field "" refl

rows_at_most : (kind : ℕ) → length (layout kind) ≤ 20
unfolding largest layout tables treadmill cross_trainer step_climber stair_climber rower indoor_bike
rows_at_most kind = at_most_largest length tables kind [] refl

module _ (set : ℕ) (v : List ℕ) (h : (i : ℕ) → get_or v i 0 < 2 ^ 32) where
  row_at_most : (r : Row) → length (field_line set v r) ≤ 32
  unfolding field_line
  row_at_most r = shown (has set r.0)
    where
      shown : (b : Bool) → length (cond b (line (name r.1) (value r.2 (get_or v r.1 0))) []) ≤ 32
      shown true =
          let text = value r.2 (get_or v r.1 0) in
          omega (arith, line_at_most (name r.1) text (value_at_most r.2 (get_or v r.1 0) (h r.1)), name_at_most r.1)
      shown false = omega arith

  fields_at_most : (rows : List Row) → length (field_lines set v rows) ≤ 32 * length rows
  fields_at_most [] = omega arith
  fields_at_most (r ∷ rows) = rw length-append (omega (arith, row_at_most r, fields_at_most rows))

  -- the lines of all the fields of a kind
  pub fields_short : (kind : ℕ) → length (field_lines set v (layout kind)) ≤ fields_room
  fields_short kind = omega (arith, fields_at_most (layout kind), rows_at_most kind)

pub head_short : (number kind groups direction : ℕ) → number < 2 ^ 32 → kind < 2 ^ 32 → groups < 2 ^ 32 → direction < 2 ^ 32
    → length (head_lines number kind groups direction) ≤ head_room
unfolding head_lines
head_short number kind groups direction n k g d =
    simp length-append
    (omega (
      arith,
      number_line (ascii "record=") number n,
      number_line (ascii "kind=") kind k,
      number_line (ascii "groups=") groups g,
      number_line (ascii "direction=") direction d,
    ))

pub refused_short : (n : ℕ) → n < 2 ^ 32 → length (refused_line n) ≤ longest
unfolding refused_line
refused_short n h = omega (arith, number_line (ascii "refused=") n h)

-- a record's lines: its head, then its fields
pub record_short : (number : ℕ) (r : Record) {v : List ℕ} → v ≡ wire r → length (head_lines number r.kind r.groups r.direction) ≤ head_room
    → length (field_lines (optional r.groups + 1) v (layout r.kind)) ≤ fields_room → length (record_lines number r) ≤ longest
unfolding record_lines
record_short number r e h f = rw (length-append, ← e) (omega arith)
