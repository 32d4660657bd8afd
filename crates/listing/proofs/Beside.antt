-- Our listing prints each name beside its value; one that exchanges the two gains is refuted.
use Prim.Native.Nat.{ℕ, zero, suc, ◌+◌, ◌-◌, ◌%◌, ◌/◌, ◌^◌, ◌<◌}
use Prim.Native.String.{String}
use mathlib.Core.Path.{◌≡◌, refl, sym, ap, ap₂, ◌∙◌}
use mathlib.Core.Bool.{Bool, true, false, cond, not, ◌&&◌, ◌||◌}
use mathlib.Core.List.{List, [], ◌∷◌, ◌++◌, map}
use native.Mathlib.Nat.{suc_inj}
use native.Mathlib.Omega.{arith}
use lib.Dec.{eqb, ltb}
use lib.IntN.{ℤ}
use lib.ListN.{length, get_or, get_or-map}
use Rattle.record.specs.declared.layout.Row.{Row}
use Rattle.record.specs.declared.layout.Width.{Width}
use Rattle.record.specs.declared.layout.Width.TheVariants.{U8, U16, U24, S16}
use Rattle.record.specs.declared.record.Record.{Record}
use Rattle.record.specs.Layout.{layout, tables, treadmill, cross_trainer, step_climber, stair_climber, rower, indoor_bike}
use Rattle.record.specs.Groups.{has, optional}
use Rattle.record.specs.Octets.{signed}
use Rattle.record.specs.Order.{exchanged}
use Rattle.record.specs.Record.{wire, Typed}
use Rattle.record.specs.Samples as Samples
use Rattle.record.proofs.Records.{record_again}
use Rattle.record.proofs.SampleLaws.{trainer_formed, trainer_typed}
use Rattle.record.proofs.Sets.{has_zero, has_half}
use Rattle.record.proofs.Tests.{all, all_at, and_l, and_r, leb_le, eqb_false}
use Rattle.text.specs.Names.{name, names}
use Rattle.text.specs.Text.{ascii, decimal, integer, line}
use Rattle.listing.specs.Lines.{value, field_line, field_lines, head_lines, record_lines}
use Rattle.listing.specs.Beside.{entries, no_entry, lines_beside, Lists}

-- ---- which fields are signed

abbrev is_s16 : Width → Bool
is_s16 U8 = false
is_s16 U16 = false
is_s16 U24 = false
is_s16 S16 = true

abbrev signs : List Bool
signs =
    false ∷ false ∷ false ∷ false ∷ false ∷ false ∷ false ∷ true ∷ true ∷ false ∷ false ∷ false ∷ false ∷ false ∷ false ∷ false ∷ false ∷ false ∷ false ∷
    false ∷ true ∷ true ∷ false ∷ false ∷ false ∷ true ∷ true ∷ true ∷ false ∷ false ∷ false ∷ []

abbrev alike : Bool → Bool → Bool
alike true b = b
alike false b = not b

-- a row's field is one of the 31, and signed exactly when its width is
abbrev fine : Row → Bool
fine row = ltb row.1 31 && alike (is_s16 row.2) (get_or signs row.1 false)

layout_fine : (kind : ℕ) → all fine (layout kind) ≡ true
unfolding layout tables treadmill cross_trainer step_climber stair_climber rower indoor_bike
layout_fine kind = all_at (all fine) tables [] refl refl kind

alike_same : (a b : Bool) → alike a b ≡ true → a ≡ b
alike_same true true e = refl
alike_same true false e = sym e
alike_same false true e = e
alike_same false false e = refl

-- ---- texts

abbrev text_of : Bool → ℕ → List ℕ
text_of true n = integer (signed (n % 2 ^ 16))
text_of false n = decimal n

value_text : (w : Width) (n : ℕ) → value w n ≡ text_of (is_s16 w) n
value_text U8 n = refl
value_text U16 n = refl
value_text U24 n = refl
value_text S16 n = refl

abbrev texts : List Bool → List ℕ → List (List ℕ)
texts [] v = []
texts (b ∷ bs) [] = []
texts (b ∷ bs) (n ∷ v) = text_of b n ∷ texts bs v

getD_texts : (bs : List Bool) (v : List ℕ) (i : ℕ) → length bs ≡ length v → get_or (texts bs v) i (decimal 0) ≡ text_of (get_or bs i false) (get_or v i 0)
getD_texts [] [] i e = refl
getD_texts [] (n ∷ v) i e = absurd (omega (arith, e))
getD_texts (b ∷ bs) [] i e = absurd (omega (arith, e))
getD_texts (b ∷ bs) (n ∷ v) zero e = refl
getD_texts (b ∷ bs) (n ∷ v) (suc i) e = getD_texts bs v i (suc_inj e)

-- within a list's length the default does not matter
within : {A : Type 0} (l : List A) (i : ℕ) (d e : A) → i < length l → get_or l i d ≡ get_or l i e
within [] i d e h = absurd (omega arith)
within (x ∷ l) zero d e h = refl
within (x ∷ l) (suc i) d e h = within l i d e (omega arith)

keyed : map (λ (e : String × (Record → ℤ)). ascii e.0 ++ ascii "=") entries ≡ map ascii names
unfolding names
keyed = refl

name_same : (f : ℕ) → f < 31 → name f ≡ ascii (get_or entries f no_entry).0 ++ ascii "="
unfolding name names
name_same f h =
    sym (get_or-map ascii names f "")
    ∙ within (map ascii names) f (ascii "") (ascii "=") h
    ∙ ap (λ (l : List (List ℕ)). get_or l f (ascii "=")) (sym keyed)
    ∙ get_or-map (λ (e : String × (Record → ℤ)). ascii e.0 ++ ascii "=") entries f no_entry

module _ (r : Record) (t : Typed r) where
  texts_same : texts signs (wire r) ≡ map (λ (e : String × (Record → ℤ)). integer (e.1 r)) entries
  unfolding integer
  texts_same =
      rw (
        ap (λ (x : Record). x.slope.inclination.0) (record_again r t),
        ap (λ (x : Record). x.slope.ramp_angle.0) (record_again r t),
        ap (λ (x : Record). x.force.belt) (record_again r t),
        ap (λ (x : Record). x.force.power_output) (record_again r t),
        ap (λ (x : Record). x.resistance) (record_again r t),
        ap (λ (x : Record). x.power) (record_again r t),
        ap (λ (x : Record). x.average_power) (record_again r t),
      ) refl

  value_same : (row : Row) → fine row ≡ true → value row.2 (get_or (wire r) row.1 0) ≡ integer ((get_or entries row.1 no_entry).1 r)
  unfolding integer
  value_same row e =
      let f : ℕ = row.1 in
      let s : is_s16 row.2 ≡ get_or signs f false = alike_same (is_s16 row.2) (get_or signs f false) (and_r (ltb f 31) (alike (is_s16 row.2) (get_or signs f false)) e) in
      value_text row.2 (get_or (wire r) f 0)
      ∙ ap (λ (b : Bool). text_of b (get_or (wire r) f 0)) s
      ∙ sym (getD_texts signs (wire r) f refl)
      ∙ ap (λ (l : List (List ℕ)). get_or l f (decimal 0)) texts_same
      ∙ get_or-map (λ (x : String × (Record → ℤ)). integer (x.1 r)) entries f no_entry

  -- a field is in the set with the main group exactly when it is present
  in_set : (g b : ℕ) → has (optional g + 1) b ≡ (eqb b 0 || has g b)
  in_set g zero = let z : (g - g % 2 + 1) % 2 ≡ 1 = omega arith in has_zero (optional g + 1) ∙ rw z
  in_set g (suc b) =
      let h : (g - g % 2 + 1) / 2 ≡ g / 2 = omega arith in
      let n : eqb (suc b) 0 ≡ false = eqb_false (λ (x : suc b ≡ 0). omega (arith, x)) in
      sym (has_half (optional g + 1) b) ∙ ap (λ (n : ℕ). has n b) h ∙ has_half g b ∙ ap (λ (x : Bool). x || has g (suc b)) (sym n)

  lines_same : (rows : List Row) → all fine rows ≡ true → field_lines (optional r.groups + 1) (wire r) rows ≡ lines_beside r rows
  unfolding field_line
  lines_same [] e = refl
  lines_same (row ∷ rows) e =
      let f : fine row ≡ true = and_l (fine row) (all fine rows) e in
      ap₂ ◌++◌
      (ap₂ (λ (b : Bool) (l : List ℕ). cond b l []) (in_set r.groups row.0)
      (ap₂ line (name_same row.1 (leb_le (suc row.1) 31 (and_l (ltb row.1 31) (alike (is_s16 row.2) (get_or signs row.1 false)) f))) (value_same row f)))
      (lines_same rows (and_r (fine row) (all fine rows) e))

-- ours
pub ours_lists : Lists record_lines
unfolding record_lines head_lines
ours_lists n r t w =
    ap (λ (l : List ℕ). head_lines n r.kind r.groups r.direction ++ l) (lines_same r t (layout r.kind) (layout_fine r.kind))

-- ---- a lister that prints the two gains under each other's names

-- the last digit of the sample's positive gain: 1010, and 1011 if the two are exchanged
abbrev digit : List ℕ → ℕ
digit text = get_or text 161 0

digits_differ : (digit (record_lines 1 Samples.cross_trainer) ≡ 48) × (digit (record_lines 1 (exchanged Samples.cross_trainer)) ≡ 49)
unfolding record_lines head_lines field_line line decimal integer name names layout has tables cross_trainer
digits_differ = (refl, refl)

pub not_exchanging : Lists (λ n r. record_lines n (exchanged r)) → ⊥
not_exchanging h =
    let e : record_lines 1 (exchanged Samples.cross_trainer) ≡ record_lines 1 Samples.cross_trainer =
    h 1 Samples.cross_trainer trainer_typed trainer_formed ∙ sym (ours_lists 1 Samples.cross_trainer trainer_typed trainer_formed) in
    let z : ◌≡◌ {A = ℕ} 49 48 = sym digits_differ.1 ∙ ap digit e ∙ digits_differ.0 in omega arith
