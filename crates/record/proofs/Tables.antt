-- What the proofs use of the kinds' tables, computed over all of them: a seventh kind is computed with the others.
use Prim.Native.Nat.{ℕ, zero, suc, ◌+◌, ◌%◌, ◌^◌, ◌<◌, ◌≤◌}
use mathlib.Core.Path.{◌≡◌, refl}
use mathlib.Core.Bool.{Bool, true, false, cond, ◌&&◌}
use mathlib.Core.List.{List, [], ◌∷◌}
use native.Mathlib.Omega.{arith}
use native.Mathlib.Nat.{le_trans, mod-one, zero-add, suc-add}
use native.Mathlib.Numerals.{add-one}
use lib.Dec.{eqb, leb, ltb}
use lib.ListN.{length, get_or}
use Rattle.record.specs.declared.layout.Row.{Row}
use Rattle.record.specs.declared.layout.Width.{Width}
use Rattle.record.specs.declared.layout.Width.TheVariants.{U8, U16, U24, S16}
use Rattle.record.specs.Layout.{octets_of, no_row, tables, layout, treadmill, cross_trainer, step_climber, stair_climber, rower, indoor_bike}
use Rattle.record.specs.Groups.{has, named, size, groups_of, listed, flags_octets, set_length}
use Rattle.record.proofs.Tests.{passed, failed, tested, eqb_eq, eqb_ne, leb_le, and_l, and_r, all, all_at, all_in}
use Rattle.record.proofs.Rows.{below, groups_below, named_low, named_empty, size_named, size_next}

-- ---- of every number, kind or not

-- a row's field is one of the 31
field_known : Row → Bool
field_known r = ltb r.1 31

-- the bits are below 15, all rows together take 64 octets at most, there are twenty at most, the fields are below 31
abbrev small : List Row → Bool
small rows = (below 15 rows && leb (size rows) 64) && (leb (length rows) 20 && all field_known rows)

abbrev Small : List Row → Type 0
Small rows = small rows ≡ true

layout_small : (kind : ℕ) → Small (layout kind)
unfolding layout tables treadmill cross_trainer step_climber stair_climber rower indoor_bike size field_known
layout_small kind = all_at small tables [] refl refl kind

module _ (kind : ℕ) where
  abbrev bits_and_octets : Bool
  bits_and_octets = below 15 (layout kind) && leb (size (layout kind)) 64

  abbrev count_and_fields : Bool
  count_and_fields = leb (length (layout kind)) 20 && all field_known (layout kind)

  pub bits_below : below 15 (layout kind) ≡ true
  bits_below = and_l (below 15 (layout kind)) (leb (size (layout kind)) 64) (and_l bits_and_octets count_and_fields (layout_small kind))

  pub rows_most : length (layout kind) ≤ 20
  rows_most =
      leb_le (length (layout kind)) 20
      (and_l (leb (length (layout kind)) 20) (all field_known (layout kind)) (and_r bits_and_octets count_and_fields (layout_small kind)))

  pub field_below : (i : ℕ) → (get_or (layout kind) i no_row).1 < 31
  unfolding field_known
  field_below i =
      leb_le (suc (get_or (layout kind) i no_row).1) 31
      (all_at field_known (layout kind) no_row
      (and_r (leb (length (layout kind)) 20) (all field_known (layout kind)) (and_r bits_and_octets count_and_fields (layout_small kind))) refl i)

  pub octets_most : (set : ℕ) → set_length kind set ≤ 64
  octets_most set =
      le_trans (size_named (layout kind) set)
      (leb_le (size (layout kind)) 64 (and_r (below 15 (layout kind)) (leb (size (layout kind)) 64) (and_l bits_and_octets count_and_fields (layout_small kind))))

  pub listed_below : listed kind < 2 ^ 15
  unfolding listed
  listed_below =
      let h : groups_of (layout kind) < 2 ^ 15 = groups_below (layout kind) 15 bits_below in omega arith

-- "Flags are 2 octets, for cross trainer 3."
flags_at_least : (b : Bool) → 2 ≤ cond b 3 2
flags_at_least true = omega arith
flags_at_least false = omega arith

flags_at_most : (b : Bool) → cond b 3 2 ≤ 3
flags_at_most true = omega arith
flags_at_most false = omega arith

pub flags_least : (kind : ℕ) → 2 ≤ flags_octets kind
flags_least kind = flags_at_least (eqb kind 2)

pub flags_most : (kind : ℕ) → flags_octets kind ≤ 3
flags_most kind = flags_at_most (eqb kind 2)

pub width_most : (w : Width) → octets_of w ≤ 3
width_most U8 = omega arith
width_most U16 = omega arith
width_most U24 = omega arith
width_most S16 = omega arith

-- the groups of a set are its groups below bit 15
pub all_named : (kind set : ℕ) → named (set % 2 ^ 15) (layout kind) ≡ named set (layout kind)
all_named kind set = named_low (layout kind) set 15 (bits_below kind)

-- one bit more, in the set or not
module _ (kind set bit : ℕ) where
  pub length_next : has set bit ≡ true → set_length kind (set % 2 ^ (bit + 1)) ≡ set_length kind (set % 2 ^ bit) + set_length kind (2 ^ bit)
  length_next h = rw (add-one bit, size_next (layout kind) set bit, h)

  pub length_stays : has set bit ≡ false → set_length kind (set % 2 ^ (bit + 1)) ≡ set_length kind (set % 2 ^ bit)
  length_stays h = rw (add-one bit, size_next (layout kind) set bit, h) (omega arith)

-- the groups below bit 0 take no octets
pub length_none : (kind set : ℕ) → set_length kind (set % 2 ^ 0) ≡ 0
unfolding size
length_none kind set = rw (mod-one set, named_empty (layout kind))

-- more bits take no fewer octets
added : (h : Bool) (a x y : ℕ) → y ≡ a + cond h x 0 → a ≤ y
added true a x y e = omega arith
added false a x y e = omega arith

pub length_mono : (kind set a d : ℕ) → set_length kind (set % 2 ^ a) ≤ set_length kind (set % 2 ^ (d + a))
length_mono kind set a zero = rw (zero-add a) (omega arith)
length_mono kind set a (suc d) =
    let h : set_length kind (set % 2 ^ (d + a)) ≤ set_length kind (set % 2 ^ suc (d + a)) =
    added (has set (d + a)) (set_length kind (set % 2 ^ (d + a))) (set_length kind (2 ^ (d + a))) (set_length kind (set % 2 ^ suc (d + a)))
    (size_next (layout kind) set (d + a)) in
    rw (suc-add d a) (le_trans (length_mono kind set a d) h)

-- ---- of the six kinds

-- each group, the main one too, takes 17 octets at most, and there is a main one
abbrev groups_small : ℕ → List Row → Bool
groups_small zero rows = true
groups_small (suc n) rows = leb (size (named (2 ^ n) rows)) 17 && groups_small n rows

abbrev good : List Row → Bool
good rows = groups_small 15 rows && eqb (groups_of rows % 2) 1

pub record Sound (kind : ℕ) : Type 0 where
  pub group : (l : ℕ) → l < 15 → set_length kind (2 ^ l) ≤ 17
  pub main : groups_of (layout kind) % 2 ≡ 1

group_small : (n : ℕ) (rows : List Row) → groups_small n rows ≡ true → (l : ℕ) → l < n → size (named (2 ^ l) rows) ≤ 17
group_small zero rows e l h = absurd (omega arith)
group_small (suc n) rows e l h = elim (tested (eqb l n)) [
  | passed i ↦ rw (eqb_eq l n i) (leb_le (size (named (2 ^ n) rows)) 17 (and_l (leb (size (named (2 ^ n) rows)) 17) (groups_small n rows) e))
  | failed i ↦
      let d : l ≡ n → ⊥ = eqb_ne l n i in
      group_small n rows (and_r (leb (size (named (2 ^ n) rows)) 17) (groups_small n rows) e) l (omega arith)
]

layout_good : (k : ℕ) → k < 6 → good (layout (suc k)) ≡ true
unfolding layout tables treadmill cross_trainer step_climber stair_climber rower indoor_bike size named has groups_of
layout_good k h =
    all_in good (treadmill ∷ cross_trainer ∷ step_climber ∷ stair_climber ∷ rower ∷ indoor_bike ∷ []) [] refl k h

sound_next : (k : ℕ) → k < 6 → Sound (suc k)
sound_next k h =
    let rows : List Row = layout (suc k) in record {
      group = group_small 15 rows (and_l (groups_small 15 rows) (eqb (groups_of rows % 2) 1) (layout_good k h));
      main = eqb_eq (groups_of rows % 2) 1 (and_r (groups_small 15 rows) (eqb (groups_of rows % 2) 1) (layout_good k h));
    }

pub sound : (kind : ℕ) → 1 ≤ kind → kind ≤ 6 → Sound kind
sound zero h k = absurd (omega arith)
sound (suc n) h k = sound_next n k
