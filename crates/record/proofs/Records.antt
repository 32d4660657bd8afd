-- Records converted to wire numbers and back, and what the tests of `formed` say.
use Prim.Native.Nat.{ℕ, zero, suc, ◌+◌, ◌%◌, ◌^◌, ◌<◌, ◌≤◌}
use mathlib.Core.Path.{◌≡◌, refl, sym, ap, ◌∙◌}
use mathlib.Core.Bool.{Bool, true, false, cond, ◌&&◌, true≢false}
use mathlib.Core.List.{List, [], ◌∷◌}
use native.Mathlib.Nat.{le_trans, mod-lt, mod-eq_of_lt}
use native.Mathlib.Omega.{arith}
use lib.Bits.{bit_and}
use lib.Dec.{eqb, leb, ltb}
use lib.IntN.{ℤ}
use lib.ListN.{length, get_or, set, replicate, length-set}
use lib.Pow.{pow_pos}
use lib.Seq.{set_comm, set-set, set-get_or}
use lib.Signed.{mag}
use mir.Syntax.{w16}
use mir.Val.{SFits}
use mir.Facts.{to_z-of_z, of_z-to_z}
use borrow.Author.Tests.{ltb-true, lt-ltb, leb-true, ne_eqb}
use Rattle.record.specs.declared.layout.Row.{Row}
use Rattle.record.specs.declared.record.Record.{Record}
use Rattle.record.specs.Layout.{layout, octets_of, tables, treadmill, cross_trainer, step_climber, stair_climber, rower, indoor_bike}
use Rattle.record.specs.Groups.{has, named, listed, known, within}
use Rattle.record.specs.Octets.{signed, unsigned}
use Rattle.record.specs.Record.{wire, of_wire, all_fit, others, all_zero, formed, kept, Formed, type_bits, bits_within, in_types, Typed}
use Rattle.record.proofs.Tests.{passed, failed, tested, eqb_eq, eqb_ne, and_l, and_r, all, all_at}
use Rattle.record.proofs.Turns.{tests}

-- ---- signed numbers that went through their bits

pub through : {z y : ℤ} → mag z < 2 ^ 15 → z ≡ y → signed (unsigned z) ≡ y
through {z} h e = to_z-of_z {w = w16} {z = z} (record { sfits = h }) ∙ e

pub back : (z : ℤ) → mag z < 2 ^ 15 → unsigned (signed (unsigned z)) ≡ unsigned z
back z h = ap unsigned (through {z = z} {y = z} h refl)

-- ---- a record's numbers, each of its field's type

number_within : (bs v : List ℕ) (j : ℕ) {b : ℕ} → bits_within bs v ≡ true → get_or bs j 0 ≡ suc b → get_or v j 0 < 2 ^ suc b
unfolding bits_within
number_within [] v j h e = absurd (omega arith)
number_within (a ∷ bs) [] j {b} h e = pow_pos (suc b)
number_within (a ∷ bs) (x ∷ v) zero h e = rw e at (ltb-true x (2 ^ a) (and_l (ltb x (2 ^ a)) (bits_within bs v) h))
number_within (a ∷ bs) (x ∷ v) (suc j) h e = number_within bs v j (and_r (ltb x (2 ^ a)) (bits_within bs v) h) e

-- the n numbers of a list from an index on, one by one
abbrev from : ℕ → ℕ → List ℕ → List ℕ
from zero i v = []
from (suc n) i v = get_or v i 0 ∷ from n (suc i) v

from_next : (n i x : ℕ) (v : List ℕ) → from n (suc i) (x ∷ v) ≡ from n i v
from_next zero i x v = refl
from_next (suc n) i x v = ap (λ (l : List ℕ). get_or v i 0 ∷ l) (from_next n (suc i) x v)

from_start : (n : ℕ) (v : List ℕ) → length v ≡ n → from n 0 v ≡ v
from_start zero [] e = refl
from_start zero (x ∷ v) e = absurd (omega arith)
from_start (suc n) [] e = absurd (omega arith)
from_start (suc n) (x ∷ v) e = ap (λ (l : List ℕ). x ∷ l) (from_next n 0 x v ∙ from_start n v (omega arith))

-- a number that fits its field's type is not truncated
module _ (v : List ℕ) (h : in_types v ≡ true) where
  cut : (j : ℕ) {b : ℕ} → get_or type_bits j 0 ≡ suc b → get_or v j 0 % 2 ^ suc b ≡ get_or v j 0
  cut j e = mod-eq_of_lt (number_within type_bits v j h e)

  turned : (j : ℕ) → get_or type_bits j 0 ≡ 16 → unsigned (signed (get_or v j 0 % 2 ^ 16)) ≡ get_or v j 0
  turned j e = of_z-to_z {w = w16} (record { fits = mod-lt (get_or v j 0) (pow_pos 16) }) ∙ cut j e

pub numbers_again : (k g d : ℕ) (v : List ℕ) → length v ≡ 31 → in_types v ≡ true → wire (of_wire k g d v) ≡ v
numbers_again k g d v l h = (λ i. cut v h 0 refl i ∷ cut v h 1 refl i ∷ cut v h 2 refl i ∷ cut v h 3 refl i ∷ cut v h 4 refl i ∷ cut v h 5 refl i ∷ get_or v 6 0 ∷ turned v h 7 refl i ∷ turned v h 8 refl i ∷ cut v h 9 refl i ∷ cut v h 10 refl i ∷ cut v h 11 refl i ∷ cut v h 12 refl i ∷ cut v h 13 refl i ∷ cut v h 14 refl i ∷ cut v h 15 refl i ∷ cut v h 16 refl i ∷ cut v h 17 refl i ∷ cut v h 18 refl i ∷ cut v h 19 refl i ∷ turned v h 20 refl i ∷ turned v h 21 refl i ∷ cut v h 22 refl i ∷ cut v h 23 refl i ∷ cut v h 24 refl i ∷ turned v h 25 refl i ∷ turned v h 26 refl i ∷ turned v h 27 refl i ∷ cut v h 28 refl i ∷ cut v h 29 refl i ∷ cut v h 30 refl i ∷ []) ∙ from_start 31 v l

module _ (r : Record) (t : Typed r) where
  n : (j : ℕ) {b : ℕ} → get_or type_bits j 0 ≡ suc b → get_or (wire r) j 0 % 2 ^ suc b ≡ get_or (wire r) j 0
  n = cut (wire r) t.numbers

  s : (j : ℕ) {z : ℤ} → get_or type_bits j 0 ≡ 16 → SFits w16 z → get_or (wire r) j 0 ≡ unsigned z → signed (get_or (wire r) j 0 % 2 ^ 16) ≡ z
  s j {z} e q f = ap signed (n j e ∙ f) ∙ through {z = z} q.sfits refl

  pub record_again : of_wire r.kind r.groups r.direction (wire r) ≡ r
  record_again =
      λ i. record {
        kind = r.kind;
        groups = r.groups;
        direction = r.direction;
        speed = n 0 refl i;
        climb = record { floors = n 1 refl i; steps = n 2 refl i };
        stroke = record { rate = n 3 refl i; count = n 4 refl i };
        average_speed = n 5 refl i;
        distance = r.distance;
        slope = record { inclination = record { 0 = s 7 refl t.inclination refl i }; ramp_angle = record { 0 = s 8 refl t.ramp_angle refl i } };
        gain = record { positive = n 9 refl i; negative = n 10 refl i };
        pace = n 11 refl i;
        average_pace = n 12 refl i;
        energy = record { total = n 13 refl i; per_hour = n 14 refl i; per_minute = n 15 refl i };
        heart_rate = n 16 refl i;
        metabolic_equivalent = n 17 refl i;
        elapsed = n 18 refl i;
        remaining = n 19 refl i;
        force = record { belt = s 20 refl t.belt refl i; power_output = s 21 refl t.power_output refl i };
        step_rates = record { rate = n 22 refl i; average = n 23 refl i };
        stride_count = n 24 refl i;
        resistance = s 25 refl t.resistance refl i;
        power = s 26 refl t.power refl i;
        average_power = s 27 refl t.average_power refl i;
        average_stroke_rate = n 28 refl i;
        cadence = n 29 refl i;
        average_cadence = n 30 refl i;
      }

-- ---- the numbers of rows, kept over others

-- two numbers stored at two indices, in either order
set_swap : (a : ℕ → ℕ) (i j : ℕ) (z : List ℕ) → set (set z i (a i)) j (a j) ≡ set (set z j (a j)) i (a i)
set_swap a i j z = elim (tested (eqb i j)) [
  | passed e ↦ rw (eqb_eq i j e)
  | failed e ↦ set_comm z i j (a i) (a j) (eqb_ne i j e)
]

kept_put : (rows : List Row) (v : List ℕ) (f : ℕ) (z : List ℕ) → kept rows v (set z f (get_or v f 0)) ≡ set (kept rows v z) f (get_or v f 0)
unfolding kept
kept_put [] v f z = refl
kept_put (r ∷ rows) v f z =
    ap (kept rows v) (set_swap (λ (j : ℕ). get_or v j 0) f r.1 z) ∙ kept_put rows v f (set z r.1 (get_or v r.1 0))

others_set : (rows : List Row) (f : ℕ) (v : List ℕ) → others rows (set v f 0) ≡ set (others rows v) f 0
unfolding others
others_set [] f v = refl
others_set (r ∷ rows) f v = ap (others rows) (set_swap (λ (j : ℕ). 0) f r.1 v) ∙ others_set rows f (set v r.1 0)

pub kept_others : (rows : List Row) (v : List ℕ) → kept rows v (others rows v) ≡ v
unfolding kept others
kept_others [] v = refl
kept_others (r ∷ rows) v =
    rw (others_set rows r.1 v, set-set (others rows v) r.1 0 (get_or v r.1 0), kept_put rows v r.1 (others rows v), kept_others rows v)
    (set-get_or v r.1 0)

length_others : (rows : List Row) (v : List ℕ) → length (others rows v) ≡ length v
unfolding others
length_others [] v = refl
length_others (r ∷ rows) v = length_others rows (set v r.1 0) ∙ length-set v r.1 0

zeros : (n : ℕ) (z : List ℕ) → length z ≡ n → all_zero z ≡ true → z ≡ replicate n 0
unfolding all_zero
zeros zero [] l e = refl
zeros zero (x ∷ z) l e = absurd (omega arith)
zeros (suc n) [] l e = absurd (omega arith)
zeros (suc n) (x ∷ z) l e = rw (eqb_eq x 0 (and_l (eqb x 0) (all_zero z) e), zeros n z (omega arith) (and_r (eqb x 0) (all_zero z) e))

-- ---- the widths of rows fit their fields' types

slim : Row → Bool
slim r = leb (256 ^ octets_of r.2) (2 ^ get_or type_bits r.1 0)

layout_slim : (kind : ℕ) → all slim (layout kind) ≡ true
unfolding slim layout tables treadmill cross_trainer step_climber stair_climber rower indoor_bike
layout_slim kind = all_at (all slim) tables [] refl refl kind

named_slim : (set : ℕ) (rows : List Row) → all slim rows ≡ true → all slim (named set rows) ≡ true
unfolding named
named_slim set [] e = refl
named_slim set (r ∷ rows) e = go (has set r.0) (named_slim set rows (and_r (slim r) (all slim rows) e))
  where
    go : (b : Bool) → all slim (named set rows) ≡ true → all slim (cond b (r ∷ named set rows) (named set rows)) ≡ true
    go true f = rw (and_l (slim r) (all slim rows) e) f
    go false f = f

bits_set : (bs z : List ℕ) (f x : ℕ) → bits_within bs z ≡ true → x < 2 ^ get_or bs f 0 → bits_within bs (set z f x) ≡ true
unfolding bits_within
bits_set [] z f x e h = refl
bits_set (b ∷ bs) [] f x e h = refl
bits_set (b ∷ bs) (y ∷ z) zero x e h = rw (lt-ltb x (2 ^ b) h) (and_r (ltb y (2 ^ b)) (bits_within bs z) e)
bits_set (b ∷ bs) (y ∷ z) (suc f) x e h =
    rw (and_l (ltb y (2 ^ b)) (bits_within bs z) e) (bits_set bs z f x (and_r (ltb y (2 ^ b)) (bits_within bs z) e) h)

kept_in_types : (rows : List Row) (v z : List ℕ) → all slim rows ≡ true → all_fit rows v ≡ true → in_types z ≡ true → in_types (kept rows v z) ≡ true
unfolding slim kept all_fit
kept_in_types [] v z s f e = e
kept_in_types (r ∷ rows) v z s f e =
    let x : ℕ = get_or v r.1 0 in
    let w : ℕ = 256 ^ octets_of r.2 in
    kept_in_types rows v (set z r.1 x) (and_r (slim r) (all slim rows) s) (and_r (ltb x w) (all_fit rows v) f)
    (bits_set type_bits z r.1 x e
    (le_trans (ltb-true x w (and_l (ltb x w) (all_fit rows v) f)) (leb-true w (2 ^ get_or type_bits r.1 0) (and_l (slim r) (all slim rows) s))))

-- ---- what the tests of a well-formed record say

module _ (k g d : ℕ) (v : List ℕ) (h : formed k g d v ≡ true) where
  abbrev rows : List Row
  rows = named (1 + g) (layout k)

  abbrev t1 : Bool
  t1 = known k

  abbrev t2 : Bool
  t2 = t1 && within g (listed k)

  abbrev t3 : Bool
  t3 = t2 && leb d (cond (eqb k 2) 1 0)

  abbrev t4 : Bool
  t4 = t3 && all_fit rows v

  all_tests : (t4 && all_zero (others rows v)) ≡ true
  all_tests = sym (tests k g d v refl refl refl refl refl) ∙ h

  first_four : t4 ≡ true
  first_four = and_l t4 (all_zero (others rows v)) all_tests

  first_three : t3 ≡ true
  first_three = and_l t3 (all_fit rows v) first_four

  first_two : t2 ≡ true
  first_two = and_l t2 (leb d (cond (eqb k 2) 1 0)) first_three

  direction_below : (b : Bool) → leb d (cond b 1 0) ≡ true → (d < 2) × (b ≡ false → d ≡ 0)
  direction_below true e = let p : d ≤ 1 = leb-true d 1 e in (omega arith, λ f. absurd (true≢false f))
  direction_below false e = let p : d ≤ 0 = leb-true d 0 e in (omega arith, λ f. omega arith)

  directions : (d < 2) × (eqb k 2 ≡ false → d ≡ 0)
  directions = direction_below (eqb k 2) (and_r t2 (leb d (cond (eqb k 2) 1 0)) first_three)

  pub formed_listed : bit_and g (listed k) ≡ g
  formed_listed = eqb_eq (bit_and g (listed k)) g (and_r t1 (within g (listed k)) first_two)

  pub formed_way : d < 2
  formed_way = directions.0

  module _ (l : length v ≡ 31) where
    pub formed_kept : kept rows v (replicate 31 0) ≡ v
    formed_kept = rw (sym (zeros 31 (others rows v) (length_others rows v ∙ l) (and_r t4 (all_zero (others rows v)) all_tests))) (kept_others rows v)

    pub formed_facts : Formed k g d v
    formed_facts = record {
      kind_least = leb-true 1 k (and_l (leb 1 k) (leb k 6) (and_l t1 (within g (listed k)) first_two));
      kind_greatest = leb-true k 6 (and_r (leb 1 k) (leb k 6) (and_l t1 (within g (listed k)) first_two));
      listed_only = formed_listed;
      way = formed_way;
      ways = λ n. directions.1 (ne_eqb k 2 n);
      fit = and_r t3 (all_fit rows v) first_four;
      absent = formed_kept;
    }

    pub formed_in_types : in_types v ≡ true
    unfolding bits_within
    formed_in_types =
        ap in_types (sym formed_kept)
        ∙ kept_in_types rows v (replicate 31 0) (named_slim (1 + g) (layout k) (layout_slim k)) (and_r t3 (all_fit rows v) first_four) refl
