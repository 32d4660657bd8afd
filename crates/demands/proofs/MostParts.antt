-- No well-formed record has more than three parts at any payload from 20 on, and no notification is longer than 41 octets. The cross trainer with all
-- groups reaches both numbers, so neither can be less.
use Prim.Native.Nat.{ℕ, zero, suc, ◌+◌, ◌*◌, ◌-◌, ◌/◌, ◌%◌, ◌^◌, ◌<◌, ◌≤◌}
use mathlib.Core.Path.{◌≡◌, refl, sym, ap, ◌∙◌}
use mathlib.Core.Bool.{Bool, true, false, cond, ◌&&◌, ◌||◌, true≢false}
use mathlib.Core.List.{List, [], ◌∷◌}
use native.Mathlib.Omega.{arith}
use native.Mathlib.Nat.{le_trans, mod-lt, mod-one}
use lib.Bits.{bit_and, bit_or, or_disjoint, and_shifted}
use lib.Dec.{eqb, leb}
use lib.ListN.{length}
use lib.Pow.{pow_pos, split}
use Rattle.record.specs.declared.layout.Row.{Row}
use Rattle.record.specs.Layout.{layout, tables, treadmill, cross_trainer, step_climber, stair_climber, rower, indoor_bike}
use Rattle.record.specs.Groups.{has, named, size, groups_of, listed, flags_octets, set_length}
use Rattle.record.specs.Record.{Formed, wire}
use Rattle.record.specs.Split.{fits, longest, run, cut, sets_of}
use Rattle.record.specs.Samples as Samples
use Rattle.record.proofs.Tests.{passed, failed, tested, eqb_eq, eqb_ne, leb_le, leb_lt, and_l, and_r, all_at}
use Rattle.record.proofs.Sets.{has_or, has_and, has_empty, mod_digit}
use Rattle.record.proofs.Rows.{size_named, size_next}
use Rattle.record.proofs.Tables.{flags_most, all_named}
use Rattle.record.proofs.Runs.{longest_le, longest_ge}
use Rattle.record.proofs.Parts.{groups_even}
use Rattle.record.proofs.Again.{facts}
use Rattle.record.proofs.SampleLaws.{trainer_formed}

-- ---- the groups' lengths, computed over all kinds

-- each group below bit n takes five octets at most
abbrev groups_short : ℕ → List Row → Bool
groups_short zero rows = true
groups_short (suc n) rows = leb (size (named (2 ^ n) rows)) 5 && groups_short n rows

group_short : (n : ℕ) (rows : List Row) → groups_short n rows ≡ true → (l : ℕ) → l < n → size (named (2 ^ l) rows) ≤ 5
group_short zero rows e l h = absurd (omega arith)
group_short (suc n) rows e l h = elim (tested (eqb l n)) [
  | passed i ↦ rw (eqb_eq l n i) (leb_le (size (named (2 ^ n) rows)) 5 (and_l (leb (size (named (2 ^ n) rows)) 5) (groups_short n rows) e))
  | failed i ↦
      let d : l ≡ n → ⊥ = eqb_ne l n i in
      group_short n rows (and_r (leb (size (named (2 ^ n) rows)) 5) (groups_short n rows) e) l (omega arith)
]

-- the main group takes four at most, and all rows together 38
abbrev whole_short : List Row → Bool
whole_short rows = leb (size (named 1 rows)) 4 && leb (size rows) 38

abbrev short : List Row → Bool
short rows = groups_short 15 rows && whole_short rows

layout_short : (kind : ℕ) → short (layout kind) ≡ true
unfolding layout tables treadmill cross_trainer step_climber stair_climber rower indoor_bike size named has
layout_short kind = all_at short tables [] refl refl kind

module _ (kind : ℕ) where
  group_most : (l : ℕ) → l < 15 → set_length kind (2 ^ l) ≤ 5
  group_most = group_short 15 (layout kind) (and_l (groups_short 15 (layout kind)) (whole_short (layout kind)) (layout_short kind))

  whole_most : whole_short (layout kind) ≡ true
  whole_most = and_r (groups_short 15 (layout kind)) (whole_short (layout kind)) (layout_short kind)

  main_most : set_length kind 1 ≤ 4
  main_most = leb_le (set_length kind 1) 4 (and_l (leb (set_length kind 1) 4) (leb (size (layout kind)) 38) whole_most)

  set_most : (set : ℕ) → set_length kind set ≤ 38
  set_most set =
      le_trans (size_named (layout kind) set)
      (leb_le (size (layout kind)) 38 (and_r (leb (set_length kind 1) 4) (leb (size (layout kind)) 38) whole_most))

-- ---- the octets of two sets with no group in common

-- one more row, which is in one of them at most
one_row : (r : Row) (a b c : List Row) (x y : Bool) → (x && y) ≡ false → size c ≡ size a + size b →
    size (cond (x || y) (r ∷ c) c) ≡ size (cond x (r ∷ a) a) + size (cond y (r ∷ b) b)
unfolding size
one_row r a b c true true d e = absurd (true≢false d)
one_row r a b c true false d e = omega arith
one_row r a b c false true d e = omega arith
one_row r a b c false false d e = e

either_size : (rows : List Row) (a b : ℕ) → bit_and a b ≡ 0 → size (named (bit_or a b) rows) ≡ size (named a rows) + size (named b rows)
unfolding size named
either_size [] a b e = refl
either_size (r ∷ rows) a b e =
    let d : (has a r.0 && has b r.0) ≡ false = sym (has_and a b r.0) ∙ ap (λ (s : ℕ). has s r.0) e ∙ has_empty r.0 in
    rw (has_or a b r.0)
    (one_row r (named a rows) (named b rows) (named (bit_or a b) rows) (has a r.0) (has b r.0) d (either_size rows a b e))

module _ (kind : ℕ) where
  -- groups from bit k on, and others below it
  length_both : (q k low : ℕ) → low < 2 ^ k → set_length kind (q * 2 ^ k + low) ≡ set_length kind (q * 2 ^ k) + set_length kind low
  length_both q k low h =
      let d : bit_and (q * 2 ^ k) low ≡ 0 = and_shifted q k low h in
      rw (← or_disjoint (q * 2 ^ k) low d) (either_size (layout kind) (q * 2 ^ k) low d)

  -- a set is its groups below a bit and those that are left
  length_split : (set k : ℕ) → set_length kind set ≡ set_length kind (set - set % 2 ^ k) + set_length kind (set % 2 ^ k)
  length_split set k =
      let e : set / 2 ^ k * 2 ^ k + set % 2 ^ k ≡ set = split set k in
      let h : set / 2 ^ k * 2 ^ k ≡ set - set % 2 ^ k = omega arith in
      rw (e, h) at (length_both (set / 2 ^ k) k (set % 2 ^ k) (mod-lt set (pow_pos k)))

  -- a set of optional groups, with the main group
  length_main : (set : ℕ) → set % 2 ≡ 0 → set_length kind (1 + set) ≡ set_length kind set + set_length kind 1
  length_main set h =
      let e : set / 2 * 2 ^ 1 ≡ set = omega arith in
      let f : set + 1 ≡ 1 + set = omega arith in
      rw (e, f) at (length_both (set / 2) 1 1 (omega arith))

-- ---- parts

-- what is left of optional groups after a run is again optional groups
left_even : (set k : ℕ) → set % 2 ≡ 0 → (set - set % 2 ^ k) % 2 ≡ 0
left_even set zero h = rw (mod-one set) (omega arith)
left_even set (suc k) h = omega (arith, mod_digit set k)

module _ (kind room : ℕ) where
  -- every part but the last is nearly full: what no longer fits is one group of five octets at most, or, if the run is all that is left, the main group
  nearly_full : (set : ℕ) → set % 2 ≡ 0 → room < set_length kind (1 + set) → room < set_length kind (run kind room set) + 5
  nearly_full set even over = elim (tested (leb 15 (longest kind set room 15))) [
    | passed t ↦
        let a : 15 ≤ longest kind set room 15 = leb_le 15 (longest kind set room 15) t in
        let b : longest kind set room 15 ≤ 15 = longest_le kind set room 15 in
        let e : longest kind set room 15 ≡ 15 = omega arith in
        let f : set_length kind (set % 2 ^ 15) ≡ set_length kind set = ap size (all_named kind set) in
        let m : set_length kind (1 + set) ≡ set_length kind set + set_length kind 1 = length_main kind set even in
        let o : set_length kind 1 ≤ 4 = main_most kind in rw e (omega arith)
    | failed t ↦
        let L : ℕ = longest kind set room 15 in
        let l : L < 15 = leb_lt 15 L t in
        let o : set_length kind (2 ^ L) ≤ 5 = group_most kind L l in
        elim (tested (fits kind (set % 2 ^ suc L) room)) [
          | passed f ↦
              let a : suc L ≤ L = longest_ge kind set room 15 (suc L) l (leb_le (set_length kind (set % 2 ^ suc L)) room f) in absurd (omega arith)
          | failed f ↦
              let a : room < set_length kind (set % 2 ^ suc L) = leb_lt (set_length kind (set % 2 ^ suc L)) room f in
              one_group (has set L) (set_length kind (set % 2 ^ suc L)) (set_length kind (set % 2 ^ L)) (set_length kind (2 ^ L)) a
              (size_next (layout kind) set L) o
        ]
  ]
    where
      one_group : (h : Bool) (next own group : ℕ) → room < next → next ≡ own + cond h group 0 → group ≤ 5 → room < own + 5
      one_group true next own group a e o = omega arith
      one_group false next own group a e o = omega arith

  -- so with room for seventeen octets, every part but the last takes thirteen of the set's
  parts_few : (n set : ℕ) → 17 ≤ room → set % 2 ≡ 0 → 13 * length (cut kind room set n) ≤ 13 + set_length kind set
  unfolding cut
  parts_few zero set least even = omega arith
  parts_few (suc n) set least even = elim (tested (fits kind (1 + set) room)) [
    | passed e ↦ rw e (omega arith)
    | failed e ↦
        let first : ℕ = run kind room set in
        let full : room < set_length kind first + 5 = nearly_full set even (leb_lt (set_length kind (1 + set)) room e) in
        let s : set_length kind set ≡ set_length kind (set - first) + set_length kind first = length_split kind set (longest kind set room 15) in
        let ih : 13 * length (cut kind room (set - first) n) ≤ 13 + set_length kind (set - first) =
        parts_few n (set - first) least (left_even set (longest kind set room 15) even) in
        rw e (omega arith)
  ]

-- all groups of a kind take 38 octets at most, and three parts but the last would take 39
pub three_parts : (kind groups direction : ℕ) (v : List ℕ) → Formed kind groups direction v → (payload : ℕ) → 20 ≤ payload →
    length (sets_of kind groups payload) ≤ 3
three_parts kind groups direction v w payload least =
    let f : flags_octets kind ≤ 3 = flags_most kind in
    let m : set_length kind groups ≤ 38 = set_most kind groups in
    let p : 13 * length (sets_of kind groups payload) ≤ 13 + set_length kind groups =
    parts_few kind (payload - flags_octets kind) 16 groups (omega arith) (groups_even kind groups direction v w) in omega arith

-- the cross trainer with all groups has three parts at payload 20
pub three_reached : length (sets_of 2 (listed 2) 20) ≡ 3
unfolding layout tables cross_trainer has named size groups_of listed longest cut
three_reached = refl

-- so no number below three bounds the parts of every well-formed record
pub three_least : (n : ℕ) →
    ((kind groups direction : ℕ) (v : List ℕ) → Formed kind groups direction v → (payload : ℕ) → 20 ≤ payload → length (sets_of kind groups payload) ≤ n) →
    3 ≤ n
unfolding layout tables cross_trainer has named groups_of listed
three_least n h =
    let f : Formed 2 (listed 2) 1 (wire Samples.cross_trainer) = facts Samples.cross_trainer trainer_formed 20 refl in
    let m : length (sets_of 2 (listed 2) 20) ≤ n = h 2 (listed 2) 1 (wire Samples.cross_trainer) f 20 (omega arith) in omega (arith, three_reached)

-- ---- the longest notification

-- a notification's octets, by `octets_length`, with any set of groups; a number that is no kind has no rows, so the kind need not be known
pub longest_record : (kind set : ℕ) → flags_octets kind + set_length kind set ≤ 41
longest_record kind set =
    let f : flags_octets kind ≤ 3 = flags_most kind in
    let m : set_length kind set ≤ 38 = set_most kind set in omega arith

-- the cross trainer's notification with all groups is as long
pub longest_reached : flags_octets 2 + set_length 2 (1 + listed 2) ≡ 41
unfolding layout tables cross_trainer has named size groups_of listed
longest_reached = refl
