-- A part of a well-formed record, read back.
use Prim.Native.Nat.{ℕ, zero, suc, ◌+◌, ◌*◌, ◌-◌, ◌/◌, ◌%◌, ◌^◌, ◌<◌, ◌≤◌, min}
use mathlib.Core.Path.{◌≡◌, refl, sym, ap, ap₂, ◌∙◌}
use mathlib.Core.Bool.{true}
use mathlib.Core.List.{List, [], append-nil}
use native.Mathlib.Omega.{arith}
use native.Mathlib.Nat.{zero-lt-suc, pow-le-pow_right, add_comm, add-mul-mod_self_left}
use lib.Dec.{eqb, leb}
use lib.Bits.{bit_and, bit_or, and_le_r, and_block, and_zero_r, or_shifted}
use lib.Pow.{high}
use lib.ListN.{length, drop, length-append}
use lib.Seq.{drop_at}
use borrow.Author.Tests.{le-leb, lt-leb, lt-ltb, le-ltb}
use Rattle.record.specs.Layout.{layout}
use Rattle.record.specs.Groups.{named, groups_of, known, listed, flags_octets, set_length, optional, turned}
use Rattle.record.specs.Octets.{spelled}
use Rattle.record.specs.declared.split.Extent.{Extent}
use Rattle.record.specs.Answer.{Answer, refused, given}
use Rattle.record.specs.Record.{Formed, kept}
use Rattle.record.specs.Notification.{flags_of, names, heading, part_of, read_into, values, joined}
use Rattle.record.specs.Split.{written, flags, octets, sets_of, set_at, extent_of}
use Rattle.record.proofs.OctetLaws.{length_spelled, number_spelled}
use Rattle.record.proofs.Sets.{Sub, sub_of_and, sub_or, sub_or_l, sub_or_r, sub_same, sub_trans, and_of_sub, lowest_and, digit_lt}
use Rattle.record.proofs.Tests.{passed, failed, tested, eqb_eq, eqb_ne}
use Rattle.record.proofs.Tables.{Sound, sound, flags_least, listed_below}
use Rattle.record.proofs.Writing.{length_written}
use Rattle.record.proofs.Kept.{read_written, fit_sub}

-- adding the main group to a set
pub with_main : (g : ℕ) → g % 2 ≡ 0 → bit_or g 1 ≡ 1 + g
with_main g h =
    let e : g ≡ g / 2 * 2 = omega arith in
    ap (λ (x : ℕ). bit_or x 1) e ∙ or_shifted (g / 2) 1 1 (omega arith) ∙ omega arith

pub sub_main : (a b : ℕ) → a % 2 ≡ 0 → b % 2 ≡ 0 → Sub a b → Sub (1 + a) (1 + b)
sub_main a b h k s =
    sub_trans (sub_same (sym (with_main a h)))
    (sub_or (sub_trans s (sub_trans (sub_or_l b 1) (sub_same (with_main b k)))) (sub_trans (sub_or_r b 1) (sub_same (with_main b k))))

pub sub_suc : (a : ℕ) → a % 2 ≡ 0 → Sub a (1 + a)
sub_suc a h = sub_trans (sub_or_l a 1) (sub_same (with_main a h))

pub sub_le : (a b : ℕ) → Sub a b → a ≤ b
sub_le a b s = rw (← and_of_sub a b s) (and_le_r a b)

pub listed_even : (kind : ℕ) → listed kind % 2 ≡ 0
unfolding listed
listed_even kind = let a : ℕ = groups_of (layout kind) in omega arith

-- a set of listed groups
module _ (kind groups : ℕ) (l : bit_and groups (listed kind) ≡ groups) where
  pub listed_groups_even : groups % 2 ≡ 0
  listed_groups_even =
      let m : listed kind % 2 ≡ 0 = listed_even kind in
      let e : bit_and groups (listed kind) % 2 ≡ min (groups % 2) (listed kind % 2) = lowest_and groups (listed kind) in
      omega arith

  pub listed_groups_low : groups < 2 ^ 15
  listed_groups_low =
      let h : groups ≤ listed kind = sub_le groups (listed kind) (sub_of_and groups (listed kind) l) in
      let b : listed kind < 2 ^ 15 = listed_below kind in omega arith

-- the length of a part
pub octets_length : (kind s direction : ℕ) (v : List ℕ) → length (octets kind s direction v) ≡ flags_octets kind + set_length kind s
octets_length kind s direction v =
    length-append (spelled (flags_octets kind) (flags s direction)) (written (named s (layout kind)) v)
    ∙ ap₂ ◌+◌ (length_spelled (flags_octets kind) (flags s direction)) (length_written (named s (layout kind)) v)

-- the two tests of a part: is there such a part, and is the lent buffer long enough
module _ (kind groups direction : ℕ) (v : List ℕ) (payload i lent : ℕ) where
  abbrev extent : Answer Extent
  extent = extent_of kind groups direction v payload i lent

  abbrev octets_needed : ℕ
  octets_needed = flags_octets kind + set_length kind (set_at kind groups payload i)

  pub no_part : length (sets_of kind groups payload) ≤ i → extent ≡ refused 15
  unfolding extent_of
  no_part h = rw (le-ltb i (length (sets_of kind groups payload)) h)

  module _ (h : i < length (sets_of kind groups payload)) where
    pub too_short : lent < octets_needed → extent ≡ refused 14
    unfolding extent_of
    too_short l = rw (octets_length kind (set_at kind groups payload i) direction v, lt-ltb i (length (sets_of kind groups payload)) h, lt-leb octets_needed lent l)

    pub whole_part : octets_needed ≤ lent → extent ≡ given (record { length = octets_needed; parts = length (sets_of kind groups payload) })
    unfolding extent_of
    whole_part l = rw (octets_length kind (set_at kind groups payload i) direction v, lt-ltb i (length (sets_of kind groups payload)) h, le-leb octets_needed lent l)

turned_parity : (s : ℕ) → turned s % 2 ≡ 1 - s % 2
turned_parity s = elim (tested (eqb (s % 2) 0)) [
  | passed e ↦ let p : s % 2 ≡ 0 = eqb_eq (s % 2) 0 e in omega arith
  | failed e ↦ let p : s % 2 ≡ 0 → ⊥ = eqb_ne (s % 2) 0 e in omega arith
]

flags_parity : (s d : ℕ) → flags s d % 2 ≡ 1 - s % 2
flags_parity s d =
    ap (λ (x : ℕ). x % 2) (let h : turned s + d * 2 ^ 15 ≡ turned s + 2 * (d * 2 ^ 14) = omega arith in h)
    ∙ add-mul-mod_self_left (turned s) 2 (d * 2 ^ 14) ∙ turned_parity s

-- More Data is 0 exactly in a part with the main group
flags_last : (s d : ℕ) → eqb (flags s d % 2) 0 ≡ eqb (s % 2) 1
flags_last s d = rw (flags_parity s d) (digit (s % 2) (digit_lt s))
  where
    digit : (x : ℕ) → x < 2 → eqb (1 - x) 0 ≡ eqb x 1
    digit zero h = refl
    digit (suc zero) h = refl
    digit (suc (suc x)) h = absurd (omega arith)

module _ (kind groups direction : ℕ) (v : List ℕ) (w : Formed kind groups direction v) where
  pub the_sound : Sound kind
  the_sound = sound kind w.kind_least w.kind_greatest

  pub groups_even : groups % 2 ≡ 0
  groups_even = listed_groups_even kind groups w.listed_only

  sub_listed : Sub groups (listed kind)
  sub_listed = sub_of_and groups (listed kind) w.listed_only

  pub groups_low : groups < 2 ^ 15
  groups_low = listed_groups_low kind groups w.listed_only

  sub_all : Sub (1 + groups) (1 + listed kind)
  sub_all = sub_main groups (listed kind) groups_even (listed_even kind) sub_listed

  -- a part, by its set of groups
  module _ (s : ℕ) (sub : Sub s (1 + groups)) where
    pub set_below : s < 2 ^ 15
    set_below =
        let h : s ≤ 1 + groups = sub_le s (1 + groups) sub in
        let b : groups < 2 ^ 15 = groups_low in
        let e : groups % 2 ≡ 0 = groups_even in omega arith

    flags_below : flags s direction < 256 ^ flags_octets kind
    flags_below =
        let b : s < 2 ^ 15 = set_below in
        let d : direction < 2 = w.way in
        let p : 256 ^ 2 ≤ 256 ^ flags_octets kind = pow-le-pow_right {n = 256} (zero-lt-suc 255) (flags_least kind) in
        omega arith

    flags_named : names kind (flags s direction) ≡ s
    flags_named =
        let b : s < 2 ^ 15 = set_below in
        let p : flags s direction % 2 ≡ 1 - s % 2 = flags_parity s direction in
        let e : turned (flags s direction) ≡ direction * 2 ^ 15 + s = omega arith in
        let a : ℕ = 1 + listed kind in
        let l : listed kind < 2 ^ 15 = listed_below kind in
        let m : listed kind % 2 ≡ 0 = listed_even kind in
        let n : a < 2 ^ 15 = omega arith in
        ap (λ (x : ℕ). bit_and x a) e ∙ ap (λ (x : ℕ). bit_and (direction * 2 ^ 15 + s) x) (omega arith)
        ∙ and_block 15 direction 0 s a b n ∙ rw (and_zero_r direction, and_of_sub s a (sub_trans sub sub_all)) (omega arith)

    flags_heading : heading kind (flags s direction) ≡ direction
    flags_heading = elim (tested (eqb kind 2)) [
      | passed e ↦
          let b : s < 2 ^ 15 = set_below in
          let d : direction < 2 = w.way in
          let t : turned s < 2 ^ 15 = omega arith in
          let q : flags s direction / 2 ^ 15 ≡ direction =
          ap (λ (x : ℕ). x / 2 ^ 15) (add_comm (turned s) (direction * 2 ^ 15)) ∙ high direction 15 t in
          rw (e, q) (omega arith)
      | failed e ↦ rw e (sym (w.ways (eqb_ne kind 2 e)))
    ]

    flags_again : flags_of kind (octets kind s direction v) ≡ flags s direction
    flags_again = number_spelled (flags_octets kind) (flags s direction) (written (named s (layout kind)) v) flags_below

    body_again : drop (flags_octets kind) (octets kind s direction v) ≡ written (named s (layout kind)) v
    body_again =
        drop_at (spelled (flags_octets kind) (flags s direction)) (written (named s (layout kind)) v) (flags_octets kind)
        (length_spelled (flags_octets kind) (flags s direction))

    -- what its flags say: its groups, whether it is the last, its direction
    pub part_again : flags_octets kind + set_length kind s ≤ 512 →
        part_of kind (octets kind s direction v) ≡ given (record { groups = optional s; last = eqb (s % 2) 1; direction = direction })
    unfolding part_of
    part_again fit =
        let e : length (octets kind s direction v) ≡ flags_octets kind + set_length kind s = octets_length kind s direction v in
        let k : known kind ≡ true = rw (le-leb 1 kind w.kind_least, le-leb kind 6 w.kind_greatest) in
        let a : leb (length (octets kind s direction v)) 512 ≡ true = le-leb (length (octets kind s direction v)) 512 (rw e fit) in
        let b : leb (flags_octets kind) (length (octets kind s direction v)) ≡ true = le-leb (flags_octets kind) (length (octets kind s direction v)) (omega arith) in
        let c : leb (flags_octets kind + set_length kind s) (length (octets kind s direction v)) ≡ true =
        le-leb (flags_octets kind + set_length kind s) (length (octets kind s direction v)) (omega arith) in
        rw (k, a, b, flags_again, flags_named, c, flags_last s direction, flags_heading)

    -- its numbers, joined to numbers already held
    pub values_again : (z : List ℕ) → joined kind (octets kind s direction v) z ≡ kept (named s (layout kind)) v z
    unfolding values
    values_again z =
        rw (flags_again, flags_named, body_again)
        (ap (λ (l : List ℕ). read_into (named s (layout kind)) l z) (sym (append-nil (written (named s (layout kind)) v)))
        ∙ read_written (named s (layout kind)) v [] z (fit_sub s (1 + groups) (layout kind) v sub w.fit))
