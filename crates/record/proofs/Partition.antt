-- The sets into which `cut` cuts a record's groups satisfy `PartsOf`.
use Prim.Native.Nat.{ℕ, zero, suc, ◌+◌, ◌*◌, ◌-◌, ◌/◌, ◌%◌, ◌^◌, ◌<◌, ◌≤◌, suc-le-suc}
use mathlib.Core.Path.{◌≡◌, refl, sym, ap, ◌∙◌}
use mathlib.Core.Bool.{Bool, true, false, ◌||◌, true≢false}
use mathlib.Core.List.{List, [], ◌∷◌}
use native.Mathlib.Nat.{mod-lt, mul-mod_left, mul-pos}
use native.Mathlib.Omega.{arith}
use lib.Arith.{digits_lt}
use lib.Bits.{bit_or, or_shifted}
use lib.Dec.{eqb, leb, eqb-suc-suc}
use lib.ListN.{length, get_or}
use lib.Pow.{pow_pos, pow-add, pow_mono}
use Rattle.record.specs.Groups.{has, set_length, flags_octets, optional}
use Rattle.record.specs.Parts.{PartsOf}
use Rattle.record.specs.Record.{Formed}
use Rattle.record.specs.Split.{sets_of, cut}
use Rattle.record.proofs.Sets.{Sub, sub_trans, sub_same, sub_low, sub_high, has_or, has_zero, has_above, has_low, has_empty}
use Rattle.record.proofs.Tests.{passed, failed, tested, leb_le, leb_lt, eqb_true, eqb_false}
use Rattle.record.proofs.Tables.{flags_most}
use Rattle.record.proofs.Cuts.{Cuts, whole, more, cuts, low_part, high_part, both_parts, mod_multiple}
use Rattle.record.proofs.Parts.{with_main, sub_main, sub_suc, the_sound, groups_even, groups_low}

-- ---- bits of shifted sets

-- a set below 2 ^ k has bits below k only
bit_below : (a k x : ℕ) → a < 2 ^ k → has a x ≡ true → x < k
bit_below a k x h e = elim (tested (leb k x)) [
  | passed t ↦
      let l : 2 ^ k ≤ 2 ^ x = pow_mono (leb_le k x t) in
      let n : has a x ≡ false = has_above a x (omega arith) in absurd (true≢false (sym e ∙ n))
  | failed t ↦ leb_lt k x t
]

-- a set shifted up to bit b has bits from b on only
pub bit_above : (q b x : ℕ) → has (q * 2 ^ b) x ≡ true → b ≤ x
bit_above q b x e = elim (tested (leb b x)) [
  | passed t ↦ leb_le b x t
  | failed t ↦
      let z : q * 2 ^ b % 2 ^ b ≡ 0 = mul-mod_left q (2 ^ b) in
      let n : has (q * 2 ^ b) x ≡ false = sym (has_low (q * 2 ^ b) b x (leb_lt b x t)) ∙ ap (λ (a : ℕ). has a x) z ∙ has_empty x in
      absurd (true≢false (sym e ∙ n))
]

pub part_sub : (q d b : ℕ) → Sub (q % 2 ^ d * 2 ^ b) (q * 2 ^ b)
part_sub q d b = sub_trans (sub_same (sym (low_part q d b))) (sub_low (q * 2 ^ b) (d + b))

pub rest_sub : (q d b : ℕ) → Sub (q / 2 ^ d * 2 ^ (d + b)) (q * 2 ^ b)
rest_sub q d b = sub_trans (sub_same (ap (λ (x : ℕ). x * 2 ^ (d + b)) (sym (high_part q d b)))) (sub_high (q * 2 ^ b) (d + b))

part_below : (q d b : ℕ) → q % 2 ^ d * 2 ^ b < 2 ^ (d + b)
part_below q d b =
    rw (pow-add 2 d b) (let h : q % 2 ^ d * 2 ^ b + 0 < 2 ^ d * 2 ^ b = digits_lt (mod-lt q (pow_pos d)) (pow_pos b) in omega arith)

data Either (a b : Bool) : Type 0 where
  left : a ≡ true → Either a b
  right : b ≡ true → Either a b

either : (a b : Bool) → (a || b) ≡ true → Either a b
either true b e = left refl
either false b e = right e

-- a group of what is cut is in the part, or in what is left
in_part_or_rest : (q d b x : ℕ) → 1 ≤ b → has (1 + q * 2 ^ b) x ≡ true → Either (has (q % 2 ^ d * 2 ^ b) x) (has (1 + q / 2 ^ d * 2 ^ (d + b)) x)
in_part_or_rest q d b x l e =
    let hi : ℕ = q / 2 ^ d * 2 ^ (d + b) in
    let lo : ℕ = q % 2 ^ d * 2 ^ b in
    let z : q * 2 ^ b % 2 ≡ 0 = mod_multiple q b 1 l in
    let y : hi % 2 ≡ 0 = mod_multiple (q / 2 ^ d) (d + b) 1 (omega arith) in
    let s : bit_or hi lo ≡ q * 2 ^ b = or_shifted (q / 2 ^ d) (d + b) lo (part_below q d b) ∙ both_parts q d b in
    let f : has (bit_or (bit_or hi lo) 1) x ≡ true = ap (λ (a : ℕ). has a x) (ap (λ (a : ℕ). bit_or a 1) s ∙ with_main (q * 2 ^ b) z) ∙ e in
    let g : ((has hi x || has lo x) || has 1 x) ≡ true = sym (has_or (bit_or hi lo) 1 x ∙ ap (λ (t : Bool). t || has 1 x) (has_or hi lo x)) ∙ f in
    let h : has (1 + hi) x ≡ (has hi x || has 1 x) = ap (λ (a : ℕ). has a x) (sym (with_main hi y)) ∙ has_or hi 1 x in
    sorted (has hi x) (has lo x) (has 1 x) (has (1 + hi) x) h g
  where
    sorted : (hi lo one both : Bool) → both ≡ (hi || one) → ((hi || lo) || one) ≡ true → Either lo both
    sorted true lo one both e g = right e
    sorted false true one both e g = left refl
    sorted false false one both e g = right (e ∙ g)

-- ---- the sets of a cut, from a bit on

record From (kind room b q : ℕ) (sets : List ℕ) : Type 0 where
  some : 0 < length sets
  main : (i : ℕ) → i < length sets → has (get_or sets i 0) 0 ≡ eqb (suc i) (length sets)
  filled : (i : ℕ) → suc i < length sets → 0 < get_or sets i 0
  ascending : (i j x y : ℕ) → i < j → j < length sets → has (get_or sets i 0) x ≡ true → has (optional (get_or sets j 0)) y ≡ true → x < y
  from : (j y : ℕ) → has (optional (get_or sets j 0)) y ≡ true → b ≤ y
  within : (i x : ℕ) → has (get_or sets i 0) x ≡ true → has (1 + q * 2 ^ b) x ≡ true
  together : (x : ℕ) → has (1 + q * 2 ^ b) x ≡ true → (i : ℕ) × (i < length sets) × (has (get_or sets i 0) x ≡ true)
  fit : (i : ℕ) → i < length sets → set_length kind (get_or sets i 0) ≤ room

nowhere : {A : Type 0} (x : ℕ) → has 0 x ≡ true → A
nowhere x e = absurd (true≢false (sym e ∙ has_empty x))

-- a single set: the last part
module _ (kind room b q : ℕ) (l : 1 ≤ b) (f : set_length kind (1 + q * 2 ^ b) ≤ room) where
  abbrev one : List ℕ
  one = (1 + q * 2 ^ b) ∷ []

  whole_even : q * 2 ^ b % 2 ≡ 0
  whole_even = mod_multiple q b 1 l

  whole_main : (i : ℕ) → i < 1 → has (get_or one i 0) 0 ≡ eqb (suc i) 1
  whole_main zero h = let z : q * 2 ^ b % 2 ≡ 0 = whole_even in let o : (1 + q * 2 ^ b) % 2 ≡ 1 = omega arith in has_zero (1 + q * 2 ^ b) ∙ eqb_true o
  whole_main (suc i) h = absurd (omega arith)

  whole_from : (j y : ℕ) → has (optional (get_or one j 0)) y ≡ true → b ≤ y
  whole_from zero y e =
      let z : q * 2 ^ b % 2 ≡ 0 = whole_even in
      let o : q * 2 ^ b ≡ optional (1 + q * 2 ^ b) = omega arith in bit_above q b y (ap (λ (a : ℕ). has a y) o ∙ e)
  whole_from (suc j) y e = nowhere y e

  whole_within : (i x : ℕ) → has (get_or one i 0) x ≡ true → has (1 + q * 2 ^ b) x ≡ true
  whole_within zero x e = e
  whole_within (suc i) x e = nowhere x e

  whole_fit : (i : ℕ) → i < 1 → set_length kind (get_or one i 0) ≤ room
  whole_fit zero h = f
  whole_fit (suc i) h = absurd (omega arith)

  from_whole : From kind room b q one
  from_whole = record {
    some = omega arith;
    main = whole_main;
    filled = λ i h. absurd (omega arith);
    ascending = λ i j x y h k. absurd (omega arith);
    from = whole_from;
    within = whole_within;
    together = λ x e. (0, omega arith, e);
    fit = whole_fit;
  }

-- a run, and more sets after it
module _ (kind room b q d : ℕ) (rest : List ℕ) (l : 1 ≤ b) (p : 0 < q % 2 ^ d) (f : set_length kind (q % 2 ^ d * 2 ^ b) ≤ room)
    (ih : From kind room (d + b) (q / 2 ^ d) rest) where
  abbrev run : ℕ
  run = q % 2 ^ d * 2 ^ b

  run_even : run % 2 ≡ 0
  run_even = mod_multiple (q % 2 ^ d) b 1 l

  run_some : 0 < run
  run_some = mul-pos p (pow_pos b)

  more_main : (i : ℕ) → i < suc (length rest) → has (get_or (run ∷ rest) i 0) 0 ≡ eqb (suc i) (suc (length rest))
  more_main zero h =
      let z : run % 2 ≡ 0 = run_even in
      let n : run % 2 ≡ 1 → ⊥ = λ e. omega arith in
      let s : 0 < length rest = ih.some in
      let m : 1 ≡ suc (length rest) → ⊥ = λ e. omega arith in
      has_zero run ∙ eqb_false n ∙ sym (eqb_false m)
  more_main (suc i) h = ih.main i (omega arith) ∙ sym (eqb-suc-suc (suc i) (length rest))

  more_filled : (i : ℕ) → suc i < suc (length rest) → 0 < get_or (run ∷ rest) i 0
  more_filled zero h = run_some
  more_filled (suc i) h = ih.filled i (omega arith)

  more_ascending : (i j x y : ℕ) → i < j → j < suc (length rest) → has (get_or (run ∷ rest) i 0) x ≡ true → has (optional (get_or (run ∷ rest) j 0)) y ≡ true → x < y
  more_ascending i zero x y h k e g = absurd (omega arith)
  more_ascending zero (suc j) x y h k e g =
      let a : x < d + b = bit_below run (d + b) x (part_below q d b) e in
      let c : d + b ≤ y = ih.from j y g in omega arith
  more_ascending (suc i) (suc j) x y h k e g = ih.ascending i j x y (omega arith) (omega arith) e g

  more_from : (j y : ℕ) → has (optional (get_or (run ∷ rest) j 0)) y ≡ true → b ≤ y
  more_from zero y e =
      let z : run % 2 ≡ 0 = run_even in
      let o : run ≡ optional run = omega arith in bit_above (q % 2 ^ d) b y (ap (λ (a : ℕ). has a y) o ∙ e)
  more_from (suc j) y e = let h : d + b ≤ y = ih.from j y e in omega arith

  more_within : (i x : ℕ) → has (get_or (run ∷ rest) i 0) x ≡ true → has (1 + q * 2 ^ b) x ≡ true
  more_within zero x e = (sub_trans (part_sub q d b) (sub_suc (q * 2 ^ b) (mod_multiple q b 1 l))).member x e
  more_within (suc i) x e =
      (sub_main (q / 2 ^ d * 2 ^ (d + b)) (q * 2 ^ b) (mod_multiple (q / 2 ^ d) (d + b) 1 (omega arith)) (mod_multiple q b 1 l) (rest_sub q d b)).member x
      (ih.within i x e)

  more_together : (x : ℕ) → has (1 + q * 2 ^ b) x ≡ true → (i : ℕ) × (i < suc (length rest)) × (has (get_or (run ∷ rest) i 0) x ≡ true)
  more_together x e = elim (in_part_or_rest q d b x l e) [
    | left h ↦ (0, omega arith, h)
    | right h ↦
        let t : (i : ℕ) × (i < length rest) × (has (get_or rest i 0) x ≡ true) = ih.together x h in
        (suc t.0, suc-le-suc t.1, t.2)
  ]

  more_fit : (i : ℕ) → i < suc (length rest) → set_length kind (get_or (run ∷ rest) i 0) ≤ room
  more_fit zero h = f
  more_fit (suc i) h = ih.fit i (omega arith)

  from_more : From kind room b q (run ∷ rest)
  from_more = record {
    some = omega arith;
    main = more_main;
    filled = more_filled;
    ascending = more_ascending;
    from = more_from;
    within = more_within;
    together = more_together;
    fit = more_fit;
  }

from_cuts : {kind room b q : ℕ} {sets : List ℕ} → 1 ≤ b → Cuts kind room b q sets → From kind room b q sets
from_cuts {kind} {room} l (whole {b} {q} f) = from_whole kind room b q l f
from_cuts {kind} {room} l (more {b} {q} {ss} d p f rest) = from_more kind room b q d ss l p f (from_cuts (omega arith) rest)

-- the sets of a well-formed record's parts satisfy `PartsOf`
pub parts_of : (kind groups direction : ℕ) (v : List ℕ) → Formed kind groups direction v → (payload : ℕ) → 20 ≤ payload →
    PartsOf kind groups payload (sets_of kind groups payload)
parts_of kind groups direction v w payload least =
    let m : flags_octets kind ≤ 3 = flags_most kind in
    let z : groups % 2 ≡ 0 = groups_even kind groups direction v w in
    let h : groups < 2 ^ 15 = groups_low kind groups direction v w in
    let e : groups / 2 * 2 ^ 1 ≡ groups = omega arith in
    let room : ℕ = payload - flags_octets kind in
    let c : Cuts kind room 1 (groups / 2) (cut kind room (groups / 2 * 2 ^ 1) 16) =
    cuts kind room (the_sound kind groups direction v w) (omega arith) 16 1 (groups / 2) (omega arith) (omega arith) (omega arith) in
    let t : From kind room 1 (groups / 2) (sets_of kind groups payload) = from_cuts (omega arith) (rw e at c) in
    let s : (x : ℕ) → has (1 + groups / 2 * 2 ^ 1) x ≡ has (1 + groups) x = λ x. ap (λ (g : ℕ). has (1 + g) x) e in
    record {
      some = t.some;
      main = t.main;
      filled = t.filled;
      ascending = t.ascending;
      within = λ i x g. sym (s x) ∙ t.within i x g;
      together = λ x g. t.together x (s x ∙ g);
      fit = λ i k. let f : set_length kind (get_or (sets_of kind groups payload) i 0) ≤ room = t.fit i k in omega arith;
    }
