-- A collection that holds part of a record, and its next part.
use Prim.Native.Nat.{ℕ, ◌+◌, ◌*◌, ◌-◌, ◌/◌, ◌%◌, ◌^◌, ◌<◌, ◌≤◌, max}
use mathlib.Core.Path.{◌≡◌, refl, sym, ap, ◌∙◌, subst}
use mathlib.Core.Bool.{true, false, cond}
use mathlib.Core.List.{List}
use native.Mathlib.Omega.{arith}
use native.Mathlib.Nat.{mod-lt, le_trans}
use lib.Dec.{eqb}
use lib.Bits.{bit_or, or_step, or_shifted_r}
use lib.Pow.{pow_pos, pow-add, pow_mono}
use lib.Arith.{digits_lt}
use Rattle.record.specs.Layout.{layout}
use Rattle.record.specs.Groups.{flags_octets, set_length, optional}
use Rattle.record.specs.Record.{of_wire, kept}
use Rattle.record.specs.Split.{cut, sets_of}
use Rattle.service.specs.declared.collector.Told.{Told}
use Rattle.service.specs.declared.collector.Told.TheVariants.{Fixed}
use Rattle.service.specs.Collector.{waiting, handed, zeros, refuses, incomplete, collect}
use Rattle.record.proofs.Sets.{Sub, sub_trans, sub_high}
use Rattle.record.proofs.Tests.{eqb_true, eqb_false}
use Rattle.record.proofs.Rows.{named_empty}
use Rattle.record.proofs.Tables.{flags_most}
use Rattle.record.proofs.Kept.{kept_or}
use Rattle.record.proofs.Cuts.{Cuts, cuts, both_parts, mod_multiple}
use Rattle.record.proofs.Parts.{sub_main, sub_suc, sub_le, the_sound, groups_even, groups_low}
use Rattle.record.proofs.Partition.{part_sub, rest_sub}
use Rattle.demands.proofs.Dropping.{keeps, falls, Ready, ready_fixed, inside, complete}
use Rattle.demands.proofs.Taken.{Sent, part, with_numbers, holding, goes, renews, ends}

-- ---- a record's groups

pub even_groups : (r : Sent) → r.groups % 2 ≡ 0
even_groups r = groups_even r.kind r.groups r.direction r.numbers r.formed

low_groups : (r : Sent) → r.groups < 2 ^ 15
low_groups r = groups_low r.kind r.groups r.direction r.numbers r.formed

-- the sets of a record's parts
abbrev pub sets : ℕ → Sent → List ℕ
sets payload r = sets_of r.kind r.groups payload

pub record_cuts : (r : Sent) (payload : ℕ) → 20 ≤ payload → Cuts r.kind (payload - flags_octets r.kind) 1 (r.groups / 2) (sets payload r)
record_cuts r payload low =
    let room : ℕ = payload - flags_octets r.kind in
    let h : r.groups % 2 ≡ 0 = even_groups r in
    let k : r.groups < 2 ^ 15 = low_groups r in
    let m : flags_octets r.kind ≤ 3 = flags_most r.kind in
    let e : r.groups / 2 * 2 ^ 1 ≡ r.groups = omega arith in
    subst (λ (x : ℕ). Cuts r.kind room 1 (r.groups / 2) (cut r.kind room x 16)) e
    (cuts r.kind room (the_sound r.kind r.groups r.direction r.numbers r.formed) (omega arith) 16 1 (r.groups / 2) (omega arith) (omega arith)
    (omega arith))

-- ---- what is held, when the groups still to come are q * 2 ^ b

pub record Held (r : Sent) (b q h : ℕ) (z : List ℕ) : Type 0 where
  pub least : 1 ≤ b
  pub below : h < 2 ^ b
  pub even : h % 2 ≡ 0
  pub left : Sub (q * 2 ^ b) r.groups
  pub numbers_held : z ≡ with_numbers r h zeros

-- before the first part
pub held_none : (r : Sent) → Held r 1 (r.groups / 2) 0 zeros
unfolding kept
held_none r = record {
  least = omega arith;
  below = omega arith;
  even = refl;
  left = sub_high r.groups 1;
  numbers_held = rw (named_empty (layout r.kind));
}

pub whole_first : (r : Sent) → bit_or 0 (r.groups / 2 * 2 ^ 1) ≡ r.groups
whole_first r = let h : r.groups % 2 ≡ 0 = even_groups r in omega arith

next_even : (q d b : ℕ) → 1 ≤ b → q % 2 ^ d * 2 ^ b % 2 ≡ 0
next_even q d b l = mod_multiple (q % 2 ^ d) b 1 l

module _ (r : Sent) (b q h : ℕ) (z : List ℕ) (c : Held r b q h z) (d : ℕ) where
  -- a part joins what is held
  pub held_next : Held r (d + b) (q / 2 ^ d) (bit_or h (q % 2 ^ d * 2 ^ b)) (with_numbers r (q % 2 ^ d * 2 ^ b) z)
  held_next =
      let s : ℕ = q % 2 ^ d * 2 ^ b in
      let e : bit_or h s ≡ s + h = or_shifted_r (q % 2 ^ d) b h c.below in
      let i : s % 2 ≡ 0 = next_even q d b c.least in
      let j : h % 2 ≡ 0 = c.even in
      let l : s + h < 2 ^ d * 2 ^ b = digits_lt (mod-lt q (pow_pos d)) c.below in
      let k : 1 ≤ b = c.least in
      record {
        least = omega arith;
        below = rw (e, pow-add 2 d b) l;
        even = rw e (omega arith);
        left = sub_trans (rest_sub q d b) c.left;
        numbers_held = ap (with_numbers r s) c.numbers_held ∙ sym (kept_or h s (layout r.kind) r.numbers zeros);
      }

  -- what is held and to come are still all groups of the record
  pub whole_next : bit_or h (q * 2 ^ b) ≡ r.groups → bit_or (bit_or h (q % 2 ^ d * 2 ^ b)) (q / 2 ^ d * 2 ^ (d + b)) ≡ r.groups
  whole_next e =
      let s : ℕ = q % 2 ^ d * 2 ^ b in
      let i : bit_or h (q * 2 ^ b) ≡ q * 2 ^ b + h = or_shifted_r q b h c.below in
      let j : bit_or h s ≡ s + h = or_shifted_r (q % 2 ^ d) b h c.below in
      let k : bit_or (bit_or h s) (q / 2 ^ d * 2 ^ (d + b)) ≡ q / 2 ^ d * 2 ^ (d + b) + bit_or h s =
      or_shifted_r (q / 2 ^ d) (d + b) (bit_or h s) held_next.below in
      let l : q / 2 ^ d * 2 ^ (d + b) + s ≡ q * 2 ^ b = both_parts q d b in
      omega arith

  -- a part is lost
  pub held_lost : Held r (d + b) (q / 2 ^ d) h z
  held_lost =
      let k : 1 ≤ b = c.least in
      record {
        least = omega arith;
        below = le_trans c.below (pow_mono (omega arith));
        even = c.even;
        left = sub_trans (rest_sub q d b) c.left;
        numbers_held = c.numbers_held;
      }

-- the main group together with others
or_main : (h g : ℕ) → h % 2 ≡ 0 → g % 2 ≡ 0 → bit_or h (1 + g) ≡ 1 + bit_or h g
or_main h g i j =
    let a : bit_or h (1 + g) ≡ bit_or (h / 2) ((1 + g) / 2) * 2 + max (h % 2) ((1 + g) % 2) = or_step h (1 + g) in
    let b : bit_or h g ≡ bit_or (h / 2) (g / 2) * 2 + max (h % 2) (g % 2) = or_step h g in
    let e : (1 + g) / 2 ≡ g / 2 = omega arith in
    let f : bit_or (h / 2) ((1 + g) / 2) ≡ bit_or (h / 2) (g / 2) = rw e in
    omega arith

-- ---- one part arrives

module _ (r : Sent) (payload : ℕ) (low : 20 ≤ payload) (high : payload ≤ 512) where
  module _ (b q d : ℕ) (l : 1 ≤ b) (u : Sub (q * 2 ^ b) r.groups) (fit : set_length r.kind (q % 2 ^ d * 2 ^ b) ≤ payload - flags_octets r.kind) where
    abbrev s : ℕ
    s = q % 2 ^ d * 2 ^ b

    even_part : s % 2 ≡ 0
    even_part = next_even q d b l

    same_part : optional s ≡ s
    same_part = let e : s % 2 ≡ 0 = even_part in omega arith

    not_last : eqb (s % 2) 1 ≡ false
    not_last = let e : s % 2 ≡ 0 = even_part in eqb_false (λ (x : s % 2 ≡ 1). omega arith)

    sub_part : Sub s r.groups
    sub_part = sub_trans (part_sub q d b) u

    sub_part_main : Sub s (1 + r.groups)
    sub_part_main = sub_trans sub_part (sub_suc r.groups (even_groups r))

    -- the next part of the record that is held
    pub goes_on : (t : Told) → Ready r.groups t → (h : ℕ) (z : List ℕ) → h < 2 ^ b →
        collect (holding r.kind t h z) (part r (q % 2 ^ d * 2 ^ b)) ≡
        record { said = waiting false; next = holding r.kind t (bit_or h (q % 2 ^ d * 2 ^ b)) (with_numbers r (q % 2 ^ d * 2 ^ b) z) }
    goes_on t ready h z below =
        let m : s ≤ r.groups = sub_le s r.groups sub_part in
        let n : r.groups < 2 ^ 15 = low_groups r in
        goes r s sub_part_main payload low high fit t h s z same_part (inside s ready sub_part) not_last (keeps t h (q % 2 ^ d) b below (omega arith))

    -- a part that is not above what is held of an earlier record
    pub starts : (h : ℕ) (z : List ℕ) → 0 < q % 2 ^ d * 2 ^ b → q % 2 ^ d * 2 ^ b ≤ h →
        collect (holding r.kind (Fixed r.groups) h z) (part r (q % 2 ^ d * 2 ^ b)) ≡
        record { said = waiting true; next = holding r.kind (Fixed r.groups) (q % 2 ^ d * 2 ^ b) (with_numbers r (q % 2 ^ d * 2 ^ b) zeros) }
    starts h z some under =
        renews r s sub_part_main payload low high fit (Fixed r.groups) h s z same_part (inside s ready_fixed sub_part) not_last (falls r.groups h s some under)

  module _ (b q h : ℕ) (z : List ℕ) (c : Held r b q h z) (fit : set_length r.kind (1 + q * 2 ^ b) ≤ payload - flags_octets r.kind) where
    abbrev g : ℕ
    g = q * 2 ^ b

    last_even : g % 2 ≡ 0
    last_even = mod_multiple q b 1 c.least

    last_part : (t : Told) → Ready r.groups t →
        collect (holding r.kind t h z) (part r (1 + g)) ≡
        cond (incomplete t (bit_or h g)) (refuses (holding r.kind t h z) 34)
        (record { said = handed (of_wire r.kind (bit_or h g) r.direction (with_numbers r (1 + g) z)) false; next = holding r.kind t 0 zeros })
    last_part t ready =
        let e : g % 2 ≡ 0 = last_even in
        let odd : (1 + g) % 2 ≡ 1 = omega arith in
        let same : optional (1 + g) ≡ g = omega arith in
        let m : g ≤ r.groups = sub_le g r.groups c.left in
        let n : r.groups < 2 ^ 15 = low_groups r in
        ends r (1 + g) (sub_main g r.groups last_even (even_groups r) c.left) payload low high fit t h g z same
        (inside g ready c.left) (eqb_true odd) (keeps t h q b c.below (omega arith))

    whole_numbers : bit_or h g ≡ r.groups → with_numbers r (1 + g) z ≡ r.numbers
    whole_numbers e =
        ap (with_numbers r (1 + g)) c.numbers_held
        ∙ sym (kept_or h (1 + g) (layout r.kind) r.numbers zeros)
        ∙ ap (λ (x : ℕ). with_numbers r x zeros) (or_main h g c.even last_even ∙ ap (λ (x : ℕ). 1 + x) e)
        ∙ r.formed.absent

    -- with the last part the groups are complete, or they are not
    pub hands : (t : Told) → Ready r.groups t → bit_or h (q * 2 ^ b) ≡ r.groups →
        collect (holding r.kind t h z) (part r (1 + q * 2 ^ b)) ≡ record { said = handed r.whole false; next = holding r.kind t 0 zeros }
    hands t ready e =
        let same : of_wire r.kind (bit_or h g) r.direction (with_numbers r (1 + g) z) ≡ r.whole =
        ap (λ (x : ℕ). of_wire r.kind x r.direction (with_numbers r (1 + g) z)) e
        ∙ ap (of_wire r.kind r.groups r.direction) (whole_numbers e) ∙ r.again in
        let i : incomplete t (bit_or h g) ≡ false = rw e (complete ready) in
        last_part t ready ∙ rw (i, same)

    pub lacks : (bit_or h (q * 2 ^ b) ≡ r.groups → ⊥) →
        collect (holding r.kind (Fixed r.groups) h z) (part r (1 + q * 2 ^ b)) ≡ refuses (holding r.kind (Fixed r.groups) h z) 34
    lacks n = last_part (Fixed r.groups) ready_fixed ∙ rw (eqb_false n)
