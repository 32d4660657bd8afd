-- Whatever octets a collector has received, it hands out a well-formed record: no value of an earlier record is left in it.
use Prim.Native.Nat.{ℕ, ◌%◌, ◌<◌}
use mathlib.Core.Path.{◌≡◌, refl, sym, ap, ◌∙◌, subst}
use mathlib.Core.Bool.{Bool, true, false, cond, true≢false}
use mathlib.Core.List.{List}
use native.Mathlib.Omega.{arith}
use lib.Dec.{eqb, leb}
use lib.ListN.{get_or}
use Rattle.record.specs.declared.notification.Part.{Part}
use Rattle.record.specs.declared.record.Record.{Record}
use Rattle.record.specs.Answer.{Answer, given}
use Rattle.record.specs.Groups.{known, listed, optional}
use Rattle.record.specs.Notification.{flags_of, names, heading, part_of}
use Rattle.record.proofs.Clean.{Clean, clean_zeros}
use Rattle.record.proofs.Joined.{held_even, held_listed, clean_waiting, formed_last}
use Rattle.record.proofs.Sets.{Sub, has_empty}
use Rattle.record.proofs.Tests.{eqb_eq, eqb_ne}
use Rattle.record.proofs.Tolerance.{part_is}
use Rattle.service.specs.declared.collector.Told.{Told}
use Rattle.service.specs.declared.collector.Collection.{Collection}
use Rattle.service.specs.Collector.{Stepped, handed, zeros, empty, drops, outside, refuses, joins, answers_to, collect}
use Rattle.service.proofs.Said.{tag, same_record}
use Rattle.service.proofs.Joining.{by_cases}
use Rattle.demands.specs.Demands.{Good}
use Rattle.demands.proofs.Samples.{good}

-- the states that octets lead to from an opening
pub data Fed (kind : ℕ) (told : Told) : Collection → Type 0 where
  at_first : Fed kind told (empty kind told)
  then : {c : Collection} → Fed kind told c → (s : List ℕ) → ((i : ℕ) → get_or s i 0 < 256) → Fed kind told (collect c s).next

-- a state that holds the values of its groups and nothing else
record Tidy (c : Collection) : Type 0 where
  kind_known : known c.kind ≡ true
  even : c.held % 2 ≡ 0
  inside : Sub c.held (listed c.kind)
  clean : Clean c.kind c.held c.numbers

tidy_empty : (kind : ℕ) (told : Told) → known kind ≡ true → Tidy (empty kind told)
tidy_empty kind told k = record {
  kind_known = k;
  even = refl;
  inside = record { member = λ i h. absurd (true≢false (sym h ∙ has_empty i)) };
  clean = clean_zeros kind;
}

-- a step leaves such a state, and hands out good records only
record Tidied (x : Stepped) : Type 0 where
  next_tidy : Tidy x.next
  hands_good : (r : Record) (d : Bool) → x.said ≡ handed r d → Good r

-- ---- a step

module _ (c : Collection) (t : Tidy c) (s : List ℕ) (octets : (i : ℕ) → get_or s i 0 < 256) where
  tidied_refusal : (n : ℕ) → Tidied (refuses c n)
  tidied_refusal n = record {
    next_tidy = either (leb n 22);
    hands_good = λ r d e. absurd (let z : ◌≡◌ {A = ℕ} 2 1 = ap tag e in omega arith);
  }
    where
      either : (b : Bool) → Tidy (cond b c (empty c.kind c.told))
      either true = t
      either false = tidy_empty c.kind c.told t.kind_known

  -- what is left of the held groups
  left_even : (dropped : Bool) → cond dropped 0 c.held % 2 ≡ 0
  left_even true = refl
  left_even false = t.even

  left_inside : (dropped : Bool) → Sub (cond dropped 0 c.held) (listed c.kind)
  left_inside true = record { member = λ i h. absurd (true≢false (sym h ∙ has_empty i)) }
  left_inside false = t.inside

  left_clean : (dropped : Bool) → Clean c.kind (cond dropped 0 c.held) (cond dropped zeros c.numbers)
  left_clean true = clean_zeros c.kind
  left_clean false = t.clean

  -- a part that joins, with the groups that its flags name
  tidied_joined : (dropped : Bool) →
      let p : Part = record { groups = optional (names c.kind (flags_of c.kind s)); last = eqb (flags_of c.kind s % 2) 0; direction = heading c.kind (flags_of c.kind s) } in
      Tidied (joins c p s dropped)
  tidied_joined dropped =
      let p : Part = record { groups = optional (names c.kind (flags_of c.kind s)); last = eqb (flags_of c.kind s % 2) 0; direction = heading c.kind (flags_of c.kind s) } in
      let S : ℕ = cond dropped 0 c.held in
      let v : List ℕ = cond dropped zeros c.numbers in
      by_cases c p s dropped Tidied
      (λ e.
      let n : flags_of c.kind s % 2 ≡ 0 → ⊥ = eqb_ne (flags_of c.kind s % 2) 0 e in
      let m : flags_of c.kind s % 2 ≡ 1 = omega arith in
      record {
        next_tidy = record {
          kind_known = t.kind_known;
          even = held_even c.kind t.kind_known s octets S v (left_even dropped) (left_inside dropped) (left_clean dropped);
          inside = held_listed c.kind t.kind_known s octets S v (left_even dropped) (left_inside dropped) (left_clean dropped);
          clean = clean_waiting c.kind t.kind_known s octets S v (left_even dropped) (left_inside dropped) (left_clean dropped) m;
        };
        hands_good = λ r d h. absurd (let z : ◌≡◌ {A = ℕ} 0 1 = ap tag h in omega arith);
      })
      (tidied_refusal 34)
      (λ e. record {
        next_tidy = tidy_empty c.kind c.told t.kind_known;
        hands_good = λ r d h.
            subst Good (same_record _ r dropped d h)
            (let f = formed_last c.kind t.kind_known s octets S v (left_even dropped) (left_inside dropped) (left_clean dropped) (eqb_eq (flags_of c.kind s % 2) 0 e) in
            good c.kind _ _ _ f.0 f.1);
      })

  tidied_part : (p : Part) → part_of c.kind s ≡ given p → (b dropped : Bool) → Tidied (cond b (refuses c 33) (joins c p s dropped))
  tidied_part p e true dropped = tidied_refusal 33
  tidied_part p e false dropped = subst (λ (q : Part). Tidied (joins c q s dropped)) (sym (part_is c.kind s p e)) (tidied_joined dropped)

  tidied_answer : (a : Answer Part) → part_of c.kind s ≡ a → Tidied (answers_to c a s)
  tidied_answer (Answer.refused n) e = tidied_refusal n
  tidied_answer (given p) e = tidied_part p e (outside c.told p.groups) (drops c.told c.held p.groups)

  tidied : Tidied (collect c s)
  unfolding collect
  tidied = tidied_answer (part_of c.kind s) refl

tidy : (kind : ℕ) (told : Told) → known kind ≡ true → {c : Collection} → Fed kind told c → Tidy c
tidy kind told k at_first = tidy_empty kind told k
tidy kind told k (then {c = c} f s octets) = (tidied c (tidy kind told k f) s octets).next_tidy

-- whatever octets it has received, and receives now
pub handed_formed : (kind : ℕ) (told : Told) → known kind ≡ true → {c : Collection} → Fed kind told c → (s : List ℕ) → ((i : ℕ) → get_or s i 0 < 256) →
    (r : Record) (d : Bool) → (collect c s).said ≡ handed r d → Good r
handed_formed kind told k {c} f s octets = (tidied c (tidy kind told k f) s octets).hands_good
