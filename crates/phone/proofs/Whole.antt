-- A host that passes in a record as one notification gets what splitting the record gives, octets included.
use Prim.Native.Nat.{ℕ, ◌+◌, ◌%◌, ◌≤◌}
use mathlib.Core.Path.{◌≡◌, refl, ◌∙◌}
use mathlib.Core.Bool.{Bool, true, false}
use mathlib.Core.List.{List}
use native.Mathlib.Omega.{arith}
use lib.Dec.{eqb}
use lib.ListN.{length}
use Rattle.record.specs.declared.record.Record.{Record}
use Rattle.record.specs.Answer.{Answer, given, provided}
use Rattle.record.specs.Groups.{known, optional, flags_octets, set_length}
use Rattle.record.specs.Notification.{part_of, joined}
use Rattle.record.specs.Record.{wire, well_formed, Formed}
use Rattle.record.specs.Split.{payload_known, octets, split_wire, split_of, lent_after}
use Rattle.record.proofs.Sets.{sub_refl}
use Rattle.record.proofs.Tables.{octets_most, flags_most}
use Rattle.record.proofs.Records.{formed_facts}
use Rattle.record.proofs.Parts.{part_again, values_again, listed_groups_even}
use Rattle.service.specs.Collector.{zeros}
use Rattle.phone.specs.Host.{split_answer, split_lent}

-- the one notification that holds a record
abbrev pub whole : Record → List ℕ
whole r = octets r.kind (1 + r.groups) r.direction (wire r)

-- making the same two tests again changes nothing
twice : {A : Type 0} (a b : Bool) (m n : ℕ) (x : Answer A) → provided a m (provided b n (provided a m (provided b n x))) ≡ provided a m (provided b n x)
twice true true m n x = refl
twice true false m n x = refl
twice false b m n x = refl

module _ (r : Record) (w : well_formed r ≡ true) where
  facts : Formed r.kind r.groups r.direction (wire r)
  facts = formed_facts r.kind r.groups r.direction (wire r) w refl

  even : r.groups % 2 ≡ 0
  even = listed_groups_even r.kind r.groups facts.listed_only

  head : part_of r.kind (whole r) ≡ given (record { groups = r.groups; last = true; direction = r.direction })
  head =
      let set : ℕ = 1 + r.groups in
      let g : r.groups % 2 ≡ 0 = even in
      let o : set % 2 ≡ 1 = omega arith in
      let f : flags_octets r.kind ≤ 3 = flags_most r.kind in
      let l : set_length r.kind set ≤ 64 = octets_most r.kind set in
      let p = part_again r.kind r.groups r.direction (wire r) facts set (sub_refl set) (omega arith) in
      let q : optional set ≡ r.groups = omega arith in
      p ∙ (λ i. given (record { groups = q i; last = eqb (o i) 1; direction = r.direction }))

  numbers : joined r.kind (whole r) zeros ≡ wire r
  numbers = values_again r.kind r.groups r.direction (wire r) facts (1 + r.groups) (sub_refl (1 + r.groups)) zeros ∙ facts.absent

  pub answered : (payload i lent : ℕ) → split_answer r.kind (whole r) payload i lent ≡ split_of r payload i lent
  unfolding split_answer split_wire
  answered payload i lent = rw (head, numbers) (twice (known r.kind) (payload_known payload) 11 12 _)

  pub left : (payload i : ℕ) (out : List ℕ) → split_lent r.kind (whole r) payload i out ≡ lent_after r payload i out
  left payload i out = rw (answered payload i (length out), head, numbers)
