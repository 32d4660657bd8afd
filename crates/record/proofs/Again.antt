-- Reading what splitting wrote: for each kind, set, payload and part it gives the part's groups, whether it is the last, the direction,
-- and the part's numbers. Demands 2 and 3 rest on this.
use Prim.Native.Nat.{ℕ, suc, ◌+◌, ◌%◌, ◌<◌, ◌≤◌}
use mathlib.Core.Path.{◌≡◌, refl, sym, ap, ◌∙◌}
use mathlib.Core.Bool.{true}
use mathlib.Core.List.{List}
use native.Mathlib.Omega.{arith}
use lib.Dec.{eqb, leb}
use lib.ListN.{length, take, drop}
use lib.Seq.{take_at}
use borrow.Author.Tests.{leb-true}
use Rattle.record.specs.declared.record.Record.{Record}
use Rattle.record.specs.declared.notification.Part.{Part}
use Rattle.record.specs.Layout.{layout}
use Rattle.record.specs.Groups.{named, flags_octets, set_length, optional}
use Rattle.record.specs.Octets.{over}
use Rattle.record.specs.Answer.{Answer, given, after}
use Rattle.record.specs.Record.{wire, well_formed, kept, Formed}
use Rattle.record.specs.Notification.{part_of, joined, held_after}
use Rattle.record.specs.Split.{payload_known, sets_of, set_at, part_octets}
use Rattle.record.specs.Parts.{PartsOf}
use Rattle.record.proofs.Sets.{Sub, has_zero}
use Rattle.record.proofs.Tests.{and_l, and_r}
use Rattle.record.proofs.Records.{formed_facts}
use Rattle.record.proofs.Parts.{part_again, values_again}
use Rattle.record.proofs.Partition.{parts_of}

-- the first octets of what the splitter leaves in the lent buffer are the part's
pub front : (out octets : List ℕ) → take (length octets) (over out octets) ≡ octets
front out octets = take_at octets (drop (length octets) out) (length octets) refl

module _ (r : Record) (w : well_formed r ≡ true) (payload : ℕ) (p : payload_known payload ≡ true) where
  abbrev sets : List ℕ
  sets = sets_of r.kind r.groups payload

  pub facts : Formed r.kind r.groups r.direction (wire r)
  facts = formed_facts r.kind r.groups r.direction (wire r) w refl

  least : 20 ≤ payload
  least = leb-true 20 payload (and_l (leb 20 payload) (leb payload 512) p)

  greatest : payload ≤ 512
  greatest = leb-true payload 512 (and_r (leb 20 payload) (leb payload 512) p)

  pub record_parts : PartsOf r.kind r.groups payload sets
  record_parts = parts_of r.kind r.groups r.direction (wire r) facts payload least

  module _ (i : ℕ) (h : i < length sets) where
    abbrev set : ℕ
    set = set_at r.kind r.groups payload i

    sub : Sub set (1 + r.groups)
    sub = record { member = record_parts.within i }

    pub head_again : part_of r.kind (part_octets r payload i) ≡
        given (record { groups = optional set; last = eqb (suc i) (length sets); direction = r.direction })
    head_again =
        let f : flags_octets r.kind + set_length r.kind set ≤ payload = record_parts.fit i h in
        let m : payload ≤ 512 = greatest in
        let l : eqb (set % 2) 1 ≡ eqb (suc i) (length sets) = sym (has_zero set) ∙ record_parts.main i h in
        part_again r.kind r.groups r.direction (wire r) facts set sub (omega arith)
        ∙ ap (λ (b : mathlib.Core.Bool.Bool). given (record { groups = optional set; last = b; direction = r.direction })) l

    pub numbers_held : (z : List ℕ) → held_after r.kind (part_octets r payload i) z ≡ kept (named set (layout r.kind)) (wire r) z
    numbers_held z =
        ap (λ (x : Answer Part). after x (joined r.kind (part_octets r payload i) z) z) head_again
        ∙ values_again r.kind r.groups r.direction (wire r) facts set sub z
