-- A notification with More Data 0 always holds a well-formed record: so a host gets 13 for More Data 1 and for nothing else.
use Prim.Native.Nat.{ℕ, ◌%◌, ◌<◌}
use mathlib.Core.Path.{◌≡◌, refl, sym, ap, ◌∙◌, subst}
use mathlib.Core.Bool.{true, true≢false}
use mathlib.Core.List.{List}
use lib.Bits.{or_zero_l}
use lib.Dec.{eqb}
use lib.ListN.{get_or}
use Rattle.record.specs.declared.notification.Part.{Part}
use Rattle.record.specs.Answer.{given}
use Rattle.record.specs.Groups.{listed, known, optional}
use Rattle.record.specs.Notification.{flags_of, names, heading, part_of, joined}
use Rattle.record.specs.Record.{formed}
use Rattle.record.specs.Split.{payload_known, split_wire, extent_of}
use Rattle.record.proofs.Clean.{clean_zeros}
use Rattle.record.proofs.Joined.{formed_last}
use Rattle.record.proofs.Sets.{Sub, has_empty}
use Rattle.record.proofs.Tests.{eqb_eq}
use Rattle.record.proofs.Tolerance.{part_is}
use Rattle.service.specs.Collector.{zeros}
use Rattle.phone.specs.Host.{split_answer}

pub read_formed : (kind : ℕ) (s : List ℕ) → known kind ≡ true → flags_of kind s % 2 ≡ 0 → ((i : ℕ) → get_or s i 0 < 256) →
    formed kind (optional (names kind (flags_of kind s))) (heading kind (flags_of kind s)) (joined kind s zeros) ≡ true
read_formed kind s k m h =
    let none : Sub 0 (listed kind) = record { member = λ i e. absurd (true≢false (sym e ∙ has_empty i)) } in
    subst (λ (g : ℕ). formed kind g (heading kind (flags_of kind s)) (joined kind s zeros) ≡ true) (or_zero_l (optional (names kind (flags_of kind s))))
    (formed_last kind k s h 0 zeros refl none (clean_zeros kind) m).1

module _ (kind : ℕ) (s : List ℕ) (p : Part) (k : known kind ≡ true) (e : part_of kind s ≡ given p) where
  abbrev flags : ℕ
  flags = flags_of kind s

  abbrev said : Part
  said = record { groups = optional (names kind flags); last = eqb (flags % 2) 0; direction = heading kind flags }

  said_so : said ≡ p
  said_so = sym (part_is kind s p e)

  -- with More Data 0 the answer is a part's extent, 15 or 14: never 13
  pub never_13 : (payload i lent : ℕ) → payload_known payload ≡ true → p.last ≡ true → ((i : ℕ) → get_or s i 0 < 256) →
      split_answer kind s payload i lent ≡ extent_of kind p.groups p.direction (joined kind s zeros) payload i lent
  unfolding split_answer split_wire
  never_13 payload i lent q l h =
      let even : flags % 2 ≡ 0 = eqb_eq (flags % 2) 0 (ap (λ (x : Part). x.last) said_so ∙ l) in
      let so : formed kind p.groups p.direction (joined kind s zeros) ≡ true =
      ap (λ (x : Part). formed kind x.groups x.direction (joined kind s zeros)) (sym said_so) ∙ read_formed kind s k even h in
      rw (k, q, e, l, so, k, q)
