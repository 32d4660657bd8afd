-- The notifications that a host sends, if the splitter keeps its contract: the octets of the record's parts. A splitter and a collector
-- that keep their contracts are equal to ours.
use Prim.Native.Nat.{ℕ, suc, ◌+◌, ◌<◌, ◌≤◌, suc-le-suc}
use mathlib.Core.Path.{◌≡◌, refl, sym, ap, ap₂, ◌∙◌}
use mathlib.Core.Bool.{true}
use mathlib.Core.List.{List, [], ◌∷◌, map}
use native.Mathlib.Nat.{le_trans}
use native.Mathlib.Omega.{arith}
use lib.Dec.{leb}
use lib.ListN.{length, get_or, take}
use borrow.Author.Tests.{lt-ltb, le-leb, leb-true}
use Rattle.record.specs.declared.record.Record.{Record}
use Rattle.record.specs.declared.split.Extent.{Extent}
use Rattle.std.specs.Prelude.{Result, Ok, IsOk}
use Rattle.record.specs.declared.refusal.Refusal.{Refusal}
use Rattle.record.specs.Answer.{Answer, given, after, meant}
use Rattle.record.specs.Groups.{known, flags_octets, set_length}
use Rattle.record.specs.Octets.{over}
use Rattle.record.specs.Record.{wire, well_formed, Formed}
use Rattle.record.specs.Split.{payload_known, set_at, sets_of, part_octets, extent_of, split_wire, split_of, lent_after}
use Rattle.service.specs.declared.collector.Collection.{Collection}
use Rattle.service.specs.declared.collector.Told.{Told}
use Rattle.service.specs.Collector.{Said, collect, empty}
use Rattle.record.proofs.Once.{meant_once}
use Rattle.record.proofs.Tests.{and_l, and_r}
use Rattle.record.proofs.Parts.{octets_length}
use Rattle.record.proofs.Again.{front, facts, record_parts}
use Rattle.demands.specs.Behaviour.{Splitter, Collector, buffer, length_of, parts_of, each, piece, pieces, SplitsAsPromised, CollectsAsPromised, collector_of}
use Rattle.demands.specs.Demands.{Good}
use Rattle.demands.proofs.Taken.{Sent, sent, part, parts}
use Rattle.demands.proofs.Held.{sets}

-- ---- ours

abbrev pub splitter : Splitter
splitter = record { answer = λ r payload i out. split_of r payload i (length out); left = lent_after }

abbrev pub collector : Collector
collector = collector_of empty (λ c s. (collect c s).said) (λ c s. (collect c s).next)

pub is_splitter : (s : Splitter) → SplitsAsPromised s → splitter ≡ s
is_splitter s p = sym (λ i. record { answer = λ r payload n out. p.answers r payload n out i; left = λ r payload n out. p.leaves r payload n out i })

pub is_collector : (opened : ℕ → Told → Collection) (said : Collection → List ℕ → Said) (next : Collection → List ℕ → Collection) →
    CollectsAsPromised opened said next → collector ≡ collector_of opened said next
is_collector opened said next p =
    sym (λ i. collector_of (λ kind told. p.opens_so kind told i) (λ c s. p.says_so c s i) (λ c s. p.goes_on c s i))

-- ---- what it writes

-- `each` over the indices of a list is `map` over the list
pub each_map : {A : Type 0} (ss : List ℕ) (from : ℕ) (f g : ℕ → A) → ((i : ℕ) → i < length ss → f (from + i) ≡ g (get_or ss i 0)) → each from (length ss) f ≡ map g ss
unfolding each
each_map [] from f g h = refl
each_map (s ∷ ss) from f g h =
    let e : from + 0 ≡ from = omega arith in
    ap₂ ◌∷◌ (ap f (sym e) ∙ h 0 (omega arith))
    (each_map ss (suc from) f g
    (λ i l. let e : suc from + i ≡ from + suc i = omega arith in ap f e ∙ h (suc i) (suc-le-suc l)))

pub mapped : (r : Sent) (ss : List ℕ) → parts r ss ≡ map (part r) ss
unfolding parts
mapped r [] = refl
mapped r (s ∷ ss) = ap (λ (l : List (List ℕ)). part r s ∷ l) (mapped r ss)

-- the same for the parts with the sets of a list
pub each_of : (r : Sent) (ss : List ℕ) (from : ℕ) (f : ℕ → List ℕ) → ((i : ℕ) → i < length ss → f (from + i) ≡ part r (get_or ss i 0)) → each from (length ss) f ≡ parts r ss
each_of r ss from f h = each_map ss from f (part r) h ∙ sym (mapped r ss)

module _ (r : Record) (w : well_formed r ≡ true) (payload : ℕ) (p : payload_known payload ≡ true) where
  pub least : 20 ≤ payload
  least = leb-true 20 payload (and_l (leb 20 payload) (leb payload 512) p)

  pub most : payload ≤ 512
  most = leb-true payload 512 (and_r (leb 20 payload) (leb payload 512) p)

  abbrev count : ℕ
  count = length (sets_of r.kind r.groups payload)

  -- no part is longer than 512 octets
  pub part_short : (i : ℕ) → i < count → length (part_octets r payload i) ≤ 512
  part_short i h =
      let f : flags_octets r.kind + set_length r.kind (set_at r.kind r.groups payload i) ≤ payload = (record_parts r w payload p).fit i h in
      let m : payload ≤ 512 = most in
      rw (octets_length r.kind (set_at r.kind r.groups payload i) r.direction (wire r)) (omega arith)

  -- lent enough octets for the part, it answers with the part's length and the number of parts
  pub answered_in : (i lent : ℕ) → i < count → length (part_octets r payload i) ≤ lent →
      split_of r payload i lent ≡ given (record { length = length (part_octets r payload i); parts = count })
  unfolding split_wire extent_of
  answered_in i lent h l =
      let k : known r.kind ≡ true = let f : Formed r.kind r.groups r.direction (wire r) = facts r w payload p in
      rw (le-leb 1 r.kind f.kind_least, le-leb r.kind 6 f.kind_greatest) in
      let s : leb (length (part_octets r payload i)) lent ≡ true = le-leb (length (part_octets r payload i)) lent l in
      rw (k, p, w, lt-ltb i count h, s)

  -- so it does when 512 octets are lent
  pub answered : (i lent : ℕ) → i < count → 512 ≤ lent → split_of r payload i lent ≡ given (record { length = length (part_octets r payload i); parts = count })
  answered i lent h l = answered_in i lent h (le_trans (part_short i h) l)

  pub piece_is : (i : ℕ) → i < count → (out : List ℕ) → 512 ≤ length out →
      take (length_of (split_of r payload i (length out))) (lent_after r payload i out) ≡ part_octets r payload i
  piece_is i h out l =
      ap (λ (a : Answer Extent). take (length_of a) (after a (over out (part_octets r payload i)) out)) (answered i (length out) h l)
      ∙ front out (part_octets r payload i)

  -- the code's answer for a part, when 512 octets are lent: it is Ok, and its length is that of the part, which the lent octets begin with
  module _ (i : ℕ) (h : i < count) (x : Result Extent Refusal) (e : meant x ≡ split_of r payload i 512) where
    pub split_ok : IsOk x
    split_ok = rw (meant_once x (Ok (record { length = length (part_octets r payload i); parts = count })) (e ∙ answered i 512 h (omega arith))) refl

    pub split_length : (y : Extent) → x ≡ Ok y → y.length ≡ length_of (split_of r payload i 512)
    split_length y q = ap (λ (z : Result Extent Refusal). length_of (meant z)) (sym q) ∙ ap length_of e

    pub split_fits : (y : Extent) (out : List ℕ) → x ≡ Ok y → 512 ≤ length out → y.length ≤ length out
    split_fits y out q l = omega (arith, split_length y q, part_short i h, ap length_of (answered i 512 h (omega arith)))

    pub split_piece : (y : Extent) → x ≡ Ok y → take y.length (lent_after r payload i buffer) ≡ part_octets r payload i
    split_piece y q = ap (λ (n : ℕ). take n (lent_after r payload i buffer)) (split_length y q) ∙ piece_is i h buffer (omega arith)

module _ (r : Record) (w : Good r) (payload : ℕ) (p : payload_known payload ≡ true) where
  pub low : 20 ≤ payload
  low = least r w.formed payload p

  pub high : payload ≤ 512
  high = most r w.formed payload p

  pub pieces_are : pieces splitter payload r ≡ parts (sent r w) (sets payload (sent r w))
  pieces_are =
      let k : 0 < length (sets_of r.kind r.groups payload) = (record_parts r w.formed payload p).some in
      ap (λ (a : Answer Extent). each 0 (parts_of a) (piece splitter payload r)) (answered r w.formed payload p 0 512 k (omega arith))
      ∙ each_of (sent r w) (sets payload (sent r w)) 0 (piece splitter payload r)
      (λ i h. let e : 0 + i ≡ i = omega arith in ap (piece splitter payload r) e ∙ piece_is r w.formed payload p i h buffer (omega arith))
