-- Demand 3: records of one kind and set, some notifications of which are lost.
use Prim.Native.Nat.{ℕ, suc, ◌*◌, ◌/◌, ◌^◌, ◌<◌, ◌≤◌}
use mathlib.Core.Path.{◌≡◌, refl, sym, ap, ◌∙◌, subst, subst₂}
use mathlib.Core.Bool.{Bool, true}
use mathlib.Core.List.{List, [], ◌∷◌}
use lib.Bits.{bit_or}
use lib.ListN.{length}
use Rattle.record.specs.declared.record.Record.{Record}
use Rattle.record.specs.Split.{payload_known, sets_of}
use Rattle.service.specs.declared.collector.Told.{Told}
use Rattle.service.specs.declared.collector.Told.TheVariants.{Fixed}
use Rattle.service.specs.declared.collector.Collection.{Collection}
use Rattle.service.specs.Collector.{Said, zeros}
use Rattle.service.specs.Collector as Collector
use Rattle.demands.specs.Behaviour.{Splitter, pieces, heard, SplitsAsPromised, CollectsAsPromised, collector_of}
use Rattle.demands.specs.Demands.{Good, Faithful, Gaps, flat, AllFaithful, Alike, Chunks, Demand3}
use Rattle.demands.proofs.Taken.{Sent, sent, parts, holding}
use Rattle.demands.proofs.Held.{whole_first, sets, record_cuts}
use Rattle.demands.proofs.Pieces.{splitter, collector, is_splitter, is_collector, low, high, pieces_are}
use Rattle.demands.proofs.Counted.{after, cuts_some, gaps_first, gaps_rest, Between, empty, Ending, Outcome}
use Rattle.demands.proofs.Streams.{one_record}

record Handled (kind groups payload m : ℕ) (r : Record) (bs : List Bool) (x : List Said × Collection) : Type 0 where
  faithful : Faithful r bs x.0
  held_after : ℕ
  numbers_after : List ℕ
  next_is : x.1 ≡ holding kind (Fixed groups) held_after numbers_after
  between : Between (after m bs) (sets_of kind groups payload) held_after numbers_after

module _ (r : Record) (w : Good r) (payload : ℕ) (p : payload_known payload ≡ true) (m : ℕ) (bs : List Bool) where
  abbrev Handles : ℕ → ℕ → Type 0
  Handles kind groups =
      (c : Collection) (h : ℕ) (z : List ℕ) → c ≡ holding kind (Fixed groups) h z → Between m (sets_of kind groups payload) h z →
      length bs ≡ length (sets_of kind groups payload) → (2 ≤ length (sets_of kind groups payload) → Gaps (length (sets_of kind groups payload)) m bs) →
      Handled kind groups payload m r bs (heard collector c (pieces splitter payload r) bs)

  handles : Handles r.kind r.groups
  handles c h z e v l g =
      let s : Sent = sent r w in
      let x : List Said × Collection = heard collector (holding r.kind (Fixed r.groups) h z) (parts s (sets payload s)) bs in
      let full : Type 0 = bit_or 0 (r.groups / 2 * 2 ^ 1) ≡ r.groups in
      let o : Outcome s full (sets payload s) m bs x = one_record s payload (low r w payload p) (high r w payload p) m h z bs v l g in
      subst₂ (λ (c : Collection) (l : List (List ℕ)). Handled r.kind r.groups payload m r bs (heard collector c l bs)) (sym e) (sym (pieces_are r w payload p))
      (record {
        faithful = (
          o.quiet,
          λ t.
              let y : Ending s full bs x.0 = o.loud t in
              (y.before, y.final, y.are, y.waits, y.either, y.sure (whole_first s)),
        );
        held_after = o.held_after;
        numbers_after = o.numbers_after;
        next_is = o.next_is;
        between = o.between;
      })

  handles_alike : (kind groups : ℕ) → r.kind ≡ kind → r.groups ≡ groups → Handles kind groups
  handles_alike kind groups e f = subst₂ Handles e f handles

module _ (kind groups payload : ℕ) (p : payload_known payload ≡ true) where
  abbrev k : ℕ
  k = length (sets_of kind groups payload)

  -- one record after the other
  stream : (rs : List Record) → Alike kind groups rs → (bs : List (List Bool)) → Chunks k bs → (m : ℕ) → (2 ≤ k → Gaps k m (flat bs)) →
      (c : Collection) (h : ℕ) (z : List ℕ) → c ≡ holding kind (Fixed groups) h z → Between m (sets_of kind groups payload) h z →
      AllFaithful splitter collector payload c rs bs
  unfolding Alike Chunks flat AllFaithful
  stream [] a bs l m g c h z e v = tt
  stream (r ∷ rs) a [] l m g c h z e v = tt
  stream (r ∷ rs) a (b ∷ bs) l m g c h z e v =
      let o : Handled kind groups payload m r b (heard collector c (pieces splitter payload r) b) =
      handles_alike r a.0 payload p m b kind groups a.1 a.2 c h z e v l.0 (λ t. gaps_first k m b (flat bs) (g t)) in (
        o.faithful,
        stream rs a.3 bs l.1 (after m b) (λ t. gaps_rest k m b (flat bs) (g t)) (heard collector c (pieces splitter payload r) b).1 o.held_after
            o.numbers_after o.next_is o.between,
      )

length_parts : (r : Sent) (ss : List ℕ) → length (parts r ss) ≡ length ss
unfolding parts
length_parts r [] = refl
length_parts r (s ∷ ss) = ap suc (length_parts r ss)

-- k is at least 1
pub pieces_some : (r : Record) → Good r → (payload : ℕ) → payload_known payload ≡ true → 0 < length (pieces splitter payload r)
pieces_some r w payload p =
    rw (pieces_are r w payload p, length_parts (sent r w) (sets payload (sent r w))) (cuts_some (record_cuts (sent r w) payload (low r w payload p)))

pub ours_three : Demand3 splitter collector
ours_three = record {
  takes = λ kind groups payload. length (sets_of kind groups payload);
  some = λ payload p r w. pieces_some r w payload p;
  taken = λ payload p r w. ap length (pieces_are r w payload p) ∙ length_parts (sent r w) (sets payload (sent r w));
  holds = λ kind groups payload p rs a bs l g. stream kind groups payload p rs a bs l 0 g (Collector.empty kind (Fixed groups)) 0 zeros refl (empty refl refl);
}

pub demand3 : (s : Splitter) → SplitsAsPromised s → (opened : ℕ → Told → Collection) (said : Collection → List ℕ → Said)
    (next : Collection → List ℕ → Collection) → CollectsAsPromised opened said next →
    Demand3 s (collector_of opened said next)
demand3 s p opened said next q =
    subst (λ (s : Splitter). Demand3 s (collector_of opened said next)) (is_splitter s p) (subst (Demand3 splitter) (is_collector opened said next q) ours_three)
