-- Demand 2: a record, split and collected, comes back.
use Prim.Native.Nat.{ℕ, suc, ◌+◌, ◌*◌, ◌-◌, ◌%◌, ◌^◌, ◌≤◌}
use mathlib.Core.Path.{◌≡◌, refl, sym, ap, ◌∙◌, subst, subst₂}
use mathlib.Core.Logic.{inl, inr}
use mathlib.Core.Bool.{true, false}
use mathlib.Core.List.{List, [], ◌∷◌, ◌++◌}
use native.Mathlib.Omega.{arith}
use lib.Bits.{bit_or}
use lib.ListN.{length, replicate}
use Rattle.record.specs.declared.record.Record.{Record}
use Rattle.record.specs.Groups.{flags_octets, set_length}
use Rattle.record.specs.declared.split.Extent.{Extent}
use Rattle.record.specs.Answer.{Answer, after}
use Rattle.record.specs.Octets.{over}
use Rattle.record.specs.Split.{payload_known, part_octets}
use Rattle.record.proofs.Tables.{flags_most}
use Rattle.record.proofs.Cuts.{Cuts, whole, more}
use Rattle.record.proofs.Parts.{octets_length}
use Rattle.service.specs.declared.collector.Told.{Told}
use Rattle.service.specs.declared.collector.Collection.{Collection}
use Rattle.service.specs.Collector.{Said, waiting, handed, Stepped, zeros, collect}
use Rattle.demands.specs.Behaviour.{Splitter, says, SplitsAsPromised, CollectsAsPromised, collector_of}
use Rattle.demands.specs.Demands.{Good, Short, Suits, Splits, Demand2}
use Rattle.demands.proofs.Dropping.{Ready, ready_open, ready_fixed}
use Rattle.demands.proofs.Taken.{Sent, sent, part, parts, with_numbers, holding}
use Rattle.demands.proofs.Held.{Held, held_none, held_next, whole_first, whole_next, goes_on, hands, record_cuts}
use Rattle.demands.proofs.Pieces.{splitter, collector, is_splitter, is_collector, answered_in, low, high, pieces_are}
use Rattle.demands.proofs.Emptied.{emptied}

-- waiting some times, then the record
abbrev pub Comes : Sent → List Said → Type 0
Comes r said = (n : ℕ) × (said ≡ replicate n (waiting false) ++ (handed r.whole false ∷ []))

-- the answer to the first, and those to the rest
says_first : (c : Collection) (s : List ℕ) (ss : List (List ℕ)) (x : Stepped) → collect c s ≡ x → says collector c (s ∷ ss) ≡ x.said ∷ says collector x.next ss
unfolding says
says_first c s ss x e = rw e

module _ (r : Sent) (payload : ℕ) (least : 20 ≤ payload) (most : payload ≤ 512) where
  pub comes : {b q : ℕ} {ss : List ℕ} → Cuts r.kind (payload - flags_octets r.kind) b q ss → (t : Told) → Ready r.groups t →
      (h : ℕ) (z : List ℕ) → Held r b q h z → bit_or h (q * 2 ^ b) ≡ r.groups → Comes r (says collector (holding r.kind t h z) (parts r ss))
  unfolding parts
  comes (whole {b} {q} f) t ready h z c e =
      (0, says_first (holding r.kind t h z) (part r (1 + q * 2 ^ b)) [] _ (hands r payload least most b q h z c f t ready e) ∙ unfold says in refl)
  comes (more {b} {q} {ss} d p f k) t ready h z c e =
      let s : ℕ = q % 2 ^ d * 2 ^ b in
      let y : Comes r (says collector (holding r.kind t (bit_or h s) (with_numbers r s z)) (parts r ss)) =
      comes k t ready (bit_or h s) (with_numbers r s z) (held_next r b q h z c d) (whole_next r b q h z c d e) in (
        suc y.0,
        says_first (holding r.kind t h z) (part r s) (parts r ss) _ (goes_on r payload least most b q d c.least c.left f t ready h z c.below)
            ∙ ap (λ (l : List Said). waiting false ∷ l) y.1,
      )

  -- each part fits the payload
  short_part : (s : ℕ) → set_length r.kind s ≤ payload - flags_octets r.kind → length (part r s) ≤ payload
  short_part s f =
      let m : flags_octets r.kind ≤ 3 = flags_most r.kind in rw (octets_length r.kind s r.direction r.numbers) (omega arith)

  parts_short : {b q : ℕ} {ss : List ℕ} → Cuts r.kind (payload - flags_octets r.kind) b q ss → Short payload (parts r ss)
  unfolding parts Short
  parts_short (whole {b} {q} f) = (short_part (1 + q * 2 ^ b) f, tt)
  parts_short (more {b} {q} d p f k) = (short_part (q % 2 ^ d * 2 ^ b) f, parts_short k)

pub ready_if : (groups : ℕ) (t : Told) → Suits groups t → Ready groups t
ready_if groups t (inl e) = rw e ready_open
ready_if groups t (inr e) = rw e ready_fixed

pub ours_splits : (payload : ℕ) → payload_known payload ≡ true → (r : Record) → Good r → Splits splitter payload r
ours_splits payload p r w = record {
  answers = λ i h out l. answered_in r w.formed payload p i (length out) h l;
  leaves = λ i h out l.
      ap (λ (a : Answer Extent). after a (over out (part_octets r payload i)) out) (answered_in r w.formed payload p i (length out) h l);
  short = subst (Short payload) (sym (pieces_are r w payload p))
      (parts_short (sent r w) payload (low r w payload p) (high r w payload p) (record_cuts (sent r w) payload (low r w payload p)));
}

pub ours_two : Demand2 splitter collector
ours_two = record {
  splits = ours_splits;
  comes_back = λ payload p r w t told state e.
      subst₂ (λ (c : Collection) (l : List (List ℕ)). Comes (sent r w) (says collector c l)) (sym (emptied r.kind t e)) (sym (pieces_are r w payload p))
      (comes (sent r w) payload (low r w payload p) (high r w payload p) (record_cuts (sent r w) payload (low r w payload p)) t (ready_if r.groups t told) 0 zeros
      (held_none (sent r w)) (whole_first (sent r w)));
}

pub demand2 : (s : Splitter) → SplitsAsPromised s → (opened : ℕ → Told → Collection) (said : Collection → List ℕ → Said)
    (next : Collection → List ℕ → Collection) → CollectsAsPromised opened said next →
    Demand2 s (collector_of opened said next)
demand2 s p opened said next q =
    subst (λ (s : Splitter). Demand2 s (collector_of opened said next)) (is_splitter s p) (subst (Demand2 splitter) (is_collector opened said next q) ours_two)
