-- A record on its way back: the parts that are still to be handed to the collection.
use Prim.Native.Nat.{ℕ, zero, suc, ◌+◌, ◌-◌, ◌<◌, ◌≤◌, zero-le}
use mathlib.Core.Path.{◌≡◌, refl, sym, ap, ◌∙◌}
use mathlib.Core.Bool.{Bool, true, false, cond}
use mathlib.Core.List.{List, [], ◌∷◌, ◌++◌}
use native.Mathlib.Numerals.{add-one}
use native.Mathlib.Omega.{arith}
use lib.ListN.{length, replicate}
use Rattle.record.specs.declared.record.Record.{Record}
use Rattle.record.specs.Groups.{flags_octets}
use Rattle.record.specs.Split.{payload_known, fits, run, cut, part_octets}
use Rattle.record.proofs.Again.{record_parts}
use Rattle.service.specs.declared.collector.Told.{Told}
use Rattle.service.specs.declared.collector.Collection.{Collection}
use Rattle.service.specs.Collector.{Said, waiting, handed, Stepped, zeros, empty, collect}
use Rattle.demands.specs.Behaviour.{each, says}
use Rattle.demands.specs.Demands.{Good, Suits, count}
use Rattle.demands.proofs.Taken.{Sent, sent, parts}
use Rattle.demands.proofs.Held.{held_none, whole_first, sets, record_cuts}
use Rattle.demands.proofs.Pieces.{collector, low, high, each_of}
use Rattle.demands.proofs.DemandTwo.{Comes, comes, ready_if}

-- ---- lists of what is said

nothing : (m : ℕ) (w h : Said) → ◌≡◌ {A = List Said} [] (replicate m w ++ (h ∷ [])) → ⊥
nothing zero w h e = let z : ◌≡◌ {A = ℕ} 0 1 = cc in omega arith
nothing (suc m) w h e = let z : ◌≡◌ {A = ℕ} 0 1 = cc in omega arith

head_same : (a b : Said) (l k : List Said) → a ∷ l ≡ b ∷ k → a ≡ b
head_same a b l k e = cc

tail_same : (a b : Said) (l k : List Said) → a ∷ l ≡ b ∷ k → l ≡ k
tail_same a b l k e = cc

module _ (r : Record) (payload : ℕ) where
  -- the answers to part i and to those after it: waiting some times, then the record
  pub record Left (i : ℕ) (c : Collection) : Type 0 where
    pub below : i < count r payload
    pub times : ℕ
    pub said : says collector c (each i (count r payload - i) (part_octets r payload)) ≡ replicate times (waiting false) ++ (handed r false ∷ [])

  -- before the first part
  pub left_all : Good r → payload_known payload ≡ true → (told : Told) → Suits r.groups told → Left 0 (empty r.kind told)
  left_all w p told suits =
      let s : Sent = sent r w in
      let some : 0 < count r payload = (record_parts r w.formed payload p).some in
      let y : Comes s (says collector (empty r.kind told) (parts s (sets payload s))) =
      comes s payload (low r w payload p) (high r w payload p) (record_cuts s payload (low r w payload p)) told (ready_if r.groups told suits) 0 zeros
      (held_none s) (whole_first s) in
      let e : each 0 (count r payload) (part_octets r payload) ≡ parts s (sets payload s) =
      each_of s (sets payload s) 0 (part_octets r payload) (λ i h. let z : 0 + i ≡ i = omega arith in ap (part_octets r payload) z) in
      let n : count r payload - 0 ≡ count r payload = omega arith in record {
        below = some;
        times = y.0;
        said =
            ap (λ (k : ℕ). says collector (empty r.kind told) (each 0 k (part_octets r payload))) n ∙ ap (says collector (empty r.kind told)) e ∙ y.1;
      }

  -- what handing over one more part gives
  pub data Next (i : ℕ) (x : Stepped) : Type 0 where
    comes_home : x.said ≡ handed r false → Next i x
    waits_on : x.said ≡ waiting false → Left (i + 1) x.next → Next i x

  first_said : (i : ℕ) (c : Collection) → i < count r payload →
      says collector c (each i (count r payload - i) (part_octets r payload)) ≡
      (collect c (part_octets r payload i)).said ∷ says collector (collect c (part_octets r payload i)).next (each (suc i) (count r payload - suc i) (part_octets r payload))
  unfolding says each
  first_said i c h = let n : count r payload - i ≡ suc (count r payload - suc i) = omega arith in rw n

  -- there is an answer, so there is a part
  some_left : (i m n : ℕ) (c : Collection) → count r payload - i ≡ n →
      says collector c (each i n (part_octets r payload)) ≡ replicate m (waiting false) ++ (handed r false ∷ []) → i < count r payload
  unfolding says each
  some_left i m zero c z e = absurd (nothing m (waiting false) (handed r false) e)
  some_left i m (suc n) c z e = omega arith

  after : (i : ℕ) (x : Stepped) (m : ℕ) →
      x.said ∷ says collector x.next (each (suc i) (count r payload - suc i) (part_octets r payload)) ≡ replicate m (waiting false) ++ (handed r false ∷ []) → Next i x
  after i x zero e = comes_home (head_same x.said (handed r false) (says collector x.next (each (suc i) (count r payload - suc i) (part_octets r payload))) [] e)
  after i x (suc m) e =
      let rest : List Said = says collector x.next (each (suc i) (count r payload - suc i) (part_octets r payload)) in
      let t : rest ≡ replicate m (waiting false) ++ (handed r false ∷ []) = tail_same x.said (waiting false) rest (replicate m (waiting false) ++ (handed r false ∷ [])) e in
      waits_on (head_same x.said (waiting false) rest (replicate m (waiting false) ++ (handed r false ∷ [])) e)
      (rw (add-one i) (record { below = some_left (suc i) m (count r payload - suc i) x.next refl t; times = m; said = t }))

  pub next : (i : ℕ) (c : Collection) → Left i c → Next i (collect c (part_octets r payload i))
  next i c l = after i (collect c (part_octets r payload i)) l.times (sym (first_said i c l.below) ∙ l.said)

-- no record has more than sixteen parts
cut_count : (kind room n left : ℕ) → length (cut kind room left n) ≤ n
unfolding cut
cut_count kind room zero left = zero-le
cut_count kind room (suc n) left =
    more (fits kind (1 + left) room) (run kind room left) (cut kind room (left - run kind room left) n) n (cut_count kind room n (left - run kind room left))
  where
    more : (b : Bool) (x : ℕ) (rest : List ℕ) (n : ℕ) → length rest ≤ n → length (cond b ((1 + left) ∷ []) (x ∷ rest)) ≤ suc n
    more true x rest n h = omega arith
    more false x rest n h = omega arith

pub count_most : (r : Record) (payload : ℕ) → count r payload ≤ 16
count_most r payload = cut_count r.kind (payload - flags_octets r.kind) 16 r.groups
