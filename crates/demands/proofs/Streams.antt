-- A record of which parts are lost, its set told: the answers, and what is held afterwards.
use Prim.Native.Nat.{ℕ, zero, suc, ◌+◌, ◌*◌, ◌-◌, ◌/◌, ◌%◌, ◌^◌, ◌<◌, ◌≤◌}
use mathlib.Core.Path.{◌≡◌, refl, sym}
use mathlib.Core.Logic.{inl, inr}
use mathlib.Core.Bool.{Bool, true, false, not, true≢false}
use mathlib.Core.List.{List, [], ◌∷◌, ◌++◌}
use native.Mathlib.Omega.{arith}
use native.Mathlib.Nat.{suc_inj, le_refl, mul-le-mul_right}
use lib.Pow.{pow_pos}
use lib.Dec.{eqb}
use lib.Bits.{bit_or}
use lib.ListN.{length}
use Rattle.record.specs.Groups.{flags_octets, set_length}
use Rattle.record.proofs.Tests.{passed, failed, tested, eqb_eq, eqb_ne}
use Rattle.record.proofs.Cuts.{Cuts, whole, more}
use Rattle.service.specs.declared.collector.Told.TheVariants.{Fixed}
use Rattle.service.specs.Collector.{handed, refused, zeros, collect}
use Rattle.demands.specs.Behaviour.{heard}
use Rattle.demands.specs.Demands.{Waits, last_of, Gaps}
use Rattle.demands.proofs.Dropping.{ready_fixed}
use Rattle.demands.proofs.Taken.{Sent, part, parts, with_numbers, holding}
use Rattle.demands.proofs.Held.{Held, held_none, held_next, held_lost, whole_next, goes_on, starts, hands, lacks, sets, record_cuts}
use Rattle.demands.proofs.Pieces.{collector}
use Rattle.demands.proofs.Counted.{after, Under, Below, cuts_some, Between, empty, stale, Since, nothing, some, Outcome, lost, arrived, snoc_split, one_longer, lose, gap_less, gap_on, gap_over, under_head, under_tail, covered, below_next, since_next}

module _ (r : Sent) (payload : ℕ) (least : 20 ≤ payload) (most : payload ≤ 512) (S : List ℕ) where
  -- the last part of the record that is held: lost, or arrived
  last_lost : (l m h : ℕ) (z : List ℕ) (full : Type 0) → suc l ≡ length S → Since l m S h z → (2 ≤ length S → Gaps (length S) m (false ∷ [])) →
      Outcome r full S m (false ∷ []) ([], holding r.kind (Fixed r.groups) h z)
  unfolding Waits last_of Gaps after
  last_lost l m h z full e s g = record {
    quiet = λ a. tt;
    loud = λ a. absurd (true≢false (sym a));
    held_after = h;
    numbers_after = z;
    next_is = refl;
    between = ending s;
  }
    where
      ending : Since l m S h z → Between (suc m) S h z
      ending (nothing i j) = empty i j
      ending (some t zero i u) = absurd (let k : suc m < length S = (g t).0 in omega arith)
      ending (some t (suc n) i u) = stale t (omega arith) n (omega arith) u

  last_arrived : (b q m h : ℕ) (z : List ℕ) → Held r b q h z → set_length r.kind (1 + q * 2 ^ b) ≤ payload - flags_octets r.kind →
      Outcome r (bit_or h (q * 2 ^ b) ≡ r.groups) S m (true ∷ [])
      ((collect (holding r.kind (Fixed r.groups) h z) (part r (1 + q * 2 ^ b))).said ∷ [], (collect (holding r.kind (Fixed r.groups) h z) (part r (1 + q * 2 ^ b))).next)
  unfolding Waits last_of after
  last_arrived b q m h z c f = elim (tested (eqb (bit_or h (q * 2 ^ b)) r.groups)) [
    | passed e ↦
        rw (hands r payload least most b q h z c f (Fixed r.groups) ready_fixed (eqb_eq (bit_or h (q * 2 ^ b)) r.groups e))
        (record {
          quiet = λ a. absurd (true≢false a);
          loud = λ a. record {
            before = [];
            final = handed r.whole false;
            are = refl;
            waits = tt;
            either = inl (false, refl);
            sure = λ i j. (false, refl);
          };
          held_after = 0;
          numbers_after = zeros;
          next_is = refl;
          between = empty refl refl;
        })
    | failed e ↦
        rw (lacks r payload least most b q h z c f (eqb_ne (bit_or h (q * 2 ^ b)) r.groups e))
        (record {
          quiet = λ a. absurd (true≢false a);
          loud = λ a. record {
            before = [];
            final = refused 34 (not (eqb h 0));
            are = refl;
            waits = tt;
            either = inr (not (eqb h 0), refl);
            sure = λ i j. absurd (eqb_ne (bit_or h (q * 2 ^ b)) r.groups e i);
          };
          held_after = 0;
          numbers_after = zeros;
          next_is = refl;
          between = empty refl refl;
        })
  ]

  -- one more part of the record that is held: lost, or arrived, given what comes after it
  module _ (b q d : ℕ) (ss : List ℕ) (f : set_length r.kind (q % 2 ^ d * 2 ^ b) ≤ payload - flags_octets r.kind)
      (some_left : 0 < length ss) (bs : List Bool) (l : length bs ≡ length ss) (m h : ℕ) (z : List ℕ) where
    bits_left : 0 < length bs
    bits_left = omega arith

    part_lost : (full full' : Type 0) → Outcome r full S (suc m) bs (heard collector (holding r.kind (Fixed r.groups) h z) (parts r ss) bs) →
        Outcome r full' S m (false ∷ bs) (heard collector (holding r.kind (Fixed r.groups) h z) (parts r (q % 2 ^ d * 2 ^ b ∷ ss)) (false ∷ bs))
    unfolding parts heard
    part_lost full full' o = lost r full full' S m bs (heard collector (holding r.kind (Fixed r.groups) h z) (parts r ss) bs) bits_left o

    part_joined : (c : Held r b q h z) →
        Outcome r (bit_or (bit_or h (q % 2 ^ d * 2 ^ b)) (q / 2 ^ d * 2 ^ (d + b)) ≡ r.groups) S 0 bs
        (heard collector (holding r.kind (Fixed r.groups) (bit_or h (q % 2 ^ d * 2 ^ b)) (with_numbers r (q % 2 ^ d * 2 ^ b) z)) (parts r ss) bs) →
        Outcome r (bit_or h (q * 2 ^ b) ≡ r.groups) S m (true ∷ bs)
        (heard collector (holding r.kind (Fixed r.groups) h z) (parts r (q % 2 ^ d * 2 ^ b ∷ ss)) (true ∷ bs))
    unfolding parts heard
    part_joined c o =
        let t : ℕ = q % 2 ^ d * 2 ^ b in
        let h' : ℕ = bit_or h t in
        let z' : List ℕ = with_numbers r t z in
        rw (goes_on r payload least most b q d c.least c.left f (Fixed r.groups) ready_fixed h z c.below)
        (arrived r (bit_or h' (q / 2 ^ d * 2 ^ (d + b)) ≡ r.groups) (bit_or h (q * 2 ^ b) ≡ r.groups) S m bs
        (heard collector (holding r.kind (Fixed r.groups) h' z') (parts r ss) bs) bits_left false (whole_next r b q h z c d) o)

    -- a part that drops what is held of the record before
    part_renewed : (c : Held r b q 0 zeros) → 0 < q % 2 ^ d → q % 2 ^ d * 2 ^ b ≤ h →
        Outcome r (bit_or (q % 2 ^ d * 2 ^ b) (q / 2 ^ d * 2 ^ (d + b)) ≡ r.groups) S 0 bs
        (heard collector (holding r.kind (Fixed r.groups) (q % 2 ^ d * 2 ^ b) (with_numbers r (q % 2 ^ d * 2 ^ b) zeros)) (parts r ss) bs) →
        Outcome r (bit_or 0 (q * 2 ^ b) ≡ r.groups) S m (true ∷ bs)
        (heard collector (holding r.kind (Fixed r.groups) h z) (parts r (q % 2 ^ d * 2 ^ b ∷ ss)) (true ∷ bs))
    unfolding parts heard
    part_renewed c p v o =
        let t : ℕ = q % 2 ^ d * 2 ^ b in
        let z' : List ℕ = with_numbers r t zeros in
        let k : 1 * 2 ^ b ≤ t = mul-le-mul_right (2 ^ b) p in
        let i : 0 < 2 ^ b = pow_pos b in
        rw (starts r payload least most b q d c.least c.left f h z (omega arith) v)
        (arrived r (bit_or t (q / 2 ^ d * 2 ^ (d + b)) ≡ r.groups) (bit_or 0 (q * 2 ^ b) ≡ r.groups) S m bs
        (heard collector (holding r.kind (Fixed r.groups) t z') (parts r ss) bs) bits_left true (whole_next r b q 0 zeros c d) o)

  -- what is held is from this record
  current : {b q : ℕ} {ss : List ℕ} → Cuts r.kind (payload - flags_octets r.kind) b q ss → (pre : List ℕ) → S ≡ pre ++ ss → Below (2 ^ b) pre →
      (m h : ℕ) (z : List ℕ) → Held r b q h z → Since (length pre) m S h z →
      (bs : List Bool) → length bs ≡ length ss → (2 ≤ length S → Gaps (length S) m bs) →
      Outcome r (bit_or h (q * 2 ^ b) ≡ r.groups) S m bs (heard collector (holding r.kind (Fixed r.groups) h z) (parts r ss) bs)
  current (whole f) pre e u m h z c s [] l g = absurd (omega arith)
  current (whole {b} {q} f) pre e u m h z c s (false ∷ []) l g = unfold parts heard in
      last_lost (length pre) m h z (bit_or h (q * 2 ^ b) ≡ r.groups) (one_longer S pre (1 + q * 2 ^ b) e) s g
  current (whole {b} {q} f) pre e u m h z c s (true ∷ []) l g = unfold parts heard in last_arrived b q m h z c f
  current (whole f) pre e u m h z c s (x ∷ y ∷ bs) l g = absurd (omega arith)
  current (more d p f k) pre e u m h z c s [] l g = absurd (omega arith)
  current (more {b} {q} {ss} d p f k) pre e u m h z c s (false ∷ bs) l g =
      part_lost b q d ss f (cuts_some k) bs (suc_inj l) m h z (bit_or h (q / 2 ^ d * 2 ^ (d + b)) ≡ r.groups) (bit_or h (q * 2 ^ b) ≡ r.groups)
      (current k (pre ++ (q % 2 ^ d * 2 ^ b ∷ [])) (snoc_split S pre (q % 2 ^ d * 2 ^ b) ss e) (below_next b q d pre u) (suc m) h z (held_lost r b q h z c d)
      (lose pre (q % 2 ^ d * 2 ^ b) m S h z s) bs (suc_inj l) (λ i. gap_on (length S) m bs (g i)))
  current (more {b} {q} {ss} d p f k) pre e u m h z c s (true ∷ bs) l g =
      part_joined b q d ss f (cuts_some k) bs (suc_inj l) m h z c
      (current k (pre ++ (q % 2 ^ d * 2 ^ b ∷ [])) (snoc_split S pre (q % 2 ^ d * 2 ^ b) ss e) (below_next b q d pre u) 0 (bit_or h (q % 2 ^ d * 2 ^ b))
      (with_numbers r (q % 2 ^ d * 2 ^ b) z) (held_next r b q h z c d)
      (since_next S b q d pre ss (bit_or h (q % 2 ^ d * 2 ^ b)) (with_numbers r (q % 2 ^ d * 2 ^ b) z) e (cuts_some k) u p
      (covered r b q h z c d)) bs (suc_inj l) (λ i. gap_over (length S) m bs (g i)))

  -- what is held is from the record before, and is dropped by the next part that arrives
  previous : {b q : ℕ} {ss : List ℕ} → Cuts r.kind (payload - flags_octets r.kind) b q ss → (pre : List ℕ) → S ≡ pre ++ ss → Below (2 ^ b) pre →
      (m n h : ℕ) (z : List ℕ) → Held r b q 0 zeros → 2 ≤ length S → suc n + m ≡ length S → length S < m + length ss → Under h (suc n) ss →
      (bs : List Bool) → length bs ≡ length ss → Gaps (length S) m bs →
      Outcome r (bit_or 0 (q * 2 ^ b) ≡ r.groups) S m bs (heard collector (holding r.kind (Fixed r.groups) h z) (parts r ss) bs)
  previous (whole f) pre e u m n h z c two i j v bs l g = absurd (omega arith)
  previous (more d p f k) pre e u m n h z c two i j v [] l g = absurd (omega arith)
  previous (more {b} {q} {ss} d p f k) pre e u m zero h z c two i j v (false ∷ bs) l g =
      absurd (let o : suc m < length S = gap_less (length S) m bs g in omega arith)
  previous (more {b} {q} {ss} d p f k) pre e u m (suc n) h z c two i j v (false ∷ bs) l g =
      part_lost b q d ss f (cuts_some k) bs (suc_inj l) m h z (bit_or 0 (q / 2 ^ d * 2 ^ (d + b)) ≡ r.groups) (bit_or 0 (q * 2 ^ b) ≡ r.groups)
      (previous k (pre ++ (q % 2 ^ d * 2 ^ b ∷ [])) (snoc_split S pre (q % 2 ^ d * 2 ^ b) ss e) (below_next b q d pre u) (suc m) n h z
      (held_lost r b q 0 zeros c d) two (omega arith) (omega arith) (under_tail h (suc n) (q % 2 ^ d * 2 ^ b) ss v) bs (suc_inj l) (gap_on (length S) m bs g))
  previous (more {b} {q} {ss} d p f k) pre e u m n h z c two i j v (true ∷ bs) l g =
      part_renewed b q d ss f (cuts_some k) bs (suc_inj l) m h z c p (under_head h n (q % 2 ^ d * 2 ^ b) ss v)
      (current k (pre ++ (q % 2 ^ d * 2 ^ b ∷ [])) (snoc_split S pre (q % 2 ^ d * 2 ^ b) ss e) (below_next b q d pre u) 0 (q % 2 ^ d * 2 ^ b)
      (with_numbers r (q % 2 ^ d * 2 ^ b) zeros) (held_next r b q 0 zeros c d)
      (since_next S b q d pre ss (q % 2 ^ d * 2 ^ b) (with_numbers r (q % 2 ^ d * 2 ^ b) zeros) e (cuts_some k) u p
      (le_refl (q % 2 ^ d * 2 ^ b))) bs (suc_inj l) (λ t. gap_over (length S) m bs g))

-- a whole record
module _ (r : Sent) (payload : ℕ) (least : 20 ≤ payload) (most : payload ≤ 512) (m h : ℕ) (z : List ℕ) (bs : List Bool) where
  pub one_record : Between m (sets payload r) h z → length bs ≡ length (sets payload r) →
      (2 ≤ length (sets payload r) → Gaps (length (sets payload r)) m bs) →
      Outcome r (bit_or 0 (r.groups / 2 * 2 ^ 1) ≡ r.groups) (sets payload r) m bs
      (heard collector (holding r.kind (Fixed r.groups) h z) (parts r (sets payload r)) bs)
  one_record (empty e f) l g =
      rw (e, f) (current r payload least most (sets payload r) (record_cuts r payload least) [] refl (unfold Below in tt) m 0 zeros
      (held_none r) (nothing refl refl) bs l g)
  one_record (stale two one n i v) l g =
      previous r payload least most (sets payload r) (record_cuts r payload least) [] refl (unfold Below in tt) m n h z
      (held_none r) two i (omega arith) v bs l (g two)
