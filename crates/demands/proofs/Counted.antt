-- Missing notifications: counting them, and what is held and answered meanwhile.
use Prim.Native.Nat.{ℕ, zero, suc, ◌+◌, ◌*◌, ◌%◌, ◌^◌, ◌<◌, ◌≤◌}
use mathlib.Core.Path.{◌≡◌, refl, sym, ap, ◌∙◌}
use mathlib.Core.Logic.{◌⊎◌}
use mathlib.Core.Bool.{Bool, true, false, true≢false}
use mathlib.Core.List.{List, [], ◌∷◌, ◌++◌, append_assoc}
use native.Mathlib.Omega.{arith}
use native.Mathlib.Nat.{mod-lt, mul-le-mul_right}
use lib.Pow.{pow_pos, pow_mono, shl_lt}
use lib.Bits.{bit_or, or_shifted_r}
use lib.ListN.{length, length-append}
use Rattle.record.proofs.Cuts.{Cuts, whole, more}
use Rattle.service.specs.declared.collector.Told.TheVariants.{Fixed}
use Rattle.service.specs.declared.collector.Collection.{Collection}
use Rattle.service.specs.Collector.{Said, waiting, zeros}
use Rattle.demands.specs.Demands.{Waits, Hands, Incomplete, all_true, last_of, Gaps}
use Rattle.demands.proofs.Taken.{Sent, holding}
use Rattle.demands.proofs.Held.{Held}

-- ---- counting what is missing

-- how many are missing in a row at the end of arrivals, if m are missing just before them
unfoldable pub after : ℕ → List Bool → ℕ
after m [] = m
after m (true ∷ bs) = after 0 bs
after m (false ∷ bs) = after (suc m) bs

pub gaps_first : (k m : ℕ) (bs ys : List Bool) → Gaps k m (bs ++ ys) → Gaps k m bs
unfolding Gaps
gaps_first k m [] ys g = tt
gaps_first k m (true ∷ bs) ys g = gaps_first k 0 bs ys g
gaps_first k m (false ∷ bs) ys g = (g.0, gaps_first k (suc m) bs ys g.1)

pub gaps_rest : (k m : ℕ) (bs ys : List Bool) → Gaps k m (bs ++ ys) → Gaps k (after m bs) ys
unfolding Gaps after
gaps_rest k m [] ys g = g
gaps_rest k m (true ∷ bs) ys g = gaps_rest k 0 bs ys g
gaps_rest k m (false ∷ bs) ys g = gaps_rest k (suc m) bs ys g.1

-- ---- lists of sets

-- the first n sets are at most h, as numbers
unfoldable pub Under : ℕ → ℕ → List ℕ → Type 0
Under h zero ss = Unit {0}
Under h (suc n) [] = Unit {0}
Under h (suc n) (s ∷ ss) = (s ≤ h) × Under h n ss

-- the sets are below x, as numbers
unfoldable pub Below : ℕ → List ℕ → Type 0
Below x [] = Unit {0}
Below x (s ∷ ss) = (s < x) × Below x ss

below_mono : (x y : ℕ) (ss : List ℕ) → x ≤ y → Below x ss → Below y ss
unfolding Below
below_mono x y [] h b = tt
below_mono x y (s ∷ ss) h b = ((let k : s < x = b.0 in omega arith), below_mono x y ss h b.1)

below_snoc : (x s : ℕ) (ss : List ℕ) → Below x ss → s < x → Below x (ss ++ (s ∷ []))
unfolding Below
below_snoc x s [] b h = (h, tt)
below_snoc x s (t ∷ ss) b h = (b.0, below_snoc x s ss b.1 h)

under_all : (x h s : ℕ) (pre ss : List ℕ) → Below x pre → x ≤ suc h → s ≤ h → Under h (suc (length pre)) (pre ++ s ∷ ss)
unfolding Below Under
under_all x h s [] ss b l k = (k, tt)
under_all x h s (t ∷ pre) ss b l k = ((let m : t < x = b.0 in omega arith), under_all x h s pre ss b.1 l k)

pub cuts_some : {kind room b q : ℕ} {ss : List ℕ} → Cuts kind room b q ss → 0 < length ss
cuts_some (whole f) = omega arith
cuts_some (more d p f k) = omega arith

-- ---- what is held between records, with m missing: nothing, or the sets up to the last that arrived
pub data Between (m : ℕ) (S : List ℕ) (h : ℕ) (z : List ℕ) : Type 0 where
  empty : h ≡ 0 → z ≡ zeros → Between m S h z
  stale : 2 ≤ length S → 1 ≤ m → (n : ℕ) → suc n + m ≡ length S → Under h (suc n) S → Between m S h z

-- what is held within a record, after l of its parts
pub data Since (l m : ℕ) (S : List ℕ) (h : ℕ) (z : List ℕ) : Type 0 where
  nothing : h ≡ 0 → z ≡ zeros → Since l m S h z
  some : 2 ≤ length S → (n : ℕ) → n + m ≡ l → Under h n S → Since l m S h z

-- ---- the answers to the parts of one record
pub record Ending (r : Sent) (full : Type 0) (bs : List Bool) (said : List Said) : Type 0 where
  pub before : List Said
  pub final : Said
  pub are : said ≡ before ++ (final ∷ [])
  pub waits : Waits before
  pub either : Hands r.whole final ⊎ Incomplete final
  pub sure : full → all_true bs ≡ true → Hands r.whole final

pub record Outcome (r : Sent) (full : Type 0) (S : List ℕ) (m : ℕ) (bs : List Bool) (x : List Said × Collection) : Type 0 where
  pub quiet : last_of bs ≡ false → Waits x.0
  pub loud : last_of bs ≡ true → Ending r full bs x.0
  pub held_after : ℕ
  pub numbers_after : List ℕ
  pub next_is : x.1 ≡ holding r.kind (Fixed r.groups) held_after numbers_after
  pub between : Between (after m bs) S held_after numbers_after

pub last_cons : (b : Bool) (bs : List Bool) → 0 < length bs → last_of (b ∷ bs) ≡ last_of bs
unfolding last_of
last_cons b [] h = absurd (omega arith)
last_cons b (x ∷ bs) h = refl

module _ (r : Sent) (full full' : Type 0) (S : List ℕ) (m : ℕ) (bs : List Bool) (x : List Said × Collection) (h : 0 < length bs) where
  pub lost : Outcome r full S (suc m) bs x → Outcome r full' S m (false ∷ bs) x
  unfolding after all_true
  lost o = record {
    quiet = λ e. o.quiet (sym (last_cons false bs h) ∙ e);
    loud = λ e. let y : Ending r full bs x.0 = o.loud (sym (last_cons false bs h) ∙ e) in
        record { before = y.before; final = y.final; are = y.are; waits = y.waits; either = y.either; sure = λ f a. absurd (true≢false (sym a)) };
    held_after = o.held_after;
    numbers_after = o.numbers_after;
    next_is = o.next_is;
    between = o.between;
  }

  pub arrived : (d : Bool) → (full' → full) → Outcome r full S 0 bs x → Outcome r full' S m (true ∷ bs) (waiting d ∷ x.0, x.1)
  unfolding after all_true Waits
  arrived d g o = record {
    quiet = λ e. o.quiet (sym (last_cons true bs h) ∙ e);
    loud = λ e. let y : Ending r full bs x.0 = o.loud (sym (last_cons true bs h) ∙ e) in
        record {
          before = waiting d ∷ y.before;
          final = y.final;
          are = ap (λ (l : List Said). waiting d ∷ l) y.are;
          waits = y.waits;
          either = y.either;
          sure = λ f a. y.sure (g f) a;
        };
    held_after = o.held_after;
    numbers_after = o.numbers_after;
    next_is = o.next_is;
    between = o.between;
  }

pub snoc_split : (S pre : List ℕ) (t : ℕ) (ss : List ℕ) → S ≡ pre ++ t ∷ ss → S ≡ (pre ++ (t ∷ [])) ++ ss
snoc_split S pre t ss e = e ∙ sym (append_assoc pre (t ∷ []) ss)

pub one_longer : (S pre : List ℕ) (t : ℕ) → S ≡ pre ++ (t ∷ []) → suc (length pre) ≡ length S
one_longer S pre t e = let j : length S ≡ length pre + 1 = ap length e ∙ length-append pre (t ∷ []) in omega arith

pub lose : (pre : List ℕ) (t m : ℕ) (S : List ℕ) (h : ℕ) (z : List ℕ) → Since (length pre) m S h z → Since (length (pre ++ (t ∷ []))) (suc m) S h z
lose pre t m S h z (nothing e f) = nothing e f
lose pre t m S h z (some k n e u) = some k n (let j : length (pre ++ (t ∷ [])) ≡ length pre + 1 = length-append pre (t ∷ []) in omega arith) u

pub gap_less : (k m : ℕ) (bs : List Bool) → Gaps k m (false ∷ bs) → suc m < k
unfolding Gaps
gap_less k m bs g = g.0

pub gap_on : (k m : ℕ) (bs : List Bool) → Gaps k m (false ∷ bs) → Gaps k (suc m) bs
unfolding Gaps
gap_on k m bs g = g.1

pub gap_over : (k m : ℕ) (bs : List Bool) → Gaps k m (true ∷ bs) → Gaps k 0 bs
unfolding Gaps
gap_over k m bs g = g

pub under_head : (h n s : ℕ) (ss : List ℕ) → Under h (suc n) (s ∷ ss) → s ≤ h
unfolding Under
under_head h n s ss u = u.0

pub under_tail : (h n s : ℕ) (ss : List ℕ) → Under h (suc n) (s ∷ ss) → Under h n ss
unfolding Under
under_tail h n s ss u = u.1

pub covered : (r : Sent) (b q h : ℕ) (z : List ℕ) → Held r b q h z → (d : ℕ) → q % 2 ^ d * 2 ^ b ≤ bit_or h (q % 2 ^ d * 2 ^ b)
covered r b q h z c d = let j : bit_or h (q % 2 ^ d * 2 ^ b) ≡ q % 2 ^ d * 2 ^ b + h = or_shifted_r (q % 2 ^ d) b h c.below in omega arith

pub below_next : (b q d : ℕ) (pre : List ℕ) → Below (2 ^ b) pre → Below (2 ^ (d + b)) (pre ++ (q % 2 ^ d * 2 ^ b ∷ []))
below_next b q d pre u =
    below_snoc (2 ^ (d + b)) (q % 2 ^ d * 2 ^ b) pre (below_mono (2 ^ b) (2 ^ (d + b)) pre (pow_mono (omega arith)) u) (shl_lt d b (mod-lt q (pow_pos d)))

pub since_next : (S : List ℕ) (b q d : ℕ) (pre ss : List ℕ) (h : ℕ) (z : List ℕ) → S ≡ pre ++ q % 2 ^ d * 2 ^ b ∷ ss → 0 < length ss → Below (2 ^ b) pre →
    0 < q % 2 ^ d → q % 2 ^ d * 2 ^ b ≤ h → Since (length (pre ++ (q % 2 ^ d * 2 ^ b ∷ []))) 0 S h z
since_next S b q d pre ss h z e some_left u p l =
    let t : ℕ = q % 2 ^ d * 2 ^ b in
    let k : 1 * 2 ^ b ≤ t = mul-le-mul_right (2 ^ b) p in
    let i : length S ≡ length pre + suc (length ss) = ap length e ∙ length-append pre (t ∷ ss) in
    let j : length (pre ++ (t ∷ [])) ≡ length pre + 1 = length-append pre (t ∷ []) in
    some (omega arith) (suc (length pre)) (omega arith) (rw e (under_all (2 ^ b) h t pre ss u (omega arith) l))
