-- Demands 2 and 3, each a predicate on any splitter and any collector, so that a wrong one can be tried against it.
use Rattle.std.specs.Prelude.{ℕ, suc, ◌<◌, ◌≤◌, ◌≡◌, ◌⊎◌, Bool, true, false, cond, List, [], ◌∷◌, ◌++◌, length, replicate}
use Rattle.record.specs.declared.record.Record.{Record}
use Rattle.record.specs.Answer.{given}
use Rattle.record.specs.Octets.{over}
use Rattle.record.specs.Record.{well_formed, Typed}
use Rattle.record.specs.Split.{payload_known, sets_of, part_octets}
use Rattle.service.specs.declared.collector.Told.{Told}
use Rattle.service.specs.declared.collector.Told.TheVariants.{Open, Fixed}
use Rattle.service.specs.Collector.{Said, waiting, handed, refused}
use Rattle.demands.specs.Behaviour.{Splitter, Collector, pieces, heard, says}

-- a record that is well formed, each of its fields a value of its type, as in every record at run time
pub record Good (r : Record) : Type 0 where
  pub typed : Typed r
  pub formed : well_formed r ≡ true

-- each notification has n octets at most
unfoldable pub Short : ℕ → List (List ℕ) → Type 0
Short n [] = Unit {0}
Short n (s ∷ ss) = (length s ≤ n) × Short n ss

-- how many parts a record has at a payload, as document 01 splits it
abbrev pub count : Record → ℕ → ℕ
count r payload = length (sets_of r.kind r.groups payload)

-- ---- a collector "that holds nothing"

-- the states to which notifications lead from an opening
pub data Reached (c : Collector) (kind : ℕ) (told : Told) : c.State → Type 0 where
  at_first : Reached c kind told (c.opened kind told)
  then : {state : c.State} → Reached c kind told state → (s : List ℕ) → Reached c kind told (c.step state s).1

-- it was just opened, or has just answered with a record or with a refusal: "Nothing is held after either." "A refusal 30 to 34 leaves nothing held."
pub data Empty (c : Collector) (kind : ℕ) (told : Told) : c.State → Type 0 where
  opened : Empty c kind told (c.opened kind told)
  after_record : {state : c.State} → Reached c kind told state → (s : List ℕ) (r : Record) (d : Bool) → (c.step state s).0 ≡ handed r d →
      Empty c kind told (c.step state s).1
  after_refusal : {state : c.State} → Reached c kind told state → (s : List ℕ) (n : ℕ) (d : Bool) → 30 ≤ n → n ≤ 34 →
      (c.step state s).0 ≡ refused n d → Empty c kind told (c.step state s).1

-- "of its kind (and set, where told)": told nothing, or the record's set
abbrev pub Suits : ℕ → Told → Type 0
Suits groups told = (told ≡ Open) ⊎ (told ≡ Fixed groups)

-- ---- demand 2

-- "The answer for part i, counted from 0, is its octets, its length and the number of parts; lent octets past the length stay.": every answer to a part
-- gives the number of parts, for every lent buffer that is large enough; and the octets are "a flags field, then the groups named by its bits, in
-- ascending bit order, least octet first", by document 01's layouts.
pub record Splits (s : Splitter) (payload : ℕ) (r : Record) : Type 0 where
  pub answers : (i : ℕ) → i < count r payload → (out : List ℕ) → length (part_octets r payload i) ≤ length out →
      s.answer r payload i out ≡ given (record { length = length (part_octets r payload i); parts = count r payload })
  pub leaves : (i : ℕ) → i < count r payload → (out : List ℕ) → length (part_octets r payload i) ≤ length out →
      s.left r payload i out ≡ over out (part_octets r payload i)
  pub short : Short payload (pieces s payload r)

-- "Records .. are those of Fitness Machine Service 1.0 with document 01's layouts and order. Any well-formed record, split at any payload from 20 to
-- 512 and collected by a collector of its kind (and set, where told) that holds nothing, comes back equal": every part but the last is answered
-- "waiting", the last with the record, and nothing was dropped.
pub record Demand2 (s : Splitter) (c : Collector) : Type 0 where
  pub splits : (payload : ℕ) → payload_known payload ≡ true → (r : Record) → Good r → Splits s payload r
  pub comes_back : (payload : ℕ) → payload_known payload ≡ true → (r : Record) → Good r → (told : Told) → Suits r.groups told →
      (state : c.State) → Empty c r.kind told state →
      (n : ℕ) × (says c state (pieces s payload r) ≡ replicate n (waiting false) ++ (handed r false ∷ []))

-- ---- demand 3

-- nothing is handed out and nothing is refused. Demand 3 asks only that nothing is handed out at such a notification; this asks more, that it is
-- answered "waiting", as our collector does: of a record of the told set it refuses no part except the last.
unfoldable pub Waits : List Said → Type 0
Waits [] = Unit {0}
Waits (waiting d ∷ said) = Waits said
Waits (handed r d ∷ said) = ⊥
Waits (refused n d ∷ said) = ⊥

-- the answer hands out the record; the answer refuses it as incomplete
abbrev pub Hands : Record → Said → Type 0
Hands r said = (d : Bool) × (said ≡ handed r d)

abbrev pub Incomplete : Said → Type 0
Incomplete said = (d : Bool) × (said ≡ refused 34 d)

unfoldable pub all_true : List Bool → Bool
all_true [] = true
all_true (b ∷ bs) = cond b (all_true bs) false

unfoldable pub last_of : List Bool → Bool
last_of [] = false
last_of (b ∷ []) = b
last_of (b ∷ b' ∷ bs) = last_of (b' ∷ bs)

-- for one record, which of its parts arrived and the answers to those: "at each last notification that arrives, hands out exactly the record it belongs
-- to or refuses as incomplete; it hands it out whenever all k arrived; at no other notification does it hand out anything"
abbrev pub Faithful : Record → List Bool → List Said → Type 0
Faithful r bs said =
    (last_of bs ≡ false → Waits said) ×
    (last_of bs ≡ true →
    (before : List Said) × (final : Said) × (said ≡ before ++ (final ∷ [])) × Waits before × (Hands r final ⊎ Incomplete final) × (all_true bs ≡ true → Hands r final))

-- "never k or more in a row"; c notifications are missing just before
unfoldable pub Gaps : ℕ → ℕ → List Bool → Type 0
Gaps k c [] = Unit {0}
Gaps k c (true ∷ bs) = Gaps k 0 bs
Gaps k c (false ∷ bs) = (suc c < k) × Gaps k (suc c) bs

unfoldable pub flat : List (List Bool) → List Bool
flat [] = []
flat (b ∷ bs) = b ++ flat bs

module _ (s : Splitter) (c : Collector) (payload : ℕ) where
  -- the same for one record after the other
  unfoldable pub AllFaithful : c.State → List Record → List (List Bool) → Type 0
  AllFaithful state [] bs = Unit {0}
  AllFaithful state (r ∷ rs) [] = Unit {0}
  AllFaithful state (r ∷ rs) (b ∷ bs) =
      let h : List Said × c.State = heard c state (pieces s payload r) b in
      Faithful r b h.0 × AllFaithful h.1 rs bs

-- "Well-formed records of one kind and set"
unfoldable pub Alike : ℕ → ℕ → List Record → Type 0
Alike kind groups [] = Unit {0}
Alike kind groups (r ∷ rs) = Good r × (r.kind ≡ kind) × (r.groups ≡ groups) × Alike kind groups rs

-- each list of arrivals has k entries
unfoldable pub Chunks : ℕ → List (List Bool) → Type 0
Chunks k [] = Unit {0}
Chunks k (b ∷ bs) = (length b ≡ k) × Chunks k bs

-- "split at one payload into k notifications each; whole notifications go missing, never k or more in a row when k ≥ 2; the rest arrive in order.
-- A collector freshly opened for that kind and set .."
pub record Demand3 (s : Splitter) (c : Collector) : Type 0 where
  pub takes : (kind groups payload : ℕ) → ℕ
  pub some : (payload : ℕ) → payload_known payload ≡ true → (r : Record) → Good r → 0 < length (pieces s payload r)
  pub taken : (payload : ℕ) → payload_known payload ≡ true → (r : Record) → Good r → length (pieces s payload r) ≡ takes r.kind r.groups payload
  pub holds : (kind groups payload : ℕ) → payload_known payload ≡ true → (rs : List Record) → Alike kind groups rs → (bs : List (List Bool)) →
      Chunks (takes kind groups payload) bs → (2 ≤ takes kind groups payload → Gaps (takes kind groups payload) 0 (flat bs)) →
      AllFaithful s c payload (c.opened kind (Fixed groups)) rs bs
