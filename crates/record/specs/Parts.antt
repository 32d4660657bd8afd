-- What it means that a list of sets is the list of a record's parts.
use Rattle.std.specs.Prelude.{ℕ, suc, ◌+◌, ◌-◌, ◌%◌, ◌^◌, ◌<◌, ◌≤◌, ◌≡◌, true, List, [], ◌∷◌, eqb, length, get_or}
use Rattle.record.specs.Groups.{has, flags_octets, set_length, optional}

-- the sets of the parts of a record with these groups, at a payload: bit 0 stands for the main group
pub record PartsOf (kind groups payload : ℕ) (sets : List ℕ) : Type 0 where
  -- there is at least one, and the last one alone has the main group
  pub some : 0 < length sets
  pub main : (i : ℕ) → i < length sets → has (get_or sets i 0) 0 ≡ eqb (suc i) (length sets)
  -- all but the last are not empty
  pub filled : (i : ℕ) → suc i < length sets → 0 < get_or sets i 0
  -- they are disjoint and ascending: a group of one is below every optional group of a later one
  pub ascending : (i j x y : ℕ) → i < j → j < length sets → has (get_or sets i 0) x ≡ true → has (optional (get_or sets j 0)) y ≡ true → x < y
  -- together they are the record's groups
  pub within : (i x : ℕ) → has (get_or sets i 0) x ≡ true → has (1 + groups) x ≡ true
  pub together : (x : ℕ) → has (1 + groups) x ≡ true → (i : ℕ) × (i < length sets) × (has (get_or sets i 0) x ≡ true)
  -- and each fits the payload
  pub fit : (i : ℕ) → i < length sets → flags_octets kind + set_length kind (get_or sets i 0) ≤ payload

-- The same in document 01's words, where `left` is the set of remaining groups, and a run of the lowest of them is those below some bit: "While
-- flags, main group and all remaining optional groups don't fit in one payload, a part with More Data 1 is sent holding the longest run of the lowest
-- remaining groups that fits. Then one part with More Data 0 holds the main group and what remains." The room is the payload without the flags.
pub data Divided (kind room : ℕ) : ℕ → List ℕ → Type 0 where
  final : {left : ℕ} → set_length kind (1 + left) ≤ room → Divided kind room left ((1 + left) ∷ [])
  one_more : {left : ℕ} {rest : List ℕ} (n : ℕ) → room < set_length kind (1 + left) → set_length kind (left % 2 ^ n) ≤ room →
      ((m : ℕ) → set_length kind (left % 2 ^ m) ≤ room → left % 2 ^ m ≤ left % 2 ^ n) →
      Divided kind room (left - left % 2 ^ n) rest → Divided kind room left (left % 2 ^ n ∷ rest)
