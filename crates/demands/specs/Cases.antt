-- "Numbers to hold against the code": all cases marked P, those of the record layer and that of the control point, as one table.
use Rattle.std.specs.Prelude.{ℕ, ◌≤◌, ◌≡◌, true, List, [], ◌∷◌, map, ℤ, negsuc, length, take}
use Rattle.record.specs.declared.record.Record.{Record}
use Rattle.record.specs.Groups.{known, listed, flags_octets}
use Rattle.record.specs.Octets.{number, signed}
use Rattle.record.specs.Answer.{refused, given}
use Rattle.record.specs.Record.{well_formed}
use Rattle.record.specs.Split.{split_of, lent_after}
use Rattle.demands.specs.Behaviour.{each}
use Rattle.demands.specs.Control.Cases as Control

pub data Case : Type 0 where
  -- "All groups present": kind, its groups, payload and direction; the parts' lengths and flags
  parts : ℕ → ℕ → ℕ → ℕ → List ℕ → List (List ℕ) → Case
  -- a payload, and the refusal
  payload : ℕ → ℕ → Case
  -- two octets and their s16, three octets and their u24
  s16 : List ℕ → ℤ → Case
  u24 : List ℕ → ℕ → Case
  -- calls from opening on, and the answer to the last
  calls : Control.Case → Case

-- what a case says about splitting, reading numbers and calling. A row of the first table says: for every well-formed record of the kind with these
-- groups and this direction, and every lent buffer of 512 octets or more, `split` answers part by part with these lengths and this number of parts;
-- there is no further part; and each time the lent octets begin with these flags
abbrev pub Holds : Case → Type 0
Holds (parts kind groups p direction lengths flags) =
    (listed kind ≡ groups) ×
    ((r : Record) → well_formed r ≡ true → r.kind ≡ kind → r.groups ≡ groups → r.direction ≡ direction → (out : List ℕ) → 512 ≤ length out →
    (each 0 (length lengths) (λ i. split_of r p i (length out)) ≡ map (λ n. given (record { length = n; parts = length lengths })) lengths) ×
    (split_of r p (length lengths) (length out) ≡ refused 15) ×
    (each 0 (length lengths) (λ i. take (flags_octets kind) (lent_after r p i out)) ≡ flags))
Holds (payload p n) = (r : Record) (i lent : ℕ) → known r.kind ≡ true → split_of r p i lent ≡ refused n
Holds (s16 o z) = signed (number 2 o) ≡ z
Holds (u24 o x) = number 3 o ≡ x
Holds (calls c) = Control.answer_to Control.console c.calls ≡ c.expected

abbrev pub cases : List Case
cases =
    parts 1 0x1FFE 20 0 (17 ∷ 19 ∷ []) ((0x7F ∷ 0x00 ∷ []) ∷ (0x80 ∷ 0x1F ∷ []) ∷ []) ∷
    parts 2 0x7FFE 20 1 (18 ∷ 20 ∷ 9 ∷ []) ((0x3F ∷ 0x80 ∷ 0x00 ∷ []) ∷ (0xC1 ∷ 0x9F ∷ 0x00 ∷ []) ∷ (0x00 ∷ 0xE0 ∷ 0x00 ∷ []) ∷ []) ∷
    parts 3 0x1FE 20 0 (19 ∷ 6 ∷ []) ((0xFF ∷ 0x01 ∷ []) ∷ (0x00 ∷ 0x00 ∷ []) ∷ []) ∷
    parts 4 0x3FE 20 0 (19 ∷ 6 ∷ []) ((0xFF ∷ 0x01 ∷ []) ∷ (0x00 ∷ 0x02 ∷ []) ∷ []) ∷
    parts 5 0x1FFE 20 0 (16 ∷ 16 ∷ []) ((0xFF ∷ 0x00 ∷ []) ∷ (0x00 ∷ 0x1F ∷ []) ∷ []) ∷
    parts 6 0x1FFE 20 0 (17 ∷ 15 ∷ []) ((0xFF ∷ 0x00 ∷ []) ∷ (0x00 ∷ 0x1F ∷ []) ∷ []) ∷
    parts 6 0x1FFE 29 0 (28 ∷ 4 ∷ []) ((0xFF ∷ 0x1F ∷ []) ∷ (0x00 ∷ 0x00 ∷ []) ∷ []) ∷
    parts 6 0x1FFE 30 0 (30 ∷ []) ((0xFE ∷ 0x1F ∷ []) ∷ []) ∷
    payload 19 12 ∷
    payload 513 12 ∷
    s16 (0xFF ∷ 0xFF ∷ []) (negsuc 0) ∷
    s16 (0x00 ∷ 0x80 ∷ []) (negsuc 32767) ∷
    u24 (0xFF ∷ 0xFF ∷ 0xFF ∷ []) 16777215 ∷
    calls Control.second_start ∷ []

abbrev pub Every : List Case → Type 0
Every [] = Unit {0}
Every (c ∷ cs) = Holds c × Every cs
