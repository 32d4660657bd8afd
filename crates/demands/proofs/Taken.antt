-- What a collection does with one part of a well-formed record.
use Prim.Native.Nat.{ℕ, ◌+◌, ◌-◌, ◌%◌, ◌≤◌}
use mathlib.Core.Path.{◌≡◌, refl, ap, ◌∙◌}
use mathlib.Core.Bool.{Bool, true, false, cond}
use mathlib.Core.List.{List, [], ◌∷◌}
use native.Mathlib.Omega.{arith}
use lib.Dec.{eqb}
use lib.Bits.{bit_or}
use Rattle.record.specs.declared.record.Record.{Record}
use Rattle.record.specs.declared.notification.Part.{Part}
use Rattle.record.specs.Layout.{layout}
use Rattle.record.specs.Groups.{named, flags_octets, set_length, optional}
use Rattle.record.specs.Answer.{Answer}
use Rattle.record.specs.Notification.{joined}
use Rattle.record.specs.Record.{of_wire, wire, kept, Formed}
use Rattle.record.specs.Split.{octets}
use Rattle.service.specs.declared.collector.Told.{Told}
use Rattle.service.specs.declared.collector.Collection.{Collection}
use Rattle.service.specs.Collector.{waiting, handed, zeros, drops, outside, incomplete, refuses, joins, answers_to, collect}
use Rattle.record.proofs.Sets.{Sub}
use Rattle.record.proofs.Tables.{flags_most}
use Rattle.record.proofs.Parts.{part_again, values_again}
use Rattle.record.proofs.Records.{formed_facts, record_again}
use Rattle.demands.specs.Demands.{Good}

-- a well-formed record, by its wire numbers
pub record Sent : Type 0 where
  pub kind : ℕ
  pub groups : ℕ
  pub direction : ℕ
  pub numbers : List ℕ
  pub formed : Formed kind groups direction numbers
  pub whole : Record
  pub again : of_wire kind groups direction numbers ≡ whole

abbrev pub sent : (r : Record) → Good r → Sent
sent r g = record {
  kind = r.kind;
  groups = r.groups;
  direction = r.direction;
  numbers = wire r;
  formed = formed_facts r.kind r.groups r.direction (wire r) g.formed refl;
  whole = r;
  again = record_again r g.typed;
}

-- its part with a set of groups (bit 0 the main one), and its parts with some sets
abbrev pub part : Sent → ℕ → List ℕ
part r s = octets r.kind s r.direction r.numbers

unfoldable pub parts : Sent → List ℕ → List (List ℕ)
parts r [] = []
parts r (s ∷ ss) = part r s ∷ parts r ss

-- other numbers, with those of a set's groups taken from the record
abbrev pub with_numbers : Sent → ℕ → List ℕ → List ℕ
with_numbers r s z = kept (named s (layout r.kind)) r.numbers z

-- a collection that holds these groups and numbers
abbrev pub holding : ℕ → Told → ℕ → List ℕ → Collection
holding k t h z = record { kind = k; told = t; held = h; numbers = z }

-- what is done with a part, from what the record layer says about it
module _ (k : ℕ) (t : Told) (h s d : ℕ) (z o v : List ℕ) where
  joins_on : joined k o z ≡ v → drops t h s ≡ false →
      joins (holding k t h z) (record { groups = s; last = false; direction = d }) o (drops t h s) ≡
      record { said = waiting false; next = holding k t (bit_or h s) v }
  unfolding joins
  joins_on e f = rw (f, e)

  joins_anew : joined k o zeros ≡ v → drops t h s ≡ true →
      joins (holding k t h z) (record { groups = s; last = false; direction = d }) o (drops t h s) ≡
      record { said = waiting true; next = holding k t s v }
  unfolding joins
  joins_anew e f = rw (f, e)

  joins_last : joined k o z ≡ v → drops t h s ≡ false →
      joins (holding k t h z) (record { groups = s; last = true; direction = d }) o (drops t h s) ≡
      cond (incomplete t (bit_or h s)) (refuses (holding k t h z) 34)
      (record { said = handed (of_wire k (bit_or h s) d v) false; next = holding k t 0 zeros })
  unfolding joins
  joins_last e f = rw (f, e)

-- a part, by its set of groups
module _ (r : Sent) (s : ℕ) (sub : Sub s (1 + r.groups)) (payload : ℕ) (low : 20 ≤ payload) (high : payload ≤ 512)
    (fit : set_length r.kind s ≤ payload - flags_octets r.kind) (t : Told) (h g : ℕ) (z : List ℕ) (same : optional s ≡ g) (o : outside t g ≡ false) where
  read_as : (l : Bool) → eqb (s % 2) 1 ≡ l →
      collect (holding r.kind t h z) (part r s) ≡
      joins (holding r.kind t h z) (record { groups = g; last = l; direction = r.direction }) (part r s) (drops t h g)
  unfolding collect
  read_as l e =
      let f : flags_octets r.kind ≤ 3 = flags_most r.kind in
      ap (λ (a : Answer Part). answers_to (holding r.kind t h z) a (part r s))
      (part_again r.kind r.groups r.direction r.numbers r.formed s sub (omega arith))
      ∙ rw (same, e, o)

  numbers_as : (y : List ℕ) → joined r.kind (part r s) y ≡ with_numbers r s y
  numbers_as = values_again r.kind r.groups r.direction r.numbers r.formed s sub

  -- one that is not the last, and drops nothing
  pub goes : eqb (s % 2) 1 ≡ false → drops t h g ≡ false →
      collect (holding r.kind t h z) (part r s) ≡ record { said = waiting false; next = holding r.kind t (bit_or h g) (with_numbers r s z) }
  goes e d = read_as false e ∙ joins_on r.kind t h g r.direction z (part r s) (with_numbers r s z) (numbers_as z) d

  -- one that drops what is held
  pub renews : eqb (s % 2) 1 ≡ false → drops t h g ≡ true →
      collect (holding r.kind t h z) (part r s) ≡ record { said = waiting true; next = holding r.kind t g (with_numbers r s zeros) }
  renews e d = read_as false e ∙ joins_anew r.kind t h g r.direction z (part r s) (with_numbers r s zeros) (numbers_as zeros) d

  -- the last one
  pub ends : eqb (s % 2) 1 ≡ true → drops t h g ≡ false →
      collect (holding r.kind t h z) (part r s) ≡
      cond (incomplete t (bit_or h g)) (refuses (holding r.kind t h z) 34)
      (record { said = handed (of_wire r.kind (bit_or h g) r.direction (with_numbers r s z)) false; next = holding r.kind t 0 zeros })
  ends e d = read_as true e ∙ joins_last r.kind t h g r.direction z (part r s) (with_numbers r s z) (numbers_as z) d
