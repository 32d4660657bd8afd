-- What a worked case of collecting says: a collection, and for each notification the answer to it and the groups that are held after it.
use Rattle.std.specs.Prelude.{ℕ, ◌+◌, Bool, cond, List, [], ◌∷◌, map, get_or}
use Rattle.record.specs.declared.record.Record.{Record}
use Rattle.record.specs.Layout.{layout}
use Rattle.record.specs.Groups.{named}
use Rattle.record.specs.Record.{wire, well_formed}
use Rattle.service.specs.declared.collector.Collection.{Collection}
use Rattle.service.specs.declared.collector.Told.{Told}
use Rattle.service.specs.Collector.{Said, waiting, handed, refused, Stepped, empty, collect}

-- "waiting", a record with these groups, this direction and these values in wire order, or a refusal; and whether held groups were dropped
pub data Heard : Type 0 where
  waits : Bool → Heard
  hands : ℕ → ℕ → List ℕ → Bool → Heard
  refuses : ℕ → Bool → Heard

-- the wire numbers of a record's present fields; none if it is not well formed
abbrev pub values_in : Record → List ℕ
values_in r = cond (well_formed r) (map (λ row. get_or (wire r) row.1 0) (named (1 + r.groups) (layout r.kind))) []

abbrev pub heard : Said → Heard
heard (waiting d) = waits d
heard (handed r d) = hands r.groups r.direction (values_in r) d
heard (refused n d) = refuses n d

pub record Row : Type 0 where
  pub notification : List ℕ
  pub answer : Heard
  pub held : ℕ

infix 5 ◌answered◌holding◌
abbrev pub ◌answered◌holding◌ : List ℕ → Heard → ℕ → Row
◌answered◌holding◌ s a h = record { notification = s; answer = a; held = h }

pub record Case : Type 0 where
  pub start : Collection
  pub rows : List Row

-- a collection that was just opened, and its notifications in turn
abbrev pub opening : ℕ → Told → List Row → Case
opening kind told rows = record { start = empty kind told; rows = rows }

abbrev pub in_turn : Collection → List Row → List Row
in_turn c [] = []
in_turn c (r ∷ rows) =
    let x : Stepped = collect c r.notification in
    (r.notification answered heard x.said holding x.next.held) ∷ in_turn x.next rows

-- the rows that a case gives, to be compared with its own
abbrev pub found : Case → List Row
found k = in_turn k.start k.rows
