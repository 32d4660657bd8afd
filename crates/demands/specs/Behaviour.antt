-- What any splitter and any collector do, as a host sees it.
use Rattle.std.specs.Prelude.{ℕ, zero, suc, ◌≡◌, Bool, true, false, List, [], ◌∷◌, length, take, replicate}
use Rattle.record.specs.declared.record.Record.{Record}
use Rattle.record.specs.declared.split.Extent.{Extent}
use Rattle.record.specs.Answer.{Answer, refused, given}
use Rattle.record.specs.Split.{split_of, lent_after}
use Rattle.service.specs.declared.collector.Told.{Told}
use Rattle.service.specs.declared.collector.Collection.{Collection}
use Rattle.service.specs.Collector.{Said, collect, empty}

-- any splitter: for a record, a payload, a part number and lent octets, what it answers, and the lent octets afterwards
pub record Splitter : Type 0 where
  pub answer : Record → ℕ → ℕ → List ℕ → Answer Extent
  pub left : Record → ℕ → ℕ → List ℕ → List ℕ

-- any collector: its states, how it is opened, and what it answers to a notification, with the state afterwards
pub record Collector : Type 1 where
  pub State : Type 0
  pub opened : ℕ → Told → State
  pub step : State → List ℕ → Said × State

-- the buffer that a host lends
abbrev pub buffer : List ℕ
buffer = replicate 512 0

abbrev pub length_of : Answer Extent → ℕ
length_of (refused n) = 0
length_of (given e) = e.length

abbrev pub parts_of : Answer Extent → ℕ
parts_of (refused n) = 0
parts_of (given e) = e.parts

-- a list of n elements, from a function of the numbers from `from` on
unfoldable pub each : {A : Type 0} → ℕ → ℕ → (ℕ → A) → List A
each from zero f = []
each from (suc n) f = f from ∷ each (suc from) n f

module _ (s : Splitter) (payload : ℕ) (r : Record) where
  -- the notification that a host sends as part i
  abbrev pub piece : ℕ → List ℕ
  piece i = take (length_of (s.answer r payload i buffer)) (s.left r payload i buffer)

  -- the notifications of a record: as many as the answer to part 0 says
  abbrev pub pieces : List (List ℕ)
  pieces = each 0 (parts_of (s.answer r payload 0 buffer)) piece

module _ (c : Collector) where
  -- its answers to the notifications that arrive, and its state after them
  unfoldable pub heard : c.State → List (List ℕ) → List Bool → List Said × c.State
  heard state [] arrivals = ([], state)
  heard state (s ∷ ss) [] = ([], state)
  heard state (s ∷ ss) (false ∷ arrivals) = heard state ss arrivals
  heard state (s ∷ ss) (true ∷ arrivals) =
      let now : Said × c.State = c.step state s in
      let rest : List Said × c.State = heard now.1 ss arrivals in
      (now.0 ∷ rest.0, rest.1)

  -- its answers if all arrive
  unfoldable pub says : c.State → List (List ℕ) → List Said
  says state [] = []
  says state (s ∷ ss) =
      let now : Said × c.State = c.step state s in
      let rest : List Said = says now.1 ss in
      now.0 ∷ rest

-- ---- ours, as the contracts of the code state them

-- a splitter that meets the contract of `record::split::split`
pub record SplitsAsPromised (s : Splitter) : Type 0 where
  pub answers : (r : Record) (payload i : ℕ) (out : List ℕ) → s.answer r payload i out ≡ split_of r payload i (length out)
  pub leaves : (r : Record) (payload i : ℕ) (out : List ℕ) → s.left r payload i out ≡ lent_after r payload i out

-- a collector with the states of `service::collector`, from what it opens, what it answers and the state that is next
abbrev pub collector_of : (ℕ → Told → Collection) → (Collection → List ℕ → Said) → (Collection → List ℕ → Collection) → Collector
collector_of opened said next = record { State = Collection; opened = opened; step = λ c s. (said c s, next c s) }

-- one that meets the contracts of `service::collector::open` and `collect`
pub record CollectsAsPromised (opened : ℕ → Told → Collection) (said : Collection → List ℕ → Said) (next : Collection → List ℕ → Collection) : Type 0 where
  pub opens_so : (kind : ℕ) (told : Told) → opened kind told ≡ empty kind told
  pub says_so : (c : Collection) (s : List ℕ) → said c s ≡ (collect c s).said
  pub goes_on : (c : Collection) (s : List ℕ) → next c s ≡ (collect c s).next
