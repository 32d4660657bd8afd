-- Collecting, by document 01's rules.
use Rattle.std.specs.Prelude.{ℕ, zero, suc, ◌*◌, ◌/◌, ◌%◌, Bool, true, false, cond, not, List, eqb, leb, replicate, Result, Ok, Err}
use Rattle.std.specs.Int.Bits.{bit_and, bit_or}
use Rattle.record.specs.declared.notification.Part.{Part}
use Rattle.record.specs.declared.record.Record.{Record}
use Rattle.record.specs.Answer.{Answer, given, provided}
use Rattle.record.specs.Groups.{known, listed, within}
use Rattle.record.specs.Notification.{part_of, joined}
use Rattle.record.specs.Record.{of_wire}
use Rattle.record.specs.declared.refusal.Refusal.{Refusal}
use Rattle.record.specs.declared.refusal.Refusal.TheVariants.{UnknownKind, ToldSetUnlisted}
use Rattle.record.specs.Refusal.{number_of}
use Rattle.service.specs.declared.collector.Told.{Told}
use Rattle.service.specs.declared.collector.Told.TheVariants.{Open, Fixed}
use Rattle.service.specs.declared.collector.Collection.{Collection}
use Rattle.service.specs.declared.collector.Opened.{Opened}
use Rattle.service.specs.declared.collector.Collected.{Collected}
use Rattle.service.specs.declared.collector.Collected.TheVariants as answers

-- what an answer means: waiting, a record, or document 01's number of a refusal; and whether held groups were dropped unused
pub data Said : Type 0 where
  waiting : Bool → Said
  handed : Record → Bool → Said
  refused : ℕ → Bool → Said

abbrev pub meant : Collected → Said
meant (answers.Waiting d) = waiting d
meant (answers.Record r d) = handed r d
meant (answers.Refused x d) = refused (number_of x) d

abbrev pub meant_opening : Opened → Answer Collection
meant_opening r = opened r.answer
  where
    opened : Result (Unit {0}) Refusal → Answer Collection
    opened (Ok done) = given r.collection
    opened (Err x) = Answer.refused (number_of x)

-- an answer, and the collection after it
pub record Stepped : Type 0 where
  pub said : Said
  pub next : Collection

-- no numbers: one 0 for each field
abbrev pub zeros : List ℕ
zeros = replicate 31 0

abbrev pub collection : ℕ → Told → ℕ → List ℕ → Collection
collection kind told held numbers = record { kind = kind; told = told; held = held; numbers = numbers }

-- a collection that holds nothing
abbrev pub empty : ℕ → Told → Collection
empty kind told = collection kind told 0 zeros

-- the lowest group of a set, as a set, among the first n bits
unfoldable pub lowest : ℕ → ℕ → ℕ
lowest zero set = 0
lowest (suc n) set = cond (eqb (set % 2) 1) 1 (2 * lowest n (set / 2))

-- "Held groups are dropped, if open, when any of its groups is held; if fixed, when its lowest group is not above the highest held." "A part
-- that names no optional group drops nothing." On masks: a group is not above the highest held when its bit is at most the held set.
abbrev pub drops : Told → ℕ → ℕ → Bool
drops Open held groups = not (eqb (bit_and held groups) 0)
drops (Fixed told) held groups = cond (eqb groups 0) false (leb (lowest 15 groups) held)

-- "33: fixed: a group not in the told set"
abbrev pub outside : Told → ℕ → Bool
outside Open groups = false
outside (Fixed told) groups = not (within groups told)

-- "fixed, and the held set differs from the told set, refusal 34"
abbrev pub incomplete : Told → ℕ → Bool
incomplete Open held = false
incomplete (Fixed told) held = not (eqb held told)

module _ (c : Collection) where
  -- "10 to 22 leave the state unchanged.": here 11, for a collection made by hand with an unknown kind. "A refusal 30 to 34 leaves nothing held."
  abbrev pub after_refusal : ℕ → Collection
  after_refusal n = cond (leb n 22) c (empty c.kind c.told)

  -- "a refusal says yes exactly when any were held before it"
  abbrev pub refuses : ℕ → Stepped
  refuses n = record { said = refused n (not (eqb c.held 0)); next = after_refusal n }

  -- "Its groups join the held ones. With More Data 1 the answer is "waiting"." "With More Data 0: .. refusal 34; otherwise the record, with the last
  -- part's direction. Nothing is held after either."
  unfoldable pub joins : Part → List ℕ → Bool → Stepped
  joins p s dropped =
      let held : ℕ = bit_or (cond dropped 0 c.held) p.groups in
      let v : List ℕ = joined c.kind s (cond dropped zeros c.numbers) in
      cond p.last
      (cond (incomplete c.told held) (refuses 34)
      (record { said = handed (of_wire c.kind held p.direction v) dropped; next = empty c.kind c.told }))
      (record { said = waiting dropped; next = collection c.kind c.told held v })

  -- what a collection answers to a part that the record layer has read: 33, then the rules
  abbrev pub takes : Part → List ℕ → Stepped
  takes p s = cond (outside c.told p.groups) (refuses 33) (joins p s (drops c.told c.held p.groups))

  -- what a collection answers to a notification: 11 and 30 to 32 as the record layer judges them, then as above
  abbrev pub answers_to : Answer Part → List ℕ → Stepped
  answers_to (Answer.refused n) s = refuses n
  answers_to (given p) s = takes p s

-- the told set has only bits listed for the kind
abbrev pub told_known : ℕ → Told → Bool
told_known kind Open = true
told_known kind (Fixed set) = within set (listed kind)

-- "opening a collection 11, 35", in words of the code
abbrev pub opening : ℕ → Told → Result (Unit {0}) Refusal
opening kind told = cond (known kind) (cond (told_known kind told) (Ok tt) (Err ToldSetUnlisted)) (Err UnknownKind)

-- "opening a collection 11, 35": a collection that holds nothing
unfoldable pub opens : ℕ → Told → Answer Collection
opens kind told = provided (known kind) 11 (provided (told_known kind told) 35 (given (empty kind told)))

-- what a collection answers to a notification, and the collection after it
unfoldable pub collect : Collection → List ℕ → Stepped
collect c s = answers_to c (part_of c.kind s) s
