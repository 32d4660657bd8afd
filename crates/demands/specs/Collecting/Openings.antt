-- Openings: "opening a collection 11, 35"; "35: told set has a bit not listed for the kind". And a collection made by hand, of an unknown kind.
use Rattle.std.specs.Prelude.{ℕ, ◌^◌, true, List, [], ◌∷◌, map, set}
use Rattle.record.specs.Answer.{Answer, refused, given}
use Rattle.service.specs.declared.collector.Collection.{Collection}
use Rattle.service.specs.declared.collector.Told.{Told}
use Rattle.service.specs.declared.collector.Told.TheVariants.{Open, Fixed}
use Rattle.service.specs.Collector.{zeros, collection, empty, opens}
use Rattle.demands.specs.Collecting.Seen.{refuses, ◌answered◌holding◌, Case}

pub record Opening : Type 0 where
  pub kind : ℕ
  pub told : Told
  pub answer : Answer Collection

infix 5 ◌told◌gives◌
abbrev pub ◌told◌gives◌ : ℕ → Told → Answer Collection → Opening
◌told◌gives◌ k t a = record { kind = k; told = t; answer = a }

abbrev pub openings : List Opening
openings =
    (0 told Open gives refused 11) ∷
    (7 told Open gives refused 11) ∷
    (7 told Fixed 1 gives refused 11) ∷
    (6 told Fixed 1 gives refused 35) ∷
    (6 told Fixed (2 ^ 13) gives refused 35) ∷
    (2 told Fixed (2 ^ 15) gives refused 35) ∷
    (2 told Fixed (2 ^ 31) gives refused 35) ∷
    (1 told Fixed 0x3FFE gives refused 35) ∷
    (3 told Fixed 0x3FE gives refused 35) ∷
    (6 told Fixed 0x1FFE gives given (empty 6 (Fixed 0x1FFE))) ∷
    (2 told Fixed 0x7FFE gives given (empty 2 (Fixed 0x7FFE))) ∷
    (3 told Fixed 0x1FE gives given (empty 3 (Fixed 0x1FE))) ∷
    (1 told Fixed 0 gives given (empty 1 (Fixed 0))) ∷
    (5 told Open gives given (empty 5 Open)) ∷ []

abbrev pub opened : List (Answer Collection)
opened = map (λ o. opens o.kind o.told) openings

abbrev pub expected : List (Answer Collection)
expected = map (λ o. o.answer) openings

-- "10 to 22 leave the state unchanged.": it answers 11 and goes on holding what it holds
abbrev pub by_hand : Case
by_hand = record {
  start = collection 0 Open 0x2 (set zeros 5 1000);
  rows =
      ([] answered (refuses 11 true) holding 0x2) ∷
      ((0x04 ∷ 0x00 ∷ 0xc4 ∷ 0x09 ∷ 0xb4 ∷ 0x00 ∷ []) answered (refuses 11 true) holding 0x2) ∷ [];
}
