-- Worked cases of splitting: "Where several apply, the splitter's order is 11, 12, 13, 15, 14", what is well formed, and what is left in the lent octets.
use Rattle.std.specs.Prelude.{ℕ, List, [], ◌∷◌, ◌++◌, map, set, replicate}
use Rattle.record.specs.declared.record.Record.{Record}
use Rattle.record.specs.declared.split.Extent.{Extent}
use Rattle.record.specs.Answer.{Answer, refused, given}
use Rattle.record.specs.Layout as field
use Rattle.record.specs.Record.{wire, of_wire}
use Rattle.record.specs.Samples as sample
use Rattle.record.specs.Split.{split_of, lent_after}

-- a record, a payload, a part number and how many octets are lent; and the answer
pub record Row : Type 0 where
  pub whole : Record
  pub payload : ℕ
  pub part : ℕ
  pub lent : ℕ
  pub answer : Answer Extent

abbrev pub row : Record → ℕ → ℕ → ℕ → Answer Extent → Row
row r p i n a = record { whole = r; payload = p; part = i; lent = n; answer = a }

abbrev pub extent : ℕ → ℕ → Answer Extent
extent n k = given (record { length = n; parts = k })

-- the numbers of the treadmill's sample in a record of another kind, with other groups or another direction; and the sample with another value
abbrev pub taken : ℕ → ℕ → ℕ → Record
taken kind groups direction = of_wire kind groups direction (wire sample.treadmill)

abbrev pub with_value : ℕ → ℕ → Record
with_value f x = of_wire 1 0x1FFE 0 (set (wire sample.treadmill) f x)

-- everything that can be wrong at once, with no octet lent; then with the first fault corrected, and so on
abbrev pub order : List Row
order =
    row (taken 0 0x3FFE 1) 19 2 0 (refused 11) ∷
    row (taken 7 0x3FFE 1) 513 2 0 (refused 11) ∷
    row (taken 1 0x3FFE 1) 19 2 0 (refused 12) ∷
    row (taken 1 0x3FFE 1) 513 2 0 (refused 12) ∷
    row (taken 1 0x3FFE 1) 20 2 0 (refused 13) ∷
    row sample.treadmill 20 2 0 (refused 15) ∷
    row sample.treadmill 20 0 16 (refused 14) ∷
    row sample.treadmill 20 0 17 (extent 17 2) ∷
    row sample.treadmill 20 1 18 (refused 14) ∷
    row sample.treadmill 20 1 19 (extent 19 2) ∷
    row sample.treadmill 33 0 512 (extent 32 2) ∷
    row sample.treadmill 33 1 512 (extent 4 2) ∷
    row sample.treadmill 34 0 34 (extent 34 1) ∷
    row sample.treadmill 512 0 512 (extent 34 1) ∷
    row sample.treadmill 512 1 512 (refused 15) ∷ []

-- "the set has only bits listed for its kind, each value fits its width, fields of absent groups are 0, and direction is 0 unless kind 2"
abbrev pub formed : List Row
formed =
    row (taken 1 0x1FFF 0) 20 0 512 (refused 13) ∷
    row (taken 1 0x3FFE 0) 20 0 512 (refused 13) ∷
    row (taken 1 0x1FFE 1) 20 0 512 (refused 13) ∷
    row (taken 1 0x1FFC 0) 20 0 512 (refused 13) ∷
    row (taken 2 0x7FFE 0) 20 0 512 (refused 13) ∷
    row (with_value field.distance 16777215) 20 0 512 (extent 17 2) ∷
    row (with_value field.distance 16777216) 20 0 512 (refused 13) ∷
    row (with_value field.pace 255) 20 0 512 (extent 17 2) ∷
    row (with_value field.pace 256) 20 0 512 (refused 13) ∷
    row (with_value field.speed 65535) 20 0 512 (extent 17 2) ∷
    row (with_value field.inclination 32768) 20 0 512 (extent 17 2) ∷
    row (with_value field.cadence 1) 20 0 512 (refused 13) ∷
    row (with_value field.steps 1) 20 0 512 (refused 13) ∷
    row (of_wire 2 0x7FFE 0 (wire sample.cross_trainer)) 20 0 512 (extent 18 3) ∷
    row (of_wire 2 0x7FFE 1 (wire sample.cross_trainer)) 20 0 512 (extent 18 3) ∷
    row (of_wire 2 0x7FFE 2 (wire sample.cross_trainer)) 20 0 512 (refused 13) ∷
    row (of_wire 2 0xFFFE 0 (wire sample.cross_trainer)) 20 0 512 (refused 13) ∷
    row (of_wire 6 0x0 0 (set (replicate 31 0) field.speed 7)) 20 0 4 (extent 4 1) ∷ []

-- the answer to each row, and the expected answer
abbrev pub answered : List Row → List (Answer Extent)
answered rows = map (λ x. split_of x.whole x.payload x.part x.lent) rows

abbrev pub expected : List Row → List (Answer Extent)
expected rows = map (λ x. x.answer) rows

-- "A refusal writes no lent octet."; "lent octets past the length stay": 21 octets lent for the last of the treadmill's two parts, and 18, one too few
abbrev pub lent : ℕ → List ℕ
lent n = replicate n 0xAA

abbrev pub last_part : List ℕ
last_part =
    0x80 ∷ 0x1F ∷ 0xE9 ∷ 0x03 ∷ 0xF6 ∷ 0x03 ∷ 0xF7 ∷ 0x03 ∷ 0x10 ∷ 0x11 ∷ 0x12 ∷ 0xFB ∷ 0x03 ∷ 0xFC ∷ 0x03 ∷ 0xEB ∷ 0xFF ∷ 0xEA ∷ 0xFF ∷ []

abbrev pub left : List (List ℕ)
left = lent_after sample.treadmill 20 1 (lent 21) ∷ lent_after sample.treadmill 20 1 (lent 18) ∷ lent_after sample.treadmill 20 2 (lent 21) ∷ lent_after sample.treadmill 19 1 (lent 21) ∷ []

abbrev pub expected_left : List (List ℕ)
expected_left = (last_part ++ lent 2) ∷ lent 18 ∷ lent 21 ∷ lent 21 ∷ []
