-- A host's call on document 01's own notification, 44 00 C4 09 B4 00 FA 00 of an indoor bike, by computation.
use Rattle.std.specs.Prelude.{◌≡◌, refl, List, [], ◌∷◌, ℕ}
use Rattle.record.specs.Answer.{refused, given}
use Rattle.record.specs.Layout.{layout, tables, treadmill, cross_trainer, step_climber, stair_climber, rower, indoor_bike}
use Rattle.record.specs.Groups.{has, named, size, groups_of, listed}
use Rattle.record.specs.Octets.{spelled, number}
use Rattle.record.specs.Notification.{part_of, values, read_into}
use Rattle.record.specs.Record.{formed, all_fit, others, all_zero}
use Rattle.record.specs.Split.{longest, cut, written, extent_of, split_wire}
use Rattle.phone.specs.Host.{split_answer}

abbrev pub bike : List ℕ
bike = 0x44 ∷ 0x00 ∷ 0xc4 ∷ 0x09 ∷ 0xb4 ∷ 0x00 ∷ 0xfa ∷ 0x00 ∷ []

-- In order: its one part; 14 for 7 lent octets; 15 before 14; 12 before 31; 11 before 12; 31 for no octets; 32 for its first 7; 32 before 13; 13 for
-- More Data 1.
pub samples :
    (split_answer 6 bike 20 0 8 ≡ given (record { length = 8; parts = 1 })) ×
    (split_answer 6 bike 20 0 7 ≡ refused 14) ×
    (split_answer 6 bike 20 1 0 ≡ refused 15) ×
    (split_answer 6 [] 19 0 8 ≡ refused 12) ×
    (split_answer 256 [] 19 0 8 ≡ refused 11) ×
    (split_answer 6 [] 20 0 8 ≡ refused 31) ×
    (split_answer 6 (0x44 ∷ 0x00 ∷ 0xc4 ∷ 0x09 ∷ 0xb4 ∷ 0x00 ∷ 0xfa ∷ []) 20 0 8 ≡ refused 32) ×
    (split_answer 6 (0x45 ∷ 0x00 ∷ 0xb4 ∷ []) 20 0 8 ≡ refused 32) ×
    (split_answer 6 (0x45 ∷ 0x00 ∷ 0xb4 ∷ 0x00 ∷ 0xfa ∷ 0x00 ∷ []) 20 1 0 ≡ refused 13)
unfolding split_answer formed all_fit others all_zero part_of values read_into number split_wire extent_of layout has named size groups_of listed spelled longest cut written treadmill cross_trainer step_climber stair_climber rower indoor_bike tables
samples = (refl, refl, refl, refl, refl, refl, refl, refl, refl)
