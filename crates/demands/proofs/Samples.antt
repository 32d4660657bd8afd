-- Sample records and their notifications at payload 20, by computation.
use Prim.Native.Nat.{ℕ, ◌%◌, ◌^◌}
use mathlib.Core.Path.{◌≡◌, refl, ap, ◌∙◌}
use mathlib.Core.Bool.{true}
use mathlib.Core.List.{List, [], ◌∷◌, ◌++◌, map}
use native.Mathlib.Nat.{mod-lt}
use lib.ListN.{length, get_or, set, replicate}
use lib.Pow.{pow_pos}
use mir.Syntax.{w16}
use mir.Val.{SFits}
use mir.Facts.{sfits_to_z}
use Rattle.record.specs.declared.record.Record.{Record}
use Rattle.record.specs.Layout.{layout, tables, cross_trainer, step_climber, indoor_bike}
use Rattle.record.specs.Groups.{has, named, size, groups_of, listed}
use Rattle.record.specs.Octets.{signed, spelled}
use Rattle.record.specs.Record.{of_wire, wire, all_fit, others, all_zero, formed, in_types}
use Rattle.record.specs.Split.{longest, cut, written, octets, sets_of}
use Rattle.record.proofs.Records.{numbers_again, formed_in_types}
use Rattle.service.specs.Collector.{zeros}
use Rattle.demands.specs.Behaviour.{pieces}
use Rattle.demands.specs.Demands.{Good}
use Rattle.demands.proofs.Taken.{sent, parts}
use Rattle.demands.proofs.Pieces.{splitter, mapped, pieces_are}

-- well-formed numbers make a good record
pub good : (k g d : ℕ) (v : List ℕ) → length v ≡ 31 → formed k g d v ≡ true → Good (of_wire k g d v)
good k g d v l h =
    let t : in_types v ≡ true = formed_in_types k g d v h l in
    let e : wire (of_wire k g d v) ≡ v = numbers_again k g d v l t in
    let s : (field : ℕ) → SFits w16 (signed (get_or v field 0 % 2 ^ 16)) =
    λ field. sfits_to_z {w = w16} (record { fits = mod-lt (get_or v field 0) (pow_pos 16) }) in
    record {
      typed = record {
        numbers = ap in_types e ∙ t;
        inclination = s 7;
        ramp_angle = s 8;
        belt = s 20;
        power_output = s 21;
        resistance = s 25;
        power = s 26;
        average_power = s 27;
      };
      formed = ap (formed k g d) e ∙ h;
    }

-- a well-formed record, and its notifications at payload 20
pub record Sample (r : Record) (o : List (List ℕ)) : Type 0 where
  pub is_good : Good r
  pub spells : pieces splitter 20 r ≡ o

-- by the sets of its parts, which are computed once
sample : (k g d : ℕ) (v ss : List ℕ) (o : List (List ℕ)) → length v ≡ 31 → formed k g d v ≡ true → sets_of k g 20 ≡ ss →
    map (λ s. octets k s d v) ss ≡ o → Sample (of_wire k g d v) o
sample k g d v ss o l h e f =
    let r : Record = of_wire k g d v in
    let w : Good r = good k g d v l h in
    let n : wire r ≡ v = numbers_again k g d v l (formed_in_types k g d v h l) in
    record {
      is_good = w;
      spells = pieces_are r w 20 refl ∙ ap (parts (sent r w)) e ∙ mapped (sent r w) ss ∙ ap (λ (v : List ℕ). map (λ s. octets k s d v) ss) n ∙ f;
    }

-- an indoor bike at a speed, and nothing else
abbrev pub bike : ℕ → Record
bike x = of_wire 6 0 0 (set zeros 0 x)

abbrev pub bike_octets : ℕ → List ℕ
bike_octets x = 0 ∷ 0 ∷ x ∷ 0 ∷ []

pub bike_1 : Sample (bike 1) (bike_octets 1 ∷ [])
unfolding layout tables indoor_bike has named size groups_of listed all_fit others all_zero formed longest cut spelled written
bike_1 = sample 6 0 0 (set zeros 0 1) (1 ∷ []) _ refl refl refl refl

pub bike_2 : Sample (bike 2) (bike_octets 2 ∷ [])
unfolding layout tables indoor_bike has named size groups_of listed all_fit others all_zero formed longest cut spelled written
bike_2 = sample 6 0 0 (set zeros 0 2) (1 ∷ []) _ refl refl refl refl

-- a cross trainer with all groups and a given power, which is in the second of its three parts
abbrev pub trainer : ℕ → Record
trainer x = of_wire 2 0x7FFE 0 (set zeros 26 x)

abbrev pub trainer_octets : ℕ → List (List ℕ)
trainer_octets x =
    (0x3F ∷ replicate 17 0) ∷ (0xC1 ∷ 0x1F ∷ 0 ∷ 0 ∷ 0 ∷ 0 ∷ 0 ∷ 0 ∷ 0 ∷ x ∷ replicate 10 0) ∷ (0 ∷ 0x60 ∷ replicate 7 0) ∷ []

pub trainer_1 : Sample (trainer 1) (trainer_octets 1)
unfolding layout tables cross_trainer has named size groups_of listed all_fit others all_zero formed longest cut spelled written
trainer_1 = sample 2 0x7FFE 0 (set zeros 26 1) (0x3E ∷ 0x1FC0 ∷ 0x6001 ∷ []) _ refl refl refl refl

pub trainer_2 : Sample (trainer 2) (trainer_octets 2)
unfolding layout tables cross_trainer has named size groups_of listed all_fit others all_zero formed longest cut spelled written
trainer_2 = sample 2 0x7FFE 0 (set zeros 26 2) (0x3E ∷ 0x1FC0 ∷ 0x6001 ∷ []) _ refl refl refl refl

-- a step climber with all groups: time elapsed, in the first of its two parts, and floors, in the last
abbrev pub climber : ℕ → ℕ → Record
climber elapsed floors = of_wire 3 0x1FE 0 (set (set zeros 18 elapsed) 1 floors)

abbrev pub climber_octets : ℕ → ℕ → List (List ℕ)
climber_octets elapsed floors = (0xFF ∷ 0x01 ∷ replicate 13 0 ++ (elapsed ∷ 0 ∷ 0 ∷ 0 ∷ [])) ∷ (0 ∷ 0 ∷ floors ∷ 0 ∷ 0 ∷ 0 ∷ []) ∷ []

pub climber_1 : Sample (climber 1 1) (climber_octets 1 1)
unfolding layout tables step_climber has named size groups_of listed all_fit others all_zero formed longest cut spelled written
climber_1 = sample 3 0x1FE 0 (set (set zeros 18 1) 1 1) (0x1FE ∷ 1 ∷ []) _ refl refl refl refl

pub climber_2 : Sample (climber 2 2) (climber_octets 2 2)
unfolding layout tables step_climber has named size groups_of listed all_fit others all_zero formed longest cut spelled written
climber_2 = sample 3 0x1FE 0 (set (set zeros 18 2) 1 2) (0x1FE ∷ 1 ∷ []) _ refl refl refl refl
