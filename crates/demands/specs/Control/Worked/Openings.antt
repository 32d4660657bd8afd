-- Opening a machine: "22: Feature value not 8 octets", "16: some range has least above greatest", "opening a machine 22, 16"; W-201: "16 also when the
-- low target is not below the high one"; W-206: "16 also for an increment of 0".
use Rattle.std.specs.Prelude.{ℕ, List, [], ◌∷◌, map, pos, negsuc, replicate, None}
use Rattle.record.specs.Answer.{Answer, refused, given}
use Rattle.service.specs.declared.control.Console.{Console}
use Rattle.service.specs.declared.control.ranges.Ranges.{Ranges}
use Rattle.service.specs.declared.control.machine.Mode.TheVariants.{Stopped}
use Rattle.service.specs.Control.Calls.{Opening, opening, opened}
use Rattle.demands.specs.Control.Cases.{speeds}
use Rattle.demands.specs.Control.Worked.Seen.{State, state, state_of}
use Rattle.demands.specs.Control.Worked.Ends.{between, able}
use Rattle.demands.specs.Control.Worked.Stepped.{by}

-- the state that an opening gives, unless it is refused
abbrev pub opens_to : Answer Console → Answer State
opens_to (refused n) = refused n
opens_to (given k) = given (state_of k)

-- a machine with n Feature octets
abbrev pub with_octets : ℕ → Ranges → Opening
with_octets n r = opening (replicate n 0) r speeds

abbrev pub fair : Ranges
fair = between 100 2000 (negsuc 99) (pos 150) (pos 5) (pos 50) (negsuc 499) (pos 1200) 60 200

-- one with n Feature octets and these target speeds
abbrev pub coasting : ℕ → ℕ → ℕ → Opening
coasting n low high = opening (replicate n 0) fair (record { low = low; high = high })

abbrev pub swift : Ranges
swift = between 2001 2000 (negsuc 99) (pos 150) (pos 5) (pos 50) (negsuc 499) (pos 1200) 60 200

pub record Case : Type 0 where
  pub opening : Opening
  pub expected : Answer State

abbrev pub ◌opens◌ : Opening → Answer State → Case
◌opens◌ o a = record { opening = o; expected = a }

infix 5 ◌opens◌
-- "At first it is stopped, no client is connected, nobody holds control, and every setting is zero."
abbrev pub at_first : Answer State
at_first = given (state Stopped None None [] [] [])

-- each range alone reversed, by one and by sign, with all target settings, speed's with none too; ranges of one number; the Feature value's length; low
-- and high, with all target settings and with none; each increment alone 0, with all target settings and with none; one of 0 in a reversed range and in a
-- range of one number; every one 0, with 7 octets; increments at their greatest, and steps that miss the greatest value
abbrev pub openings : List Case
openings =
    (able fair opens at_first) ∷
    (able swift opens refused 16) ∷
    (able (between 100 2000 (pos 151) (pos 150) (pos 5) (pos 50) (negsuc 499) (pos 1200) 60 200) opens refused 16) ∷
    (able (between 100 2000 (negsuc 99) (pos 150) (pos 51) (pos 50) (negsuc 499) (pos 1200) 60 200) opens refused 16) ∷
    (able (between 100 2000 (negsuc 99) (pos 150) (pos 5) (pos 50) (pos 1201) (pos 1200) 60 200) opens refused 16) ∷
    (able (between 100 2000 (negsuc 99) (pos 150) (pos 5) (pos 50) (negsuc 499) (pos 1200) 201 200) opens refused 16) ∷
    (able (between 100 2000 (pos 0) (negsuc 0) (pos 5) (pos 50) (negsuc 499) (pos 1200) 60 200) opens refused 16) ∷
    (able (between 100 2000 (negsuc 99) (pos 150) (negsuc 0) (negsuc 1) (negsuc 499) (pos 1200) 60 200) opens refused 16) ∷
    (able (between 100 2000 (negsuc 99) (pos 150) (pos 5) (pos 50) (pos 1) (negsuc 0) 60 200) opens refused 16) ∷
    (able (between 300 300 (negsuc 2) (negsuc 2) (pos 7) (pos 7) (negsuc 0) (negsuc 0) 80 80) opens at_first) ∷
    (with_octets 8 fair opens at_first) ∷
    (with_octets 8 swift opens refused 16) ∷
    (with_octets 7 fair opens refused 22) ∷
    (with_octets 9 fair opens refused 22) ∷
    (with_octets 0 fair opens refused 22) ∷
    (with_octets 7 swift opens refused 22) ∷
    (with_octets 9 swift opens refused 22) ∷
    (coasting 8 1000 1001 opens at_first) ∷
    (coasting 8 1000 1000 opens refused 16) ∷
    (coasting 8 1001 1000 opens refused 16) ∷
    (coasting 8 0 1 opens at_first) ∷
    (coasting 8 0 0 opens refused 16) ∷
    (coasting 8 65535 0 opens refused 16) ∷
    (opening (replicate 8 0xff) fair (record { low = 1000; high = 1000 }) opens refused 16) ∷
    (coasting 7 1000 1000 opens refused 22) ∷
    (able (by 0 1 1 1 1 fair) opens refused 16) ∷
    (able (by 1 0 1 1 1 fair) opens refused 16) ∷
    (able (by 1 1 0 1 1 fair) opens refused 16) ∷
    (able (by 1 1 1 0 1 fair) opens refused 16) ∷
    (able (by 1 1 1 1 0 fair) opens refused 16) ∷
    (able (by 0 1 1 1 1 swift) opens refused 16) ∷
    (able (by 1 1 0 1 1 (between 300 300 (negsuc 2) (negsuc 2) (pos 7) (pos 7) (negsuc 0) (negsuc 0) 80 80)) opens refused 16) ∷
    (with_octets 8 (by 0 1 1 1 1 fair) opens refused 16) ∷
    (with_octets 8 (by 1 0 1 1 1 fair) opens refused 16) ∷
    (with_octets 8 (by 1 1 0 1 1 fair) opens refused 16) ∷
    (with_octets 8 (by 1 1 1 0 1 fair) opens refused 16) ∷
    (with_octets 8 (by 1 1 1 1 0 fair) opens refused 16) ∷
    (with_octets 7 (by 0 0 0 0 0 fair) opens refused 22) ∷
    (able (by 65535 65535 65535 65535 255 fair) opens at_first) ∷
    (able (by 2 3 4 5 6 fair) opens at_first) ∷ []

abbrev pub opened_to : List (Answer State)
opened_to = map (λ x. opens_to (opened x.opening)) openings

abbrev pub expected_to : List (Answer State)
expected_to = map (λ x. x.expected) openings
