-- Targets on and off the steps. W-206: "A target is allowed when it is in the range and its distance from the least value is a multiple of the
-- increment.", "result 03 also for a target off the steps", "Reset still sets zero, whether or not zero is allowed."
use Rattle.std.specs.Prelude.{ℕ, List, [], ◌∷◌, ◌++◌, pos, negsuc, None, Some}
use Rattle.service.specs.declared.control.ranges.Ranges.{Ranges}
use Rattle.service.specs.declared.control.machine.Mode.TheVariants.{Stopped}
use Rattle.service.specs.Control.Replies.{sent}
use Rattle.demands.specs.Control.Point.{write, confirm}
use Rattle.demands.specs.Control.Cases.{asks, holds}
use Rattle.demands.specs.Control.Worked.Seen.{state, row, Table, table}
use Rattle.demands.specs.Control.Worked.Ends.{between, able, takes, declines, standing, stored, at_ends}

-- the increments of speed, inclination, resistance, power and heart rate
abbrev pub by : ℕ → ℕ → ℕ → ℕ → ℕ → Ranges → Ranges
by a b c d e r = record {
  speed = record { least = r.speed.least; greatest = r.speed.greatest; increment = a };
  inclination = record { least = r.inclination.least; greatest = r.inclination.greatest; increment = b };
  resistance = record { least = r.resistance.least; greatest = r.resistance.greatest; increment = c };
  power = record { least = r.power.least; greatest = r.power.greatest; increment = d };
  heart_rate = record { least = r.heart_rate.least; greatest = r.heart_rate.greatest; increment = e };
}

-- "a treadmill that moves in steps of 10 accepted 1,005 and ran at 1,000": 1,000 to 2,000 in steps of 10, set to 1,010
abbrev pub treadmill : Ranges
treadmill = by 10 1 1 1 1 (between 1000 2000 (pos 0) (pos 0) (pos 0) (pos 0) (pos 0) (pos 0) 0 0)

abbrev pub in_tens : Table
in_tens =
    table (able treadmill) (holds 0 ++ asks 0 (0x02 ∷ 0xf2 ∷ 0x03 ∷ [])) (sent [] []) (standing ((0x02, 0xf2 ∷ 0x03 ∷ []) ∷ []))
    (takes 0x02 (0xe8 ∷ 0x03 ∷ []) 0x05 ((0x02, 0xe8 ∷ 0x03 ∷ []) ∷ []) ∷
    declines 0x02 (0xe9 ∷ 0x03 ∷ []) ((0x02, 0xf2 ∷ 0x03 ∷ []) ∷ []) ∷
    declines 0x02 (0xed ∷ 0x03 ∷ []) ((0x02, 0xf2 ∷ 0x03 ∷ []) ∷ []) ∷
    declines 0x02 (0xf1 ∷ 0x03 ∷ []) ((0x02, 0xf2 ∷ 0x03 ∷ []) ∷ []) ∷
    takes 0x02 (0xf2 ∷ 0x03 ∷ []) 0x05 ((0x02, 0xf2 ∷ 0x03 ∷ []) ∷ []) ∷
    declines 0x02 (0xcf ∷ 0x07 ∷ []) ((0x02, 0xf2 ∷ 0x03 ∷ []) ∷ []) ∷
    takes 0x02 (0xd0 ∷ 0x07 ∷ []) 0x05 ((0x02, 0xd0 ∷ 0x07 ∷ []) ∷ []) ∷
    declines 0x02 (0xda ∷ 0x07 ∷ []) ((0x02, 0xf2 ∷ 0x03 ∷ []) ∷ []) ∷
    declines 0x02 (0xde ∷ 0x03 ∷ []) ((0x02, 0xf2 ∷ 0x03 ∷ []) ∷ []) ∷ [])

-- inclination and power from −32,768 to 32,767 in steps of 65,535: both ends and nothing between; resistance from −32,768 to 32,767 in steps of 32,768: 0 alone
abbrev pub farthest : Table
farthest =
    table (able (by 1 65535 32768 65535 1 (between 0 0 (negsuc 32767) (pos 32767) (negsuc 32767) (pos 32767) (negsuc 32767) (pos 32767) 0 0))) (holds 0) (sent [] []) (standing [])
    (takes 0x03 (0x00 ∷ 0x80 ∷ []) 0x06 ((0x03, 0x00 ∷ 0x80 ∷ []) ∷ []) ∷
    declines 0x03 (0x01 ∷ 0x80 ∷ []) [] ∷
    declines 0x03 (0xff ∷ 0xff ∷ []) [] ∷
    declines 0x03 (0x00 ∷ 0x00 ∷ []) [] ∷
    declines 0x03 (0xfe ∷ 0x7f ∷ []) [] ∷
    takes 0x03 (0xff ∷ 0x7f ∷ []) 0x06 ((0x03, 0xff ∷ 0x7f ∷ []) ∷ []) ∷
    takes 0x04 (0 ∷ []) 0x07 [] ∷
    declines 0x04 (1 ∷ []) [] ∷
    declines 0x04 (255 ∷ []) [] ∷
    takes 0x05 (0x00 ∷ 0x80 ∷ []) 0x08 ((0x05, 0x00 ∷ 0x80 ∷ []) ∷ []) ∷
    declines 0x05 (0x01 ∷ 0x80 ∷ []) [] ∷
    declines 0x05 (0x00 ∷ 0x00 ∷ []) [] ∷
    declines 0x05 (0xfe ∷ 0x7f ∷ []) [] ∷
    takes 0x05 (0xff ∷ 0x7f ∷ []) 0x08 ((0x05, 0xff ∷ 0x7f ∷ []) ∷ []) ∷ [])

-- the greatest off the steps: speed and heart rate from 0 to 25 in steps of 10, inclination from −25 to 0 in steps of 10, power from −15 to 15 in steps of 4; resistance
-- from −5 to 3 in steps of 2
abbrev pub off_the_end : Table
off_the_end =
    table (able (by 10 10 2 4 10 (between 0 25 (negsuc 24) (pos 0) (negsuc 4) (pos 3) (negsuc 14) (pos 15) 0 25))) (holds 0) (sent [] []) (standing [])
    (takes 0x02 (0x00 ∷ 0x00 ∷ []) 0x05 [] ∷
    takes 0x02 (0x14 ∷ 0x00 ∷ []) 0x05 ((0x02, 0x14 ∷ 0x00 ∷ []) ∷ []) ∷
    declines 0x02 (0x19 ∷ 0x00 ∷ []) [] ∷
    declines 0x02 (0x1e ∷ 0x00 ∷ []) [] ∷
    takes 0x03 (0xe7 ∷ 0xff ∷ []) 0x06 ((0x03, 0xe7 ∷ 0xff ∷ []) ∷ []) ∷
    declines 0x03 (0xec ∷ 0xff ∷ []) [] ∷
    takes 0x03 (0xf1 ∷ 0xff ∷ []) 0x06 ((0x03, 0xf1 ∷ 0xff ∷ []) ∷ []) ∷
    takes 0x03 (0xfb ∷ 0xff ∷ []) 0x06 ((0x03, 0xfb ∷ 0xff ∷ []) ∷ []) ∷
    declines 0x03 (0x00 ∷ 0x00 ∷ []) [] ∷
    declines 0x03 (0x05 ∷ 0x00 ∷ []) [] ∷
    declines 0x04 (0 ∷ []) [] ∷
    takes 0x04 (1 ∷ []) 0x07 ((0x04, 1 ∷ []) ∷ []) ∷
    declines 0x04 (2 ∷ []) [] ∷
    takes 0x04 (3 ∷ []) 0x07 ((0x04, 3 ∷ []) ∷ []) ∷
    declines 0x04 (5 ∷ []) [] ∷
    declines 0x04 (251 ∷ []) [] ∷
    takes 0x05 (0xf1 ∷ 0xff ∷ []) 0x08 ((0x05, 0xf1 ∷ 0xff ∷ []) ∷ []) ∷
    takes 0x05 (0xfd ∷ 0xff ∷ []) 0x08 ((0x05, 0xfd ∷ 0xff ∷ []) ∷ []) ∷
    declines 0x05 (0x00 ∷ 0x00 ∷ []) [] ∷
    takes 0x05 (0x01 ∷ 0x00 ∷ []) 0x08 ((0x05, 0x01 ∷ 0x00 ∷ []) ∷ []) ∷
    takes 0x05 (0x0d ∷ 0x00 ∷ []) 0x08 ((0x05, 0x0d ∷ 0x00 ∷ []) ∷ []) ∷
    declines 0x05 (0x0f ∷ 0x00 ∷ []) [] ∷
    declines 0x05 (0x11 ∷ 0x00 ∷ []) [] ∷
    takes 0x06 (20 ∷ []) 0x09 ((0x06, 20 ∷ []) ∷ []) ∷
    declines 0x06 (25 ∷ []) [] ∷
    declines 0x06 (30 ∷ []) [] ∷
    declines 0x06 (5 ∷ []) [] ∷ [])

-- an increment above the distance between the ends, so that the least value alone is allowed: speed from 100 to 150 in steps of 51, resistance from 5 to 50
-- in steps of 65,535, heart rate from 60 to 200 in steps of 255; and one equal to it, so that both ends are and nothing between: inclination from −1 to 1 in
-- steps of 2, power from −500 to 1,200 in steps of 1,700
abbrev pub longest : Table
longest =
    table (able (by 51 2 65535 1700 255 (between 100 150 (negsuc 0) (pos 1) (pos 5) (pos 50) (negsuc 499) (pos 1200) 60 200))) (holds 0) (sent [] []) (standing [])
    (takes 0x02 (0x64 ∷ 0x00 ∷ []) 0x05 ((0x02, 0x64 ∷ 0x00 ∷ []) ∷ []) ∷
    declines 0x02 (0x96 ∷ 0x00 ∷ []) [] ∷
    declines 0x02 (0x97 ∷ 0x00 ∷ []) [] ∷
    declines 0x02 (0x66 ∷ 0x00 ∷ []) [] ∷
    takes 0x03 (0xff ∷ 0xff ∷ []) 0x06 ((0x03, 0xff ∷ 0xff ∷ []) ∷ []) ∷
    declines 0x03 (0x00 ∷ 0x00 ∷ []) [] ∷
    takes 0x03 (0x01 ∷ 0x00 ∷ []) 0x06 ((0x03, 0x01 ∷ 0x00 ∷ []) ∷ []) ∷
    takes 0x04 (5 ∷ []) 0x07 ((0x04, 5 ∷ []) ∷ []) ∷
    declines 0x04 (6 ∷ []) [] ∷
    declines 0x04 (50 ∷ []) [] ∷
    takes 0x05 (0x0c ∷ 0xfe ∷ []) 0x08 ((0x05, 0x0c ∷ 0xfe ∷ []) ∷ []) ∷
    declines 0x05 (0xaf ∷ 0x04 ∷ []) [] ∷
    takes 0x05 (0xb0 ∷ 0x04 ∷ []) 0x08 ((0x05, 0xb0 ∷ 0x04 ∷ []) ∷ []) ∷
    takes 0x06 (60 ∷ []) 0x09 ((0x06, 60 ∷ []) ∷ []) ∷
    declines 0x06 (61 ∷ []) [] ∷
    declines 0x06 (200 ∷ []) [] ∷ [])

-- increments and distances of each length, no two increments alike: speed from 0 to 65,535 in steps of 40,000, inclination from −1,000 to 1,000 in steps of
-- 300, resistance from −32,768 to 255 in steps of 32,769, power from −1,000 to 1,000 in steps of 700, heart rate from 0 to 255 in steps of 200
abbrev pub wide : Table
wide =
    table (able (by 40000 300 32769 700 200 (between 0 65535 (negsuc 999) (pos 1000) (negsuc 32767) (pos 255) (negsuc 999) (pos 1000) 0 255))) (holds 0) (sent [] []) (standing [])
    (takes 0x02 (0x40 ∷ 0x9c ∷ []) 0x05 ((0x02, 0x40 ∷ 0x9c ∷ []) ∷ []) ∷
    declines 0x02 (0x40 ∷ 0x00 ∷ []) [] ∷
    declines 0x02 (0xff ∷ 0xff ∷ []) [] ∷
    takes 0x03 (0x70 ∷ 0xfe ∷ []) 0x06 ((0x03, 0x70 ∷ 0xfe ∷ []) ∷ []) ∷
    declines 0x03 (0x4c ∷ 0x04 ∷ []) [] ∷
    takes 0x04 (1 ∷ []) 0x07 ((0x04, 1 ∷ []) ∷ []) ∷
    declines 0x04 (0 ∷ []) [] ∷
    declines 0x04 (2 ∷ []) [] ∷
    takes 0x05 (0xd4 ∷ 0xfe ∷ []) 0x08 ((0x05, 0xd4 ∷ 0xfe ∷ []) ∷ []) ∷
    takes 0x05 (0x90 ∷ 0x01 ∷ []) 0x08 ((0x05, 0x90 ∷ 0x01 ∷ []) ∷ []) ∷
    declines 0x05 (0x4c ∷ 0x04 ∷ []) [] ∷
    takes 0x06 (200 ∷ []) 0x09 ((0x06, 200 ∷ []) ∷ []) ∷
    declines 0x06 (100 ∷ []) [] ∷
    declines 0x06 (255 ∷ []) [] ∷ [])

-- a parameter that has no range has no steps: ranges of one number each, with increments of 7
abbrev pub stepless : Table
stepless =
    table (able (by 7 7 7 7 7 (between 300 300 (negsuc 2) (negsuc 2) (pos 7) (pos 7) (negsuc 0) (negsuc 0) 80 80))) (holds 0) (sent [] []) (standing [])
    (at_ends ((0x09, 2) ∷ (0x0a, 2) ∷ (0x0b, 2) ∷ (0x0c, 3) ∷ (0x0d, 2) ∷ (0x0e, 4) ∷ (0x0f, 6) ∷ (0x10, 10) ∷ (0x11, 6) ∷ (0x12, 2) ∷ (0x14, 2) ∷ []))

abbrev pub on_and_off : List Table
on_and_off = in_tens ∷ farthest ∷ off_the_end ∷ longest ∷ wide ∷ stepless ∷ []

-- call by call: 1,010 is set, 1,005 leaves it, a reset sets zero, which is not in the range, and so cannot be set
abbrev pub resets : Table
resets =
    table (able treadmill) (holds 0) (sent [] []) (standing [])
    (takes 0x02 (0xf2 ∷ 0x03 ∷ []) 0x05 ((0x02, 0xf2 ∷ 0x03 ∷ []) ∷ []) ∷
    row (confirm 0) (sent [] []) (standing ((0x02, 0xf2 ∷ 0x03 ∷ []) ∷ [])) ∷
    declines 0x02 (0xed ∷ 0x03 ∷ []) ((0x02, 0xf2 ∷ 0x03 ∷ []) ∷ []) ∷
    row (confirm 0) (sent [] []) (standing ((0x02, 0xf2 ∷ 0x03 ∷ []) ∷ [])) ∷
    row (write 0 (0x01 ∷ [])) (sent (0x80 ∷ 0x01 ∷ 0x01 ∷ []) (0x01 ∷ [])) (state Stopped None (Some 0) (0 ∷ []) (0 ∷ []) []) ∷
    row (confirm 0) (sent [] []) (state Stopped None None (0 ∷ []) (0 ∷ []) []) ∷
    row (write 0 (0x00 ∷ [])) (sent (0x80 ∷ 0x00 ∷ 0x01 ∷ []) []) (stored []) ∷
    row (confirm 0) (sent [] []) (standing []) ∷
    declines 0x02 (0x00 ∷ 0x00 ∷ []) [] ∷ [])
