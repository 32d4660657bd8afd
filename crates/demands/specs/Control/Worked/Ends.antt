-- The five ranges at both ends and beyond each: "Ranges (least, greatest, both allowed)", "value outside its range .., result 03", "02 to 06 ..
-- store the parameter octets".
use Rattle.std.specs.Prelude.{ℕ, suc, cond, List, [], ◌∷◌, ◌++◌, map, eqb, ℤ, pos, negsuc, replicate, None, Some}
use Rattle.service.specs.declared.control.ranges.Ranges.{Ranges}
use Rattle.service.specs.declared.control.machine.Mode.TheVariants.{Stopped}
use Rattle.service.specs.Control.Replies.{sent}
use Rattle.service.specs.Control.Calls.{Opening, opening}
use Rattle.demands.specs.Control.Point.{write}
use Rattle.demands.specs.Control.Cases.{speeds, asks, holds}
use Rattle.demands.specs.Control.Worked.Seen.{State, state, Row, row, Table, table}

-- least and greatest of speed, inclination, resistance, power and heart rate; each increment is 1
abbrev pub between : ℕ → ℕ → ℤ → ℤ → ℤ → ℤ → ℤ → ℤ → ℕ → ℕ → Ranges
between a b c d e f g h i j = record {
  speed = record { least = a; greatest = b; increment = 1 };
  inclination = record { least = c; greatest = d; increment = 1 };
  resistance = record { least = e; greatest = f; increment = 1 };
  power = record { least = g; greatest = h; increment = 1 };
  heart_rate = record { least = i; greatest = j; increment = 1 };
}

-- a machine with every target setting
abbrev pub able : Ranges → Opening
able r = opening (0 ∷ 0 ∷ 0 ∷ 0 ∷ 0xff ∷ 0xff ∷ 0xff ∷ 0xff ∷ []) r speeds

-- settings by their op codes, and the same with another value for one
abbrev pub Settings : Type 0
Settings = List (ℕ × List ℕ)

abbrev pub changed : ℕ → List ℕ → Settings → Settings
changed o p s = map (λ x. cond (eqb x.0 o) (o, p) x) s

abbrev pub stored : Settings → State
stored s = state Stopped (Some 0) (Some 0) (0 ∷ []) (0 ∷ []) s

-- a write that is accepted: its status octet, and the settings after it; or one with result 03, which leaves them
abbrev pub takes : ℕ → List ℕ → ℕ → Settings → Row
takes o p x s = row (write 0 (o ∷ p)) (sent (0x80 ∷ o ∷ 0x01 ∷ []) (x ∷ p)) (stored s)

abbrev pub declines : ℕ → List ℕ → Settings → Row
declines o p s = row (write 0 (o ∷ p)) (sent (0x80 ∷ o ∷ 0x03 ∷ []) []) (stored s)

abbrev pub standing : Settings → State
standing s = state Stopped (Some 0) None (0 ∷ []) (0 ∷ []) s

-- speed 100 to 2,000, inclination −100 to 150, resistance 5 to 50, power −500 to 1,200, heart rate 60 to 200; set to 1,000, 10, 20, −1, 120
abbrev pub middle : Settings
middle = (0x02, 0xe8 ∷ 0x03 ∷ []) ∷ (0x03, 0x0a ∷ 0x00 ∷ []) ∷ (0x04, 0x14 ∷ []) ∷ (0x05, 0xff ∷ 0xff ∷ []) ∷ (0x06, 0x78 ∷ []) ∷ []

abbrev pub five_ranges : Table
five_ranges =
    table (able (between 100 2000 (negsuc 99) (pos 150) (pos 5) (pos 50) (negsuc 499) (pos 1200) 60 200))
    (holds 0 ++ asks 0 (0x02 ∷ 0xe8 ∷ 0x03 ∷ []) ++ asks 0 (0x03 ∷ 0x0a ∷ 0x00 ∷ []) ++ asks 0 (0x04 ∷ 0x14 ∷ []) ++
    asks 0 (0x05 ∷ 0xff ∷ 0xff ∷ []) ++ asks 0 (0x06 ∷ 0x78 ∷ [])) (sent [] []) (standing middle)
    (declines 0x02 (0x63 ∷ 0x00 ∷ []) middle ∷
    takes 0x02 (0x64 ∷ 0x00 ∷ []) 0x05 (changed 0x02 (0x64 ∷ 0x00 ∷ []) middle) ∷
    takes 0x02 (0xd0 ∷ 0x07 ∷ []) 0x05 (changed 0x02 (0xd0 ∷ 0x07 ∷ []) middle) ∷
    declines 0x02 (0xd1 ∷ 0x07 ∷ []) middle ∷
    declines 0x03 (0x9b ∷ 0xff ∷ []) middle ∷
    takes 0x03 (0x9c ∷ 0xff ∷ []) 0x06 (changed 0x03 (0x9c ∷ 0xff ∷ []) middle) ∷
    takes 0x03 (0x96 ∷ 0x00 ∷ []) 0x06 (changed 0x03 (0x96 ∷ 0x00 ∷ []) middle) ∷
    declines 0x03 (0x97 ∷ 0x00 ∷ []) middle ∷
    declines 0x04 (4 ∷ []) middle ∷
    takes 0x04 (5 ∷ []) 0x07 (changed 0x04 (5 ∷ []) middle) ∷
    takes 0x04 (50 ∷ []) 0x07 (changed 0x04 (50 ∷ []) middle) ∷
    declines 0x04 (51 ∷ []) middle ∷
    declines 0x05 (0x0b ∷ 0xfe ∷ []) middle ∷
    takes 0x05 (0x0c ∷ 0xfe ∷ []) 0x08 (changed 0x05 (0x0c ∷ 0xfe ∷ []) middle) ∷
    takes 0x05 (0xb0 ∷ 0x04 ∷ []) 0x08 (changed 0x05 (0xb0 ∷ 0x04 ∷ []) middle) ∷
    declines 0x05 (0xb1 ∷ 0x04 ∷ []) middle ∷
    declines 0x06 (59 ∷ []) middle ∷
    takes 0x06 (60 ∷ []) 0x09 (changed 0x06 (60 ∷ []) middle) ∷
    takes 0x06 (200 ∷ []) 0x09 (changed 0x06 (200 ∷ []) middle) ∷
    declines 0x06 (201 ∷ []) middle ∷ [])

-- "04 resistance u8", "resistance s16": from −5 to 3, set to 2; and from −5 to −1
abbrev pub below_zero : Table
below_zero =
    table (able (between 0 0 (pos 0) (pos 0) (negsuc 4) (pos 3) (pos 0) (pos 0) 0 0))
    (holds 0 ++ asks 0 (0x04 ∷ 2 ∷ [])) (sent [] []) (standing ((0x04, 2 ∷ []) ∷ []))
    (takes 0x04 (0 ∷ []) 0x07 [] ∷
    takes 0x04 (3 ∷ []) 0x07 ((0x04, 3 ∷ []) ∷ []) ∷
    declines 0x04 (4 ∷ []) ((0x04, 2 ∷ []) ∷ []) ∷
    declines 0x04 (251 ∷ []) ((0x04, 2 ∷ []) ∷ []) ∷
    declines 0x04 (255 ∷ []) ((0x04, 2 ∷ []) ∷ []) ∷ [])

abbrev pub all_below_zero : Table
all_below_zero =
    table (able (between 0 0 (pos 0) (pos 0) (negsuc 4) (negsuc 0) (pos 0) (pos 0) 0 0)) (holds 0) (sent [] []) (standing [])
    (declines 0x04 (0 ∷ []) [] ∷
    declines 0x04 (1 ∷ []) [] ∷
    declines 0x04 (251 ∷ []) [] ∷
    declines 0x04 (255 ∷ []) [] ∷ [])

-- ranges that admit every number of their widths
abbrev pub widest : Table
widest =
    table (able (between 0 65535 (negsuc 32767) (pos 32767) (negsuc 32767) (pos 32767) (negsuc 32767) (pos 32767) 0 255)) (holds 0) (sent [] []) (standing [])
    (takes 0x02 (0x00 ∷ 0x00 ∷ []) 0x05 [] ∷
    takes 0x02 (0xff ∷ 0xff ∷ []) 0x05 ((0x02, 0xff ∷ 0xff ∷ []) ∷ []) ∷
    takes 0x03 (0x00 ∷ 0x80 ∷ []) 0x06 ((0x03, 0x00 ∷ 0x80 ∷ []) ∷ []) ∷
    takes 0x03 (0xff ∷ 0x7f ∷ []) 0x06 ((0x03, 0xff ∷ 0x7f ∷ []) ∷ []) ∷
    takes 0x04 (0 ∷ []) 0x07 [] ∷
    takes 0x04 (255 ∷ []) 0x07 ((0x04, 255 ∷ []) ∷ []) ∷
    takes 0x05 (0x00 ∷ 0x80 ∷ []) 0x08 ((0x05, 0x00 ∷ 0x80 ∷ []) ∷ []) ∷
    takes 0x05 (0xff ∷ 0x7f ∷ []) 0x08 ((0x05, 0xff ∷ 0x7f ∷ []) ∷ []) ∷
    takes 0x06 (0 ∷ []) 0x09 [] ∷
    takes 0x06 (255 ∷ []) 0x09 ((0x06, 255 ∷ []) ∷ []) ∷ [])

-- ranges of one number each: speed 300, inclination −3, resistance 7, power −1, heart rate 80
abbrev pub narrowest : Table
narrowest =
    table (able (between 300 300 (negsuc 2) (negsuc 2) (pos 7) (pos 7) (negsuc 0) (negsuc 0) 80 80)) (holds 0) (sent [] []) (standing [])
    (declines 0x02 (0x2b ∷ 0x01 ∷ []) [] ∷
    takes 0x02 (0x2c ∷ 0x01 ∷ []) 0x05 ((0x02, 0x2c ∷ 0x01 ∷ []) ∷ []) ∷
    declines 0x02 (0x2d ∷ 0x01 ∷ []) [] ∷
    declines 0x03 (0xfc ∷ 0xff ∷ []) [] ∷
    takes 0x03 (0xfd ∷ 0xff ∷ []) 0x06 ((0x03, 0xfd ∷ 0xff ∷ []) ∷ []) ∷
    declines 0x03 (0xfe ∷ 0xff ∷ []) [] ∷
    declines 0x04 (6 ∷ []) [] ∷
    takes 0x04 (7 ∷ []) 0x07 ((0x04, 7 ∷ []) ∷ []) ∷
    declines 0x04 (8 ∷ []) [] ∷
    declines 0x05 (0xfe ∷ 0xff ∷ []) [] ∷
    takes 0x05 (0xff ∷ 0xff ∷ []) 0x08 ((0x05, 0xff ∷ 0xff ∷ []) ∷ []) ∷
    declines 0x05 (0x00 ∷ 0x00 ∷ []) [] ∷
    declines 0x06 (79 ∷ []) [] ∷
    takes 0x06 (80 ∷ []) 0x09 ((0x06, 80 ∷ []) ∷ []) ∷
    declines 0x06 (81 ∷ []) [] ∷ [])

-- "Ranges .. exist for speed u16, inclination s16, resistance s16, power s16, heart rate u8.": every parameter of another op code is accepted, here
-- all octets 0 and all octets 255, although each range is of one number
abbrev pub at_ends : List (ℕ × ℕ) → List Row
at_ends [] = []
at_ends (x ∷ xs) =
    takes x.0 (replicate x.1 0) (suc x.0) [] ∷ takes x.0 (replicate x.1 0xff) (suc x.0) ((x.0, replicate x.1 0xff) ∷ []) ∷ at_ends xs

abbrev pub unbounded : Table
unbounded =
    table (able (between 300 300 (negsuc 2) (negsuc 2) (pos 7) (pos 7) (negsuc 0) (negsuc 0) 80 80)) (holds 0) (sent [] []) (standing [])
    (at_ends ((0x09, 2) ∷ (0x0a, 2) ∷ (0x0b, 2) ∷ (0x0c, 3) ∷ (0x0d, 2) ∷ (0x0e, 4) ∷ (0x0f, 6) ∷ (0x10, 10) ∷ (0x11, 6) ∷ (0x12, 2) ∷ (0x14, 2) ∷ []))

abbrev pub ends : List Table
ends = five_ranges ∷ below_zero ∷ all_below_zero ∷ widest ∷ narrowest ∷ unbounded ∷ []
