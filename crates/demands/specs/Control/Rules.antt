-- Document 01's sentences on the op codes, W-201's on 13 and W-206's on the steps, as rules on their numbers. The theorems compare them with the table of op codes, for each
-- octet from 0 to 255.
use Rattle.std.specs.Prelude.{ℕ, zero, suc, ◌+◌, ◌-◌, ◌*◌, ◌/◌, Bool, true, false, cond, not, ◌&&◌, ◌||◌, List, [], ◌∷◌, ◌++◌, map, eqb, leb, ℤ, pos, negsuc, length, take, drop, replicate, Option, None, Some}
use Rattle.std.specs.Int.Signed.{le_z}
use Rattle.record.specs.declared.layout.Width.{Width}
use Rattle.record.specs.declared.layout.Width.TheVariants.{U8, U16, U24, S16}
use Rattle.record.specs.Groups.{has}
use Rattle.record.specs.Octets.{spelled, number, signed, placed}
use Rattle.service.specs.declared.control.ranges.Ranges.{Ranges}
use Rattle.service.specs.declared.control.spin_down.TargetSpeeds.{TargetSpeeds}
use Rattle.service.specs.declared.control.spin_down.Run.{Run}
use Rattle.service.specs.declared.control.spin_down.Run.TheVariants.{Off, Quiet}
use Rattle.service.specs.declared.control.machine.Setup.{Setup}
use Rattle.service.specs.declared.control.machine.Mode.{Mode}
use Rattle.service.specs.declared.control.machine.Mode.TheVariants.{Stopped, Running, Paused}
use Rattle.service.specs.Control.Machine.{is}

-- k numbers from n on, and every octet
abbrev pub counting : ℕ → ℕ → List ℕ
counting n zero = []
counting n (suc k) = n ∷ counting (suc n) k

abbrev pub octets : List ℕ
octets = counting 0 256

-- whether an op code is from a to b, and whether it is one of a list
abbrev pub to : ℕ → ℕ → ℕ → Bool
to a b o = leb a o && leb o b

abbrev pub among : List ℕ → ℕ → Bool
among [] o = false
among (x ∷ xs) o = eqb x o || among xs o

-- the numbers of a list that a test picks, and the sum of a list
abbrev pub picked : (ℕ → Bool) → List ℕ → List ℕ
picked f [] = []
picked f (x ∷ xs) = let rest : List ℕ = picked f xs in cond (f x) (x ∷ rest) rest

abbrev pub sum : List ℕ → ℕ
sum [] = 0
sum (x ∷ xs) = x + sum xs

-- "02 to 06, 09 to 12 and 14 store the parameter octets"
abbrev pub storing : ℕ → Bool
storing o = to 0x02 0x06 o || (to 0x09 0x12 o || eqb o 0x14)

-- "00, 01, 07, 08 are always supported; 02 to 06 need target bits 0 to 4, 09 to 12 need 5 to 14, 14 needs 16."; "Op code 13 becomes supported
-- with target bit 15": in a word of target settings
abbrev pub supported : ℕ → ℕ → Bool
supported targets o =
    cond (among (0x00 ∷ 0x01 ∷ 0x07 ∷ 0x08 ∷ []) o) true
    (cond (to 0x02 0x06 o) (has targets (o - 2))
    (cond (to 0x09 0x12 o) (has targets (o - 4))
    (cond (eqb o 0x13) (has targets 15)
    (cond (eqb o 0x14) (has targets 16) false))))

-- "01 gives 01; 07 gives 04; 08 gives 02 and its parameter; 02 to 06 give op code plus 3, 09 to 12 op code plus 1, 14 gives 15, each with the
-- parameter. 00 gives none."; of 13, "a start or an ignore gives none"
abbrev pub status : ℕ → List ℕ → List ℕ
status o p =
    cond (eqb o 0x01) (0x01 ∷ [])
    (cond (eqb o 0x07) (0x04 ∷ [])
    (cond (eqb o 0x08) (0x02 ∷ p)
    (cond (to 0x02 0x06 o) ((o + 3) ∷ p)
    (cond (to 0x09 0x12 o) ((o + 1) ∷ p)
    (cond (eqb o 0x14) (0x15 ∷ p) [])))))

-- "02 speed u16, 03 inclination s16, 04 resistance u8, 05 power s16, 06 heart rate u8, .. 08 stop (1) or pause (2), 09 energy u16, 0A steps u16, 0B
-- strides u16, 0C distance u24, 0D time u16, 0E two zones, 0F three, 10 five, one u16 for each zone, 11 wind s16, grade s16, rolling u8, drag
-- u8, 12 wheel u16, 14 cadence u16", 13 "parameter 1 starts, 2 ignores": width by width
abbrev pub widths : ℕ → List Width
widths o =
    cond (among (0x04 ∷ 0x06 ∷ 0x08 ∷ 0x13 ∷ []) o) (U8 ∷ [])
    (cond (among (0x03 ∷ 0x05 ∷ []) o) (S16 ∷ [])
    (cond (among (0x02 ∷ 0x09 ∷ 0x0a ∷ 0x0b ∷ 0x0d ∷ 0x12 ∷ 0x14 ∷ []) o) (U16 ∷ [])
    (cond (eqb o 0x0c) (U24 ∷ [])
    (cond (eqb o 0x0e) (replicate 2 U16)
    (cond (eqb o 0x0f) (replicate 3 U16)
    (cond (eqb o 0x10) (replicate 5 U16)
    (cond (eqb o 0x11) (S16 ∷ S16 ∷ U8 ∷ U8 ∷ []) [])))))))

-- the number of its octets: one for a u8, three for the u24, two for each zone, six for wind, grade, rolling and drag, and two for any other number
abbrev pub size : ℕ → ℕ
size o =
    cond (among (0x04 ∷ 0x06 ∷ 0x08 ∷ 0x13 ∷ []) o) 1
    (cond (eqb o 0x0c) 3
    (cond (eqb o 0x0e) 4
    (cond (eqb o 0x0f) 6
    (cond (eqb o 0x10) 10
    (cond (eqb o 0x11) 6
    (cond (storing o) 2 0))))))

-- how far one number is above another, by their signs
abbrev pub above : ℤ → ℤ → ℕ
above (pos a) (pos b) = b - a
above (pos a) (negsuc b) = 0
above (negsuc a) (pos b) = b + suc a
above (negsuc a) (negsuc b) = a - b

-- "a multiple of the increment": the whole increments in a distance make it up
abbrev pub whole : ℕ → ℕ → Bool
whole increment d = eqb (d / increment * increment) d

-- "A target is allowed when it is in the range and its distance from the least value is a multiple of the increment."
abbrev pub stepped : ℤ → ℤ → ℕ → ℤ → Bool
stepped least greatest increment x = le_z least x && le_z x greatest && whole increment (above least x)

-- which of these is asked of an op code: of speed, inclination, resistance, power, heart rate, or of 08 and 13; nothing is asked of any other
abbrev pub asked : ℕ → Bool → Bool → Bool → Bool → Bool → Bool → Bool
asked o a b c d e f =
    cond (eqb o 0x02) a (cond (eqb o 0x03) b (cond (eqb o 0x04) c (cond (eqb o 0x05) d (cond (eqb o 0x06) e (cond (among (0x08 ∷ 0x13 ∷ []) o) f true)))))

-- the opposite of "value outside its range or 08 with neither 1 nor 2"; "Ranges (least, greatest, both allowed) exist for speed u16, inclination s16,
-- resistance s16, power s16, heart rate u8."; "result 03 also for a target off the steps"; of 13, "result 03 for neither 1 nor 2"
abbrev pub allowed : Ranges → ℕ → List ℕ → Bool
allowed r o p =
    asked o (stepped (pos r.speed.least) (pos r.speed.greatest) r.speed.increment (pos (number 2 p)))
    (stepped r.inclination.least r.inclination.greatest r.inclination.increment (signed (number 2 p)))
    (stepped r.resistance.least r.resistance.greatest r.resistance.increment (pos (number 1 p)))
    (stepped r.power.least r.power.greatest r.power.increment (signed (number 2 p)))
    (stepped (pos r.heart_rate.least) (pos r.heart_rate.greatest) r.heart_rate.increment (pos (number 1 p)))
    (to 1 2 (number 1 p))

-- "00 gives control; 01 .. frees control": who holds it after a client's op code has succeeded
abbrev pub holder : ℕ → ℕ → Option ℕ → Option ℕ
holder o c before = cond (eqb o 0x00) (Some c) (cond (eqb o 0x01) None before)

-- "01 .. stops", "07 sets running, 08 stopped (1) or paused (2)"
abbrev pub mode : ℕ → ℕ → Mode → Mode
mode o x before =
    cond (eqb o 0x01) Stopped (cond (eqb o 0x07) Running (cond (eqb o 0x08) (cond (eqb x 1) Stopped (cond (eqb x 2) Paused before)) before))

-- "parameter 1 starts, 2 ignores"; "Reset, disconnect of the holder or an ignore ends a run": the run after an op code has succeeded
abbrev pub run : ℕ → ℕ → Run → Run
run o x before = cond (eqb o 0x01) Off (cond (eqb o 0x13) (cond (eqb x 1) Quiet Off) before)

-- "A successful start answers 80 13 01 followed by a low and a high target speed, u16 each": what follows the result of an op code that has succeeded
abbrev pub followed : TargetSpeeds → ℕ → List ℕ → List ℕ
followed t o p = cond (eqb o 0x13 && eqb (number 1 p) 1) (spelled 2 t.low ++ spelled 2 t.high) []

-- where a setting begins: the settings follow one another in the order of op codes
abbrev pub place : ℕ → ℕ
place o = sum (map size (picked storing (counting 0 o)))

-- "01 zeroes every setting", "02 to 06, 09 to 12 and 14 store the parameter octets": the octets of all settings after an op code has succeeded
abbrev pub settings : ℕ → List ℕ → List ℕ → List ℕ
settings o p before = cond (eqb o 0x01) (replicate 49 0) (cond (storing o) (placed before (place o) p) before)

-- a setting's own octets; none for an op code that stores nothing
abbrev pub setting : ℕ → List ℕ → List ℕ
setting o all = cond (storing o) (take (size o) (drop (place o) all)) []

-- whether two settings have no octet in common, or are the same
abbrev pub apart : ℕ → ℕ → Bool
apart a b = eqb a b || (leb (place a + size a) (place b) || leb (place b + size b) (place a))

-- ---- "A write is judged in this order"

abbrev pub stopped : Mode → Bool
stopped Stopped = true
stopped Running = false
stopped Paused = false

abbrev pub running : Mode → Bool
running Stopped = false
running Running = true
running Paused = false

-- there is a holder, and it is not this client
abbrev pub another : Option ℕ → ℕ → Bool
another None c = false
another (Some d) c = not (eqb d c)

-- what a machine was opened with, its holder, its mode and whether there is a run; a client, its op code and the parameter
module _ (s : Setup) (h : Option ℕ) (m : Mode) (going : Bool) (c o : ℕ) (p : List ℕ) where
  -- "04 when 00 finds another holder, 07 finds running, 08 with 1 finds stopped, or 08 with 2 finds anything but running": this is asked only for 08
  -- with 1 or 2, since any other parameter gives 03 before. "04 for a start during a run"
  abbrev pub fails : Bool
  fails =
      cond (eqb o 0x00) (another h c)
      (cond (eqb o 0x07) (running m)
      (cond (eqb o 0x08) (cond (eqb (number 1 p) 1) (stopped m) (not (running m)))
      (cond (eqb o 0x13) (going && eqb (number 1 p) 1) false)))

  -- "unsupported op code, result 02; not the holder (but for 00), 05; wrong length, value outside its range or 08 with neither 1 nor 2, result
  -- 03; then 04 when ..; else 01"; "result 03 also for a target off the steps"
  abbrev pub result : ℕ
  result =
      cond (not (supported s.feature.targets o)) 0x02
      (cond (not (eqb o 0x00 || is h c)) 0x05
      (cond (not (eqb (length p) (size o) && allowed s.ranges o p)) 0x03
      (cond fails 0x04 0x01)))
