-- The op codes: "Op codes and parameters", the target bits that they need, what bounds their parameters, and what success says and does.
use Rattle.std.specs.Prelude.{ℕ, cond, List, [], ◌∷◌, eqb, Option, Some, None}
use Rattle.record.specs.declared.layout.Width.TheVariants.{U8, U16, U24, S16}
use Rattle.service.specs.declared.control.parameters.Parameter.{Parameter}
use Rattle.service.specs.declared.control.parameters.Parameter.TheVariants.{Empty, One, TwoZones, ThreeZones, FiveZones, Simulation}
use Rattle.service.specs.declared.control.op_codes.OpCode.{OpCode}
use Rattle.service.specs.declared.control.op_codes.Bound.{Bound}
use Rattle.service.specs.declared.control.op_codes.Bound.TheVariants.{Free, Speed, Inclination, Resistance, Power, HeartRate, OneOrTwo}
use Rattle.service.specs.declared.control.op_codes.Status.{Status}
use Rattle.service.specs.declared.control.op_codes.Status.TheVariants.{Silent, Octet, Echo}
use Rattle.service.specs.declared.control.op_codes.Act.{Act}
use Rattle.service.specs.declared.control.op_codes.Act.TheVariants.{TakesControl, Resets, Starts, Halts, Stores, SpinsDown}

-- the columns of a line of the table; the second is the target bit that the op code needs, if any
abbrev pub known : Parameter → Option ℕ → Bound → Status → Act → OpCode
known p n b s a = record { parameter = p; need = n; bound = b; status = s; act = a }

-- an op code, and what the table says about it
pub record Line : Type 0 where
  pub op : ℕ
  pub code : OpCode

abbrev pub at : ℕ → Parameter → Option ℕ → Bound → Status → Act → Line
at o p n b s a = record { op = o; code = known p n b s a }

-- "00 request control, 01 reset, 02 speed u16, 03 inclination s16, 04 resistance u8, 05 power s16, 06 heart rate u8, 07 start or resume, 08
-- stop (1) or pause (2), 09 energy u16, 0A steps u16, 0B strides u16, 0C distance u24, 0D time u16, 0E two zones, 0F three, 10 five, one u16
-- for each zone, 11 wind s16, grade s16, rolling u8, drag u8, 12 wheel u16, 14 cadence u16. 00, 01, 07, 08 are always supported; 02 to 06
-- need target bits 0 to 4, 09 to 12 need 5 to 14, 14 needs 16." "Ranges .. exist for speed u16, inclination s16, resistance s16, power s16, heart
-- rate u8." "Status octets: 01 gives 01; 07 gives 04; 08 gives 02 and its parameter; 02 to 06 give op code plus 3, 09 to 12 op code plus 1, 14
-- gives 15, each with the parameter. 00 gives none." The settings follow one another in the order of op codes. W-201: "Op code 13 becomes supported
-- with target bit 15: parameter 1 starts, 2 ignores.", "a start or an ignore gives none".
abbrev pub table : List Line
table =
    at 0x00 Empty None Free Silent TakesControl ∷
    at 0x01 Empty None Free (Octet 0x01) Resets ∷
    at 0x02 (One U16) (Some 0) Speed (Echo 0x05) (Stores 0) ∷
    at 0x03 (One S16) (Some 1) Inclination (Echo 0x06) (Stores 2) ∷
    at 0x04 (One U8) (Some 2) Resistance (Echo 0x07) (Stores 4) ∷
    at 0x05 (One S16) (Some 3) Power (Echo 0x08) (Stores 5) ∷
    at 0x06 (One U8) (Some 4) HeartRate (Echo 0x09) (Stores 7) ∷
    at 0x07 Empty None Free (Octet 0x04) Starts ∷
    at 0x08 (One U8) None OneOrTwo (Echo 0x02) Halts ∷
    at 0x09 (One U16) (Some 5) Free (Echo 0x0a) (Stores 8) ∷
    at 0x0a (One U16) (Some 6) Free (Echo 0x0b) (Stores 10) ∷
    at 0x0b (One U16) (Some 7) Free (Echo 0x0c) (Stores 12) ∷
    at 0x0c (One U24) (Some 8) Free (Echo 0x0d) (Stores 14) ∷
    at 0x0d (One U16) (Some 9) Free (Echo 0x0e) (Stores 17) ∷
    at 0x0e TwoZones (Some 10) Free (Echo 0x0f) (Stores 19) ∷
    at 0x0f ThreeZones (Some 11) Free (Echo 0x10) (Stores 23) ∷
    at 0x10 FiveZones (Some 12) Free (Echo 0x11) (Stores 29) ∷
    at 0x11 Simulation (Some 13) Free (Echo 0x12) (Stores 39) ∷
    at 0x12 (One U16) (Some 14) Free (Echo 0x13) (Stores 45) ∷
    at 0x13 (One U8) (Some 15) OneOrTwo Silent SpinsDown ∷
    at 0x14 (One U16) (Some 16) Free (Echo 0x15) (Stores 47) ∷ []

-- what a table says about an op code, if it has it
abbrev pub look_up : ℕ → List Line → Option OpCode
look_up o [] = None
look_up o (l ∷ ls) = cond (eqb o l.op) (Some l.code) (look_up o ls)

unfoldable pub op_code : ℕ → Option OpCode
op_code o = look_up o table
