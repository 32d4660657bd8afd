-- The parameters of the op codes: "02 speed u16", "0E two zones, 0F three, 10 five, one u16 for each zone, 11 wind s16, grade s16, rolling u8, drag u8".
use Rattle.std.specs.Prelude.{ℕ, ◌+◌, List, [], ◌∷◌}
use Rattle.record.specs.declared.layout.Width.{Width}
use Rattle.record.specs.declared.layout.Width.TheVariants.{U8, U16, S16}
use Rattle.record.specs.Layout.{octets_of}
use Rattle.service.specs.declared.control.parameters.Parameter.{Parameter}
use Rattle.service.specs.declared.control.parameters.Parameter.TheVariants.{Empty, One, TwoZones, ThreeZones, FiveZones, Simulation}

-- the widths of a parameter's numbers, in their order
abbrev pub widths : Parameter → List Width
widths Empty = []
widths (One w) = w ∷ []
widths TwoZones = U16 ∷ U16 ∷ []
widths ThreeZones = U16 ∷ U16 ∷ U16 ∷ []
widths FiveZones = U16 ∷ U16 ∷ U16 ∷ U16 ∷ U16 ∷ []
widths Simulation = S16 ∷ S16 ∷ U8 ∷ U8 ∷ []

-- the number of octets that widths take together
abbrev pub together : List Width → ℕ
together [] = 0
together (w ∷ ws) = octets_of w + together ws

-- the number of octets that a parameter takes
abbrev pub size : Parameter → ℕ
size p = together (widths p)
