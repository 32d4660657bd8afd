-- Each target bit alone against each op code that needs one: "02 to 06 need target bits 0 to 4, 09 to 12 need 5 to 14, 14 needs 16", "unsupported op
-- code, result 02", "Other bits are .. ignored when read". The bits are in the last four octets of the Feature value, least first.
use Rattle.std.specs.Prelude.{ℕ, cond, List, [], ◌∷◌, map, eqb}
use Rattle.service.specs.Control.Replies.{sent}
use Rattle.service.specs.Control.Calls.{opening}
use Rattle.demands.specs.Control.Point.{write}
use Rattle.service.specs.declared.control.spin_down.Run.TheVariants.{Quiet}
use Rattle.demands.specs.Control.Cases.{speeds, holds}
use Rattle.demands.specs.Control.Worked.Seen.{in_run, Row, row, Table, table}
use Rattle.demands.specs.Control.Worked.Ends.{takes, stored, standing}
use Rattle.demands.specs.Control.Worked.Openings.{fair}
use Rattle.demands.specs.Control.Worked.Courses.{sixteen}

-- a write of an op code that is not supported, with its parameter
abbrev pub unsupported : ℕ → List ℕ → Row
unsupported o p = row (write 0 (o ∷ p)) (sent (0x80 ∷ o ∷ 0x02 ∷ []) []) (stored [])

-- all sixteen op codes and 13, of which one is accepted, with its status octet
abbrev pub but_for : ℕ → ℕ → List Row
but_for one x = unsupported 0x13 (1 ∷ []) ∷ map (λ y. cond (eqb y.0 one) (takes y.0 y.1 x ((y.0, y.1) ∷ [])) (unsupported y.0 y.1)) sixteen

-- a machine with these target settings, which support that op code alone
abbrev pub supports : List ℕ → ℕ → ℕ → Table
supports targets one x = table (opening (0 ∷ 0 ∷ 0 ∷ 0 ∷ targets) fair speeds) (holds 0) (sent [] []) (standing []) (but_for one x)

-- and one with every feature and these target settings, which support none
abbrev pub supports_none : List ℕ → Table
supports_none targets =
    table (opening (0xff ∷ 0xff ∷ 0xff ∷ 0xff ∷ targets) fair speeds) (holds 0) (sent [] []) (standing [])
    (unsupported 0x13 (1 ∷ []) ∷ map (λ y. unsupported y.0 y.1) sixteen)

-- "Op code 13 becomes supported with target bit 15": and no other op code with it
abbrev pub supports_spin_down : Table
supports_spin_down =
    table (opening (0 ∷ 0 ∷ 0 ∷ 0 ∷ 0 ∷ 0x80 ∷ 0 ∷ 0 ∷ []) fair speeds) (holds 0) (sent [] []) (standing [])
    (row (write 0 (0x13 ∷ 1 ∷ [])) (sent (0x80 ∷ 0x13 ∷ 0x01 ∷ 0xe8 ∷ 0x03 ∷ 0xd0 ∷ 0x07 ∷ []) []) (in_run Quiet (stored [])) ∷
    row (write 0 (0x13 ∷ 2 ∷ [])) (sent (0x80 ∷ 0x13 ∷ 0x01 ∷ []) []) (stored []) ∷
    map (λ y. unsupported y.0 y.1) sixteen)

abbrev pub needs : List Table
needs =
    supports (0x01 ∷ 0 ∷ 0 ∷ 0 ∷ []) 0x02 0x05 ∷
    supports (0x02 ∷ 0 ∷ 0 ∷ 0 ∷ []) 0x03 0x06 ∷
    supports (0x04 ∷ 0 ∷ 0 ∷ 0 ∷ []) 0x04 0x07 ∷
    supports (0x08 ∷ 0 ∷ 0 ∷ 0 ∷ []) 0x05 0x08 ∷
    supports (0x10 ∷ 0 ∷ 0 ∷ 0 ∷ []) 0x06 0x09 ∷
    supports (0x20 ∷ 0 ∷ 0 ∷ 0 ∷ []) 0x09 0x0a ∷
    supports (0x40 ∷ 0 ∷ 0 ∷ 0 ∷ []) 0x0a 0x0b ∷
    supports (0x80 ∷ 0 ∷ 0 ∷ 0 ∷ []) 0x0b 0x0c ∷
    supports (0 ∷ 0x01 ∷ 0 ∷ 0 ∷ []) 0x0c 0x0d ∷
    supports (0 ∷ 0x02 ∷ 0 ∷ 0 ∷ []) 0x0d 0x0e ∷
    supports (0 ∷ 0x04 ∷ 0 ∷ 0 ∷ []) 0x0e 0x0f ∷
    supports (0 ∷ 0x08 ∷ 0 ∷ 0 ∷ []) 0x0f 0x10 ∷
    supports (0 ∷ 0x10 ∷ 0 ∷ 0 ∷ []) 0x10 0x11 ∷
    supports (0 ∷ 0x20 ∷ 0 ∷ 0 ∷ []) 0x11 0x12 ∷
    supports (0 ∷ 0x40 ∷ 0 ∷ 0 ∷ []) 0x12 0x13 ∷
    supports_spin_down ∷
    supports (0 ∷ 0 ∷ 0x01 ∷ 0 ∷ []) 0x14 0x15 ∷
    supports_none (0 ∷ 0 ∷ 0xfe ∷ 0xff ∷ []) ∷
    supports_none (0 ∷ 0 ∷ 0 ∷ 0 ∷ []) ∷ []
