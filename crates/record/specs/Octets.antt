-- Octets and the numbers that they spell: "Widths: u8, u16, u24, s16 (two's complement, −32,768 to 32,767)", "least octet first".
use Rattle.std.specs.Prelude.{ℕ, zero, suc, ◌+◌, ◌*◌, ◌/◌, ◌%◌, List, [], ◌∷◌, ◌++◌, ℤ, length, drop}
use Rattle.std.proofs.lemmas.List.Edits.{sets}
use Rattle.std.specs.Int.{w16}
use Rattle.std.proofs.Common.{to_z, of_z}

-- the n octets of a number, least first
unfoldable pub spelled : ℕ → ℕ → List ℕ
spelled zero x = []
spelled (suc n) x = x % 256 ∷ spelled n (x / 256)

-- the number that the first n octets of a list spell; an octet past its end counts as 0
unfoldable pub number : ℕ → List ℕ → ℕ
number zero s = 0
number (suc n) [] = 0
number (suc n) (b ∷ s) = b + 256 * number n s

-- sixteen bits as a signed number, and a signed number as sixteen bits: two's complement, as in the code's i16
abbrev pub signed : ℕ → ℤ
signed n = to_z w16 n

abbrev pub unsigned : ℤ → ℕ
unsigned z = of_z w16 z

-- lent octets with others written over them from an index on; what would go past the end is left out
abbrev pub placed : List ℕ → ℕ → List ℕ → List ℕ
placed out at octets = sets out at octets

-- "lent octets past the length stay": an answer's octets, and after them what was lent
abbrev pub over : List ℕ → List ℕ → List ℕ
over out octets = octets ++ drop (length octets) out
