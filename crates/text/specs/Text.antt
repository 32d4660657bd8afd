-- Text, and text put into a lent buffer.
use Rattle.std.specs.Prelude.{ℕ, zero, suc, ◌+◌, ◌/◌, ◌%◌, ◌≤◌, min, ◌≡◌, refl, cond, List, ◌++◌, ltb, ℤ, pos, negsuc, length, take, drop}
use Prim.Native.Char.{code}
use Prim.Native.String.{String, [], ◌∷◌}
use mathlib.Core.List as L

-- the octets of a text
abbrev pub ascii : String → List ℕ
ascii [] = L.[]
ascii (c ∷ s) = L.◌∷◌ (code c) (ascii s)

-- the decimal digits of n; the first argument is the recursion's fuel
abbrev pub digits : ℕ → ℕ → List ℕ
digits zero n = L.[]
digits (suc k) n =
    let front : List ℕ = digits k (n / 10) in
    cond (ltb n 10) L.[] front ++ (L.◌∷◌ (48 + n % 10) L.[])

-- "a bare decimal number"
unfoldable pub decimal : ℕ → List ℕ
decimal n = digits (suc n) n

-- "Numbers print as they stand, negative ones after `-`."
unfoldable pub integer : ℤ → List ℕ
integer (pos n) = decimal n
integer (negsuc n) = L.◌∷◌ 45 (decimal (suc n))

-- "wire octets are in hex": a digit, and an octet as two of them
abbrev pub hex_digit : ℕ → ℕ
hex_digit n = cond (ltb (n % 16) 10) (48 + n % 16) (55 + n % 16)

unfoldable pub hex : ℕ → List ℕ
hex b = L.◌∷◌ (hex_digit (b / 16)) (L.◌∷◌ (hex_digit b) L.[])

-- a line: a key with its `=`, a value, and LF
unfoldable pub line : List ℕ → List ℕ → List ℕ
line key value = key ++ value ++ (L.◌∷◌ 10 L.[])

-- a buffer after a text is written at a position; what lies past the buffer's end is left out
unfoldable pub written : List ℕ → ℕ → List ℕ → List ℕ
written out at text = take (length out) (take at out ++ text ++ drop (at + length text) out)

-- the largest usize, at which a position saturates
abbrev pub top : ℕ
top = 18446744073709551615

-- a text was written at a position of a buffer, and `next` is the position after it; no buffer is longer than
-- `top`
pub record Wrote (out : List ℕ) (at : ℕ) (text : List ℕ) (out' : List ℕ) (next : ℕ) : Type 0 where
  pub octets : out' ≡ written out at text
  pub place : next ≡ min (at + length text) top
  pub short : length out ≤ top

-- no leading zeros, and both ends of each width
pub ends : (decimal 0 ≡ ascii "0") × (decimal 255 ≡ ascii "255") × (decimal 65535 ≡ ascii "65535") × (decimal 16777215 ≡ ascii "16777215")
    × (integer (negsuc 32767) ≡ ascii "-32768") × (integer (negsuc 0) ≡ ascii "-1") × (integer (pos 0) ≡ ascii "0") × (integer (pos 32767) ≡ ascii "32767")
unfolding decimal integer
ends = (refl, refl, refl, refl, refl, refl, refl, refl)

-- document 01's own flags, in hex
pub in_hex : (hex 0x7F ≡ ascii "7F") × (hex 0 ≡ ascii "00") × (hex 0xC1 ≡ ascii "C1") × (hex 0xFF ≡ ascii "FF")
unfolding hex
in_hex = (refl, refl, refl, refl)
