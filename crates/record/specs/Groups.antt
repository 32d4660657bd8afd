-- Sets of groups, as masks: "a set of optional groups as the bits above". Bit 0 stands for the main group.
use Rattle.std.specs.Prelude.{ℕ, ◌+◌, ◌*◌, ◌-◌, ◌/◌, ◌%◌, ◌^◌, Bool, cond, ◌&&◌, List, [], ◌∷◌, eqb, leb}
use Rattle.std.specs.Int.Bits.{bit_and}
use Rattle.record.specs.declared.layout.Row.{Row}
use Rattle.record.specs.Layout.{layout, octets_of}

-- whether a bit is in a set
unfoldable pub has : ℕ → ℕ → Bool
has set b = eqb (set / 2 ^ b % 2) 1

-- the rows whose groups are in a set
unfoldable pub named : ℕ → List Row → List Row
named set [] = []
named set (r ∷ rows) = cond (has set r.0) (r ∷ named set rows) (named set rows)

-- the number of octets that rows take
unfoldable pub size : List Row → ℕ
size [] = 0
size (r ∷ rows) = octets_of r.2 + size rows

-- the set of the groups that rows belong to
unfoldable pub groups_of : List Row → ℕ
groups_of [] = 0
groups_of (r ∷ rows) = cond (has (groups_of rows) r.0) (groups_of rows) (groups_of rows + 2 ^ r.0)

-- a set without bit 0: the optional groups
abbrev pub optional : ℕ → ℕ
optional set = set - set % 2

-- "11: kind not 1 to 6"
abbrev pub known : ℕ → Bool
known kind = leb 1 kind && leb kind 6

-- the optional groups that are listed for a kind
unfoldable pub listed : ℕ → ℕ
listed kind = optional (groups_of (layout kind))

-- "Flags are 2 octets, for cross trainer 3."
abbrev pub flags_octets : ℕ → ℕ
flags_octets kind = cond (eqb kind 2) 3 2

-- the number of octets that the groups of a set take
abbrev pub set_length : ℕ → ℕ → ℕ
set_length kind set = size (named set (layout kind))

-- the number of octets of the group that a bit names: 0 if the kind lists no such group
abbrev pub group_length : ℕ → ℕ → ℕ
group_length kind bit = set_length kind (2 ^ bit)

-- whether every group of one set is in another
abbrev pub within : ℕ → ℕ → Bool
within set all = eqb (bit_and set all) set

-- a set with its bit 0 inverted: "Bit 0 is More Data: the main group is present exactly when it is 0."
abbrev pub turned : ℕ → ℕ
turned set = set + 1 - set % 2 * 2
