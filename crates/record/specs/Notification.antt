-- Reading a notification: "A notification is a flags field, then the groups named by its bits, in ascending bit order, least octet first."
use Rattle.std.specs.Prelude.{ℕ, ◌+◌, ◌/◌, ◌%◌, ◌^◌, cond, List, [], ◌∷◌, eqb, leb, length, drop, set}
use Rattle.std.specs.Int.Bits.{bit_and}
use Rattle.record.specs.declared.layout.Row.{Row}
use Rattle.record.specs.declared.notification.Part.{Part}
use Rattle.record.specs.Layout.{layout, octets_of}
use Rattle.record.specs.Groups.{named, known, listed, flags_octets, set_length, optional, turned}
use Rattle.record.specs.Octets.{number}
use Rattle.record.specs.Answer.{Answer, given, provided, after}

-- the flags of a notification
abbrev pub flags_of : ℕ → List ℕ → ℕ
flags_of kind s = number (flags_octets kind) s

-- the groups that flags name; bit 0 stands for the main group. "Bit 0 is More Data: the main group is present exactly when it is 0." "All
-- other bits are reserved: .. ignored when read."
abbrev pub names : ℕ → ℕ → ℕ
names kind flags = bit_and (turned flags) (1 + listed kind)

-- "Kind 2 has direction in bit 15 (0 forward, 1 backward)."
abbrev pub heading : ℕ → ℕ → ℕ
heading kind flags = cond (eqb kind 2) (flags / 2 ^ 15 % 2) 0

-- what the flags of a notification say: its optional groups, whether it is the last part, and its direction; or the first of the refusals
-- 11, 30, 31 and 32 that applies
unfoldable pub part_of : ℕ → List ℕ → Answer Part
part_of kind s =
    let flags : ℕ = flags_of kind s in
    let part : Part = record { groups = optional (names kind flags); last = eqb (flags % 2) 0; direction = heading kind flags } in
    provided (known kind) 11
    (provided (leb (length s) 512) 30
    (provided (leb (flags_octets kind) (length s)) 31
    (provided (leb (flags_octets kind + set_length kind (names kind flags)) (length s)) 32 (given part))))

-- a record's numbers, with those of rows read from octets
unfoldable pub read_into : List Row → List ℕ → List ℕ → List ℕ
read_into [] s v = v
read_into (r ∷ rows) s v = read_into rows (drop (octets_of r.2) s) (set v r.1 (number (octets_of r.2) s))

-- a record's numbers, with those of a set's groups read from the octets after the flags
unfoldable pub values : ℕ → ℕ → List ℕ → List ℕ → List ℕ
values kind set s v = read_into (named set (layout kind)) (drop (flags_octets kind) s) v

-- the numbers of the groups that a notification names, joined to numbers already held. "Octets after the last named group are ignored."
abbrev pub joined : ℕ → List ℕ → List ℕ → List ℕ
joined kind s v = values kind (names kind (flags_of kind s)) s v

-- the numbers held after a notification: unchanged if it is refused
abbrev pub held_after : ℕ → List ℕ → List ℕ → List ℕ
held_after kind s v = after (part_of kind s) (joined kind s v) v
