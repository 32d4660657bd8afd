-- Splitting a record into parts, each a notification.
use Rattle.std.specs.Prelude.{ℕ, zero, suc, ◌+◌, ◌*◌, ◌-◌, ◌%◌, ◌^◌, Bool, cond, ◌&&◌, List, [], ◌∷◌, ◌++◌, leb, ltb, length, get_or}
use Rattle.record.specs.declared.layout.Row.{Row}
use Rattle.record.specs.declared.record.Record.{Record}
use Rattle.record.specs.declared.split.Extent.{Extent}
use Rattle.record.specs.Layout.{layout, octets_of}
use Rattle.record.specs.Groups.{named, known, flags_octets, set_length, turned}
use Rattle.record.specs.Octets.{spelled, over}
use Rattle.record.specs.Record.{wire, formed}
use Rattle.record.specs.Answer.{Answer, given, provided, after}

-- "12: payload not 20 to 512"
abbrev pub payload_known : ℕ → Bool
payload_known payload = leb 20 payload && leb payload 512

-- whether the groups of a set fit in room octets
abbrev pub fits : ℕ → ℕ → ℕ → Bool
fits kind set room = leb (set_length kind set) room

-- the highest bit, at most n, below which the groups of a set fit in room octets
unfoldable pub longest : ℕ → ℕ → ℕ → ℕ → ℕ
longest kind set room zero = 0
longest kind set room (suc n) =
    let lower : ℕ = longest kind set room n in
    cond (fits kind (set % 2 ^ suc n) room) (suc n) lower

-- "the longest run of the lowest remaining groups that fits"
abbrev pub run : ℕ → ℕ → ℕ → ℕ
run kind room set = set % 2 ^ longest kind set room 15

-- the sets of the parts, at most n of them: "While flags, main group and all remaining optional groups don't fit in one payload, a part with
-- More Data 1 is sent holding the longest run of the lowest remaining groups that fits. Then one part with More Data 0 holds the main
-- group and what remains."
unfoldable pub cut : ℕ → ℕ → ℕ → ℕ → List ℕ
cut kind room set zero = []
cut kind room set (suc n) =
    let first : ℕ = run kind room set in
    let more : List ℕ = first ∷ cut kind room (set - first) n in
    cond (fits kind (1 + set) room) ((1 + set) ∷ []) more

-- the sets of the parts of a record at a payload; sixteen bounds the recursion, and no record has more than three parts
abbrev pub sets_of : ℕ → ℕ → ℕ → List ℕ
sets_of kind groups payload = cut kind (payload - flags_octets kind) groups 16

-- the octets of rows, from a record's wire numbers
unfoldable pub written : List Row → List ℕ → List ℕ
written [] v = []
written (r ∷ rows) v = spelled (octets_of r.2) (get_or v r.1 0) ++ written rows v

-- a part's flags: its groups, More Data if the main group is absent, and "Direction is set in every part"
abbrev pub flags : ℕ → ℕ → ℕ
flags set direction = turned set + direction * 2 ^ 15

-- the octets of a part with a set of groups; bit 0 stands for the main group
abbrev pub octets : ℕ → ℕ → ℕ → List ℕ → List ℕ
octets kind set direction v = spelled (flags_octets kind) (flags set direction) ++ written (named set (layout kind)) v

-- part i of a record: its set at a payload, and its octets
abbrev pub set_at : ℕ → ℕ → ℕ → ℕ → ℕ
set_at kind groups payload i = get_or (sets_of kind groups payload) i 0

abbrev pub part_octets : Record → ℕ → ℕ → List ℕ
part_octets r payload i = octets r.kind (set_at r.kind r.groups payload i) r.direction (wire r)

-- a part's length and the number of parts, or the first of the refusals 15 and 14 that applies
unfoldable pub extent_of : ℕ → ℕ → ℕ → List ℕ → ℕ → ℕ → ℕ → Answer Extent
extent_of kind groups direction v payload i lent =
    let size : ℕ = length (octets kind (set_at kind groups payload i) direction v) in
    let count : ℕ = length (sets_of kind groups payload) in
    provided (ltb i count) 15 (provided (leb size lent) 14 (given (record { length = size; parts = count })))

-- "The answer for part i, counted from 0, is its octets, its length and the number of parts": here the length and the number of parts, or
-- the first of the refusals 11, 12, 13, 15 and 14 that applies, for a record's kind, groups, direction and wire numbers
unfoldable pub split_wire : ℕ → ℕ → ℕ → List ℕ → ℕ → ℕ → ℕ → Answer Extent
split_wire kind groups direction v payload i lent =
    provided (known kind) 11
    (provided (payload_known payload) 12
    (provided (formed kind groups direction v) 13 (extent_of kind groups direction v payload i lent)))

-- the same for a record
abbrev pub split_of : Record → ℕ → ℕ → ℕ → Answer Extent
split_of r payload i lent = split_wire r.kind r.groups r.direction (wire r) payload i lent

-- the lent buffer afterwards: the part's octets, and past its length those that were lent
abbrev pub lent_after : Record → ℕ → ℕ → List ℕ → List ℕ
lent_after r payload i out = after (split_of r payload i (length out)) (over out (part_octets r payload i)) out
