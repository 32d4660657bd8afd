-- The listing of a capture: "a kind octet, then for each notification a u16 length and its octets. It collects openly."
use Rattle.std.specs.Prelude.{ℕ, zero, suc, ◌+◌, min, cond, List, [], ◌∷◌, ◌++◌, eqb, leb, ltb, length, take, drop}
use Rattle.record.specs.Answer.{Answer, given, provided, after}
use Rattle.record.specs.Groups.{known}
use Rattle.record.specs.Octets.{number, over}
use Rattle.service.specs.declared.collector.Collection.{Collection}
use Rattle.service.specs.declared.collector.Told.TheVariants.{Open}
use Rattle.service.specs.Collector.{Said, waiting, handed, refused, empty, collect}
use Rattle.listing.specs.declared.walk.Listing.{Listing}
use Rattle.listing.specs.Lines.{record_lines, refused_line}

-- "Waiting prints nothing. A refused notification prints `refused=` and goes on"; n is the number of the next record
abbrev pub said_lines : ℕ → Said → List ℕ
said_lines n (waiting dropped) = []
said_lines n (handed r dropped) = record_lines n r
said_lines n (refused m dropped) = refused_line m

-- "`record=` (1 up)": the number of the next record after this answer. It saturates at the largest u32, which no capture comes near.
abbrev pub number_after : ℕ → Said → ℕ
number_after n (waiting dropped) = n
number_after n (handed r dropped) = min (suc n) 4294967295
number_after n (refused m dropped) = n

-- the state of a listing: a collection, and the number of the next record
abbrev pub state : Collection → ℕ → Listing
state c n = record { collection = c; number = n }

-- a listing of a kind, before its first notification
unfoldable pub begins : ℕ → Listing
begins kind = state (empty kind Open) 1

-- one notification: its lines, and the listing after it
abbrev pub lines_of : Listing → List ℕ → List ℕ
lines_of l s = said_lines l.number (collect l.collection s).said

abbrev pub state_after : Listing → List ℕ → Listing
state_after l s = state (collect l.collection s).next (number_after l.number (collect l.collection s).said)

-- the octets of the first notification in what is left of a capture
abbrev pub first : List ℕ → List ℕ
first s = take (number 2 s) (drop 2 s)

-- the listing of what is left of a capture; the first argument is the recursion's fuel; "37 ends it where met": "capture ends inside a
-- length or notification"
unfoldable pub notifications : ℕ → Listing → List ℕ → List ℕ
notifications zero l s = []
notifications (suc k) l s =
    let rest : List ℕ = lines_of l (first s) ++ notifications k (state_after l (first s)) (drop (2 + number 2 s) s) in
    cond (eqb (length s) 0) [] (cond (ltb (length s) (2 + number 2 s)) (refused_line 37) rest)

-- a kind and what follows it; "An empty capture prints `refused=11`."
unfoldable pub from_kind : List ℕ → List ℕ
from_kind [] = refused_line 11
from_kind (kind ∷ s) = cond (known kind) (notifications (length s) (begins kind) s) (refused_line 11)

-- "36, then 11, are judged first and end the listing"
unfoldable pub listing : List ℕ → List ℕ
listing capture = cond (ltb 65536 (length capture)) (refused_line 36) (from_kind capture)

-- "The library call itself refuses only with 14, when its output can't hold the whole listing."
unfoldable pub answer_of : List ℕ → ℕ → Answer ℕ
answer_of text lent = provided (leb (length text) lent) 14 (given (length text))

-- "A refusal writes no lent octet"; lent octets past the listing are unchanged
abbrev pub lent_after : List ℕ → List ℕ → List ℕ
lent_after text out = after (answer_of text (length out)) (over out text) out
