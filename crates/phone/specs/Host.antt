-- What a call returns to a C host, and what its pointers point to afterwards.
use Rattle.std.specs.Prelude.{ℕ, List, length}
use Rattle.record.specs.declared.notification.Part.{Part}
use Rattle.record.specs.declared.split.Extent.{Extent}
use Rattle.record.specs.Answer.{Answer, refused, given, provided, after}
use Rattle.record.specs.Groups.{known}
use Rattle.record.specs.Notification.{part_of, joined}
use Rattle.record.specs.Octets.{over}
use Rattle.record.specs.Split.{payload_known, octets, set_at, split_wire}
use Rattle.service.specs.Collector.{zeros}

-- what a call returns: a refusal's number, 0 for none
abbrev pub code : {A : Type 0} → Answer A → ℕ
code (refused n) = n
code (given a) = 0

-- the number that a pointer points to afterwards: what the call stores there, or what was there before
abbrev pub told : {A : Type 0} → Answer A → (A → ℕ) → ℕ → ℕ
told (refused n) f stood = stood
told (given a) f stood = f a

-- a part of the record in a notification, by what was read of the notification: "13 also means More Data 1"
abbrev pub from_part : ℕ → List ℕ → ℕ → ℕ → ℕ → Part → Answer Extent
from_part kind s payload i lent p = provided p.last 13 (split_wire kind p.groups p.direction (joined kind s zeros) payload i lent)

-- the refusal of a notification, or a part of the record in it
abbrev pub from_answer : ℕ → List ℕ → ℕ → ℕ → ℕ → Answer Part → Answer Extent
from_answer kind s payload i lent (refused n) = refused n
from_answer kind s payload i lent (given p) = from_part kind s payload i lent p

-- "a record crosses as a kind and one notification with More Data 0; 30 to 32 are judged on it just before 13": a part's length and the number
-- of parts, or the first of the refusals 11, 12, 30, 31, 32, 13, 15 and 14 that applies
unfoldable pub split_answer : ℕ → List ℕ → ℕ → ℕ → ℕ → Answer Extent
split_answer kind s payload i lent =
    provided (known kind) 11 (provided (payload_known payload) 12 (from_answer kind s payload i lent (part_of kind s)))

-- the octets of that part
abbrev pub octets_from : ℕ → List ℕ → ℕ → ℕ → Answer Part → List ℕ → List ℕ
octets_from kind s payload i (refused n) out = out
octets_from kind s payload i (given p) out = over out (octets kind (set_at kind p.groups payload i) p.direction (joined kind s zeros))

-- the lent octets afterwards: the part's, and past its length those that were there
abbrev pub split_lent : ℕ → List ℕ → ℕ → ℕ → List ℕ → List ℕ
split_lent kind s payload i out =
    after (split_answer kind s payload i (length out)) (octets_from kind s payload i (part_of kind s) out) out
