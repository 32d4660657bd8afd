-- Octets that are returned with their count.
use Rattle.std.specs.Prelude.{ℕ, ◌-◌, List, ◌++◌, length, take, replicate}
use Rattle.service.specs.declared.control.counted.Counted.{Counted}

-- octets with their count, and zeros past it
abbrev pub boxed : List ℕ → Counted
boxed p = record { count = length p; octets = p ++ replicate (11 - length p) 0 }

-- the octets that count
abbrev pub counted : Counted → List ℕ
counted o = take o.count o.octets
