-- Demand 2 as running code: what comes back when a record is split and collected.
use Rattle.std.specs.Prelude.{ℕ}
use Rattle.record.specs.declared.record.Record.{Record}
use Rattle.record.specs.Answer.{Answer, given, provided}
use Rattle.record.specs.Groups.{known}
use Rattle.record.specs.Record.{well_formed}
use Rattle.record.specs.Split.{payload_known}

-- "Any well-formed record, split at any payload from 20 to 512 .. comes back equal"; a record that is not well formed, or another payload, is
-- refused as by the splitter: 11, 12, 13
abbrev pub back_of : Record → ℕ → Answer Record
back_of r payload = provided (known r.kind) 11 (provided (payload_known payload) 12 (provided (well_formed r) 13 (given r)))
