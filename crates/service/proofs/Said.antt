-- The answers of a collection: the case of each, and what two equal ones have in common.
use Prim.Native.Nat.{ℕ}
use mathlib.Core.Path.{◌≡◌}
use mathlib.Core.Bool.{Bool}
use Rattle.record.specs.declared.record.Record.{Record}
use Rattle.service.specs.Collector.{Said, waiting, handed, refused}

-- the case of an answer
abbrev pub tag : Said → ℕ
tag (waiting d) = 0
tag (handed r d) = 1
tag (refused n d) = 2

pub same_waiting : (d e : Bool) → waiting d ≡ waiting e → d ≡ e
same_waiting d e h = cc

pub same_record : (r s : Record) (d e : Bool) → handed r d ≡ handed s e → r ≡ s
same_record r s d e h = cc

pub same_dropped : (r s : Record) (d e : Bool) → handed r d ≡ handed s e → d ≡ e
same_dropped r s d e h = cc

pub same_number : (m n : ℕ) (d e : Bool) → refused m d ≡ refused n e → m ≡ n
same_number m n d e h = cc

pub same_refused : (m n : ℕ) (d e : Bool) → refused m d ≡ refused n e → d ≡ e
same_refused m n d e h = cc
