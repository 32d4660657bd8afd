-- A call's answer, and what the call leaves in a lent buffer.
use Rattle.std.specs.Prelude.{ℕ, Bool, cond, Result, Ok, Err}
use Rattle.record.specs.declared.refusal.Refusal.{Refusal}
use Rattle.record.specs.Refusal.{number_of}

-- an answer, or document 01's number of a refusal
pub data Answer (A : Type 0) : Type 0 where
  refused : ℕ → Answer A
  given : A → Answer A

-- what a call's result means in document 01: what it gives, or the refusal's number
abbrev pub meant : {A : Type 0} → Result A Refusal → Answer A
meant (Ok a) = given a
meant (Err r) = refused (number_of r)

-- "Where several apply": the answer if a test holds, and otherwise the refusal n
abbrev pub provided : {A : Type 0} → Bool → ℕ → Answer A → Answer A
provided test n answer = cond test answer (refused n)

-- "A refusal writes no lent octet": what a lent buffer holds after an answer
abbrev pub after : {A B : Type 0} → Answer A → B → B → B
after (refused n) written lent = lent
after (given a) written lent = written
