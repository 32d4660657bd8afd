-- What a reply of the code means in document 01: "Replies come back by value."
use Rattle.std.specs.Prelude.{ℕ, ◌≡◌, List, [], Result, Ok, Err}
use Rattle.record.specs.Answer.{Answer, refused, given}
use Rattle.record.specs.declared.refusal.Refusal.{Refusal}
use Rattle.record.specs.Refusal.{number_of}
use Rattle.service.specs.declared.control.Console.{Console}
use Rattle.service.specs.declared.control.Reply.{Reply}
use Rattle.service.specs.Control.Counted.{boxed, counted}

-- what a call sends: response octets and status octets, either may be empty
pub record Sent : Type 0 where
  pub response : List ℕ
  pub status : List ℕ

abbrev pub response_of : Answer Sent → List ℕ
response_of (refused n) = []
response_of (given s) = s.response

abbrev pub status_of : Answer Sent → List ℕ
status_of (refused n) = []
status_of (given s) = s.status

-- document 01's refusal number, 0 if nothing is refused
abbrev pub refusal_of : Answer Sent → ℕ
refusal_of (refused n) = n
refusal_of (given s) = 0

-- "10 to 22 leave the state unchanged."
abbrev pub refuses : Console → ℕ → Answer Sent × Console
refuses k n = (refused n, k)

-- an answer with these response octets and status octets
abbrev pub sent : List ℕ → List ℕ → Answer Sent
sent r s = given (record { response = r; status = s })

abbrev pub responds : List ℕ → List ℕ → Console → Answer Sent × Console
responds r s k = (sent r s, k)

abbrev pub accepts : Console → Answer Sent × Console
accepts k = responds [] [] k

-- what an outcome with these octets means
abbrev pub meant_outcome : Result (Unit {0}) Refusal → List ℕ → List ℕ → Answer Sent
meant_outcome (Ok done) r s = sent r s
meant_outcome (Err x) r s = refused (number_of x)

abbrev pub meant : Reply → Answer Sent × Console
meant r = (meant_outcome r.outcome (counted r.response) (counted r.status), r.console)

-- a reply means this, and its octets past the counts are 0
pub record Says (r : Reply) (x : Answer Sent × Console) : Type 0 where
  pub means : meant r ≡ x
  pub response_rest : r.response ≡ boxed (response_of x.0)
  pub status_rest : r.status ≡ boxed (status_of x.0)
