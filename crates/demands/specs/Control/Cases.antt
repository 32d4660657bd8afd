-- Worked cases of the control point, the one marked P first, in one table: the calls from opening on, and the last answer.
use Rattle.std.specs.Prelude.{ℕ, true, List, [], ◌∷◌, ◌++◌, map, pos, negsuc}
use Rattle.record.specs.Answer.{Answer, refused, given}
use Rattle.service.specs.declared.control.Console.{Console}
use Rattle.service.specs.declared.control.ranges.Ranges.{Ranges}
use Rattle.service.specs.declared.control.spin_down.TargetSpeeds.{TargetSpeeds}
use Rattle.service.specs.Control.Replies.{Sent, sent}
use Rattle.service.specs.Control.Calls.{opening, opened}
use Rattle.demands.specs.Control.Point.{Call, connect, confirm, indicate, write, service, latest, run}

-- ranges whose increments are 1, target speeds, and a machine with every target bit except 5, energy
abbrev pub ranges : Ranges
ranges = record {
  speed = record { least = 100; greatest = 2000; increment = 1 };
  inclination = record { least = negsuc 99; greatest = pos 150; increment = 1 };
  resistance = record { least = negsuc 19; greatest = pos 50; increment = 1 };
  power = record { least = negsuc 32767; greatest = pos 32767; increment = 1 };
  heart_rate = record { least = 60; greatest = 200; increment = 1 };
}

abbrev pub speeds : TargetSpeeds
speeds = record { low = 1000; high = 2000 }

abbrev pub console : Answer Console
console = opened (opening (0 ∷ 0 ∷ 0 ∷ 0 ∷ 0xdf ∷ 0xff ∷ 0xff ∷ 0xff ∷ []) ranges speeds)

-- the answer to the last of the calls from opening on
abbrev pub answer_to : Answer Console → List Call → Answer Sent
answer_to (refused n) qs = refused n
answer_to (given k) qs = latest (run service k [] qs).0

-- a client that can write; a write, confirmed; a client that holds control
abbrev pub ready : ℕ → List Call
ready c = connect c ∷ indicate c true ∷ []

abbrev pub asks : ℕ → List ℕ → List Call
asks c s = write c s ∷ confirm c ∷ []

abbrev pub holds : ℕ → List Call
holds c = ready c ++ asks c (0 ∷ [])

pub record Case : Type 0 where
  pub calls : List Call
  pub expected : Answer Sent

abbrev pub ◌gives◌ : List Call → Answer Sent → Case
◌gives◌ qs a = record { calls = qs; expected = a }

infix 5 ◌gives◌
-- P: "the holder's second 07, the first confirmed, answers 80 07 04"
abbrev pub second_start : Case
second_start = holds 0 ++ asks 0 (7 ∷ []) ++ write 0 (7 ∷ []) ∷ [] gives sent (0x80 ∷ 7 ∷ 4 ∷ []) []

abbrev pub cases : List Case
cases =
    second_start ∷
    (ready 0 ++ write 0 (0 ∷ []) ∷ [] gives sent (0x80 ∷ 0 ∷ 1 ∷ []) []) ∷
    (holds 0 ++ ready 1 ++ write 1 (0 ∷ []) ∷ [] gives sent (0x80 ∷ 0 ∷ 4 ∷ []) []) ∷
    (holds 0 ++ ready 1 ++ write 1 (0 ∷ 0 ∷ []) ∷ [] gives sent (0x80 ∷ 0 ∷ 3 ∷ []) []) ∷
    (ready 0 ++ write 0 (0x13 ∷ 1 ∷ []) ∷ [] gives sent (0x80 ∷ 0x13 ∷ 5 ∷ []) []) ∷
    (ready 0 ++ write 0 (0x15 ∷ 1 ∷ []) ∷ [] gives sent (0x80 ∷ 0x15 ∷ 2 ∷ []) []) ∷
    (holds 0 ++ write 0 (9 ∷ 1 ∷ 0 ∷ []) ∷ [] gives sent (0x80 ∷ 9 ∷ 2 ∷ []) []) ∷
    (ready 0 ++ write 0 (2 ∷ 0xe8 ∷ 3 ∷ []) ∷ [] gives sent (0x80 ∷ 2 ∷ 5 ∷ []) []) ∷
    (holds 0 ++ write 0 (2 ∷ 0xe8 ∷ 3 ∷ []) ∷ [] gives sent (0x80 ∷ 2 ∷ 1 ∷ []) (5 ∷ 0xe8 ∷ 3 ∷ [])) ∷
    (holds 0 ++ write 0 (3 ∷ 0xff ∷ 0xff ∷ []) ∷ [] gives sent (0x80 ∷ 3 ∷ 1 ∷ []) (6 ∷ 0xff ∷ 0xff ∷ [])) ∷
    (holds 0 ++ write 0 (3 ∷ 0 ∷ 0x80 ∷ []) ∷ [] gives sent (0x80 ∷ 3 ∷ 3 ∷ []) []) ∷
    (holds 0 ++ write 0 (4 ∷ 0xff ∷ []) ∷ [] gives sent (0x80 ∷ 4 ∷ 3 ∷ []) []) ∷
    (holds 0 ++ write 0 (5 ∷ 0 ∷ 0x80 ∷ []) ∷ [] gives sent (0x80 ∷ 5 ∷ 1 ∷ []) (8 ∷ 0 ∷ 0x80 ∷ [])) ∷
    (holds 0 ++ write 0 (8 ∷ 3 ∷ []) ∷ [] gives sent (0x80 ∷ 8 ∷ 3 ∷ []) []) ∷
    (holds 0 ++ write 0 (8 ∷ 1 ∷ []) ∷ [] gives sent (0x80 ∷ 8 ∷ 4 ∷ []) []) ∷
    (holds 0 ++ asks 0 (7 ∷ []) ++ write 0 (8 ∷ 2 ∷ []) ∷ [] gives sent (0x80 ∷ 8 ∷ 1 ∷ []) (2 ∷ 2 ∷ [])) ∷
    (holds 0 ++ asks 0 (1 ∷ []) ++ write 0 (7 ∷ []) ∷ [] gives sent (0x80 ∷ 7 ∷ 5 ∷ []) []) ∷
    (holds 0 ++ write 0 (0x14 ∷ 9 ∷ 0 ∷ []) ∷ [] gives sent (0x80 ∷ 0x14 ∷ 1 ∷ []) (0x15 ∷ 9 ∷ 0 ∷ [])) ∷
    (ready 4 gives refused 10) ∷
    (connect 0 ∷ connect 0 ∷ [] gives refused 17) ∷
    (ready 0 ++ write 0 [] ∷ [] gives refused 18) ∷
    (connect 0 ∷ write 0 (0 ∷ []) ∷ [] gives refused 19) ∷
    (ready 0 ++ write 0 (7 ∷ []) ∷ ready 1 ++ write 1 (0 ∷ []) ∷ [] gives refused 20) ∷
    (holds 0 ++ confirm 0 ∷ [] gives refused 21) ∷ []

-- the answer to each case, and the expected answer
abbrev pub answered : List (Answer Sent)
answered = map (λ x. answer_to console x.calls) cases

abbrev pub expected_all : List (Answer Sent)
expected_all = map (λ x. x.expected) cases
