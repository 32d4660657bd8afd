-- Spin down, call by call: W-201's sentences on starts, ignores, speeds, and what ends a run. Low is 1,000 and high 2,000.
use Rattle.std.specs.Prelude.{ℕ, true, false, List, [], ◌∷◌, ◌++◌, Option, None, Some}
use Rattle.record.specs.Answer.{Answer, refused}
use Rattle.service.specs.declared.control.machine.Mode.{Mode}
use Rattle.service.specs.declared.control.machine.Mode.TheVariants.{Stopped, Running, Paused}
use Rattle.service.specs.declared.control.spin_down.Run.{Run}
use Rattle.service.specs.declared.control.spin_down.Run.TheVariants.{Off, Quiet, Warned}
use Rattle.service.specs.Control.Replies.{Sent, sent}
use Rattle.demands.specs.Control.Point.{Call, connect, disconnect, confirm, indicate, write, flywheel}
use Rattle.demands.specs.Control.Cases.{ready, asks, holds}
use Rattle.demands.specs.Control.Worked.Seen.{State, state, in_run, Row, row, Table, table}
use Rattle.demands.specs.Control.Worked.Ends.{able}
use Rattle.demands.specs.Control.Worked.Openings.{fair}

-- client 0 holds control of a stopped machine, alone, with this run; nothing is due, or its response is
abbrev pub alone : Run → State
alone r = in_run r (state Stopped (Some 0) None (0 ∷ []) (0 ∷ []) [])

abbrev pub due : Run → State
due r = in_run r (state Stopped (Some 0) (Some 0) (0 ∷ []) (0 ∷ []) [])

-- "A successful start answers 80 13 01 followed by a low and a high target speed": 1,000 is 03E8 hex, 2,000 is 07D0 hex
abbrev pub start_answer : Answer Sent
start_answer = sent (0x80 ∷ 0x13 ∷ 0x01 ∷ 0xe8 ∷ 0x03 ∷ 0xd0 ∷ 0x07 ∷ []) []

abbrev pub starts : List Call
starts = holds 0 ++ asks 0 (0x13 ∷ 1 ∷ [])

-- a speed, what is said at it, and the run after it
abbrev pub at : ℕ → List ℕ → Run → Row
at v s r = row (flywheel v) (sent [] s) (alone r)

-- "above the high speed nothing happens, at the first speed at or below it the console says 4, at or below the low speed .. it says success only and
-- the run is over. Outside a run a speed does nothing": a whole run, then a second one that has said nothing yet
abbrev pub falling : Table
falling =
    table (able fair) starts (sent [] []) (alone Quiet)
    (at 2001 [] Quiet ∷
    at 2000 (0x14 ∷ 4 ∷ []) Warned ∷
    at 1999 [] Warned ∷
    at 2001 [] Warned ∷
    at 1500 [] Warned ∷
    at 1000 (0x14 ∷ 2 ∷ []) Off ∷
    at 900 [] Off ∷
    at 1500 [] Off ∷
    row (write 0 (0x13 ∷ 1 ∷ [])) start_answer (due Quiet) ∷
    row (confirm 0) (sent [] []) (alone Quiet) ∷
    at 1001 (0x14 ∷ 4 ∷ []) Warned ∷
    at 0 (0x14 ∷ 2 ∷ []) Off ∷ [])

-- "even at once": the first speed is 1,000, then the run is over
abbrev pub at_once : Table
at_once = table (able fair) starts (sent [] []) (alone Quiet) (at 1000 (0x14 ∷ 2 ∷ []) Off ∷ at 1000 [] Off ∷ [])

-- "04 for a start during a run", which goes on as it was; "result 03 for neither 1 nor 2"; "an ignore ends a run without a status of its own"
abbrev pub again : Table
again =
    table (able fair) (starts ++ flywheel 2000 ∷ []) (sent [] (0x14 ∷ 4 ∷ [])) (alone Warned)
    (row (write 0 (0x13 ∷ 1 ∷ [])) (sent (0x80 ∷ 0x13 ∷ 0x04 ∷ []) []) (due Warned) ∷
    row (confirm 0) (sent [] []) (alone Warned) ∷
    row (write 0 (0x13 ∷ 3 ∷ [])) (sent (0x80 ∷ 0x13 ∷ 0x03 ∷ []) []) (due Warned) ∷
    row (confirm 0) (sent [] []) (alone Warned) ∷
    row (write 0 (0x13 ∷ 2 ∷ [])) (sent (0x80 ∷ 0x13 ∷ 0x01 ∷ []) []) (due Off) ∷
    at_due 1000 [] Off ∷
    row (confirm 0) (sent [] []) (alone Off) ∷
    row (write 0 (0x13 ∷ 2 ∷ [])) (sent (0x80 ∷ 0x13 ∷ 0x01 ∷ []) []) (due Off) ∷ [])
  where
    at_due : ℕ → List ℕ → Run → Row
    at_due v s r = row (flywheel v) (sent [] s) (due r)

-- client 0 holds control of a machine in this mode, with this run; client 1 is connected too
abbrev pub both : Mode → Run → Option ℕ → State
both m r w = in_run r (state m (Some 0) w (0 ∷ 1 ∷ []) (0 ∷ 1 ∷ []) [])

-- "Reset, disconnect of the holder or an ignore ends a run without a status of its own"; and what does not end it: a second start, 13 with 3 or with two
-- octets, a stop or pause of the machine, its start, which fails, a target, 00, indications, a refusal, and another client's calls
abbrev pub lasting : Run → List Call → Answer Sent → Table
lasting r speeds a =
    table (able fair) (holds 0 ++ asks 0 (0x07 ∷ []) ++ ready 1 ++ asks 0 (0x13 ∷ 1 ∷ []) ++ speeds) a (both Running r None)
    (row (write 0 (0x01 ∷ [])) (sent (0x80 ∷ 0x01 ∷ 0x01 ∷ []) (0x01 ∷ []))
    (state Stopped None (Some 0) (0 ∷ 1 ∷ []) (0 ∷ 1 ∷ []) []) ∷
    row (disconnect 0) (sent [] []) (state Running None None (1 ∷ []) (1 ∷ []) []) ∷
    row (write 0 (0x13 ∷ 2 ∷ [])) (sent (0x80 ∷ 0x13 ∷ 0x01 ∷ []) []) (both Running Off (Some 0)) ∷
    row (write 0 (0x13 ∷ 1 ∷ [])) (sent (0x80 ∷ 0x13 ∷ 0x04 ∷ []) []) (both Running r (Some 0)) ∷
    row (write 0 (0x13 ∷ 3 ∷ [])) (sent (0x80 ∷ 0x13 ∷ 0x03 ∷ []) []) (both Running r (Some 0)) ∷
    row (write 0 (0x13 ∷ 1 ∷ 0 ∷ [])) (sent (0x80 ∷ 0x13 ∷ 0x03 ∷ []) []) (both Running r (Some 0)) ∷
    row (write 0 (0x08 ∷ 1 ∷ [])) (sent (0x80 ∷ 0x08 ∷ 0x01 ∷ []) (0x02 ∷ 1 ∷ [])) (both Stopped r (Some 0)) ∷
    row (write 0 (0x08 ∷ 2 ∷ [])) (sent (0x80 ∷ 0x08 ∷ 0x01 ∷ []) (0x02 ∷ 2 ∷ [])) (both Paused r (Some 0)) ∷
    row (write 0 (0x07 ∷ [])) (sent (0x80 ∷ 0x07 ∷ 0x04 ∷ []) []) (both Running r (Some 0)) ∷
    row (write 0 (0x02 ∷ 0xe8 ∷ 0x03 ∷ [])) (sent (0x80 ∷ 0x02 ∷ 0x01 ∷ []) (0x05 ∷ 0xe8 ∷ 0x03 ∷ []))
    (in_run r (state Running (Some 0) (Some 0) (0 ∷ 1 ∷ []) (0 ∷ 1 ∷ []) ((0x02, 0xe8 ∷ 0x03 ∷ []) ∷ []))) ∷
    row (write 0 (0x00 ∷ [])) (sent (0x80 ∷ 0x00 ∷ 0x01 ∷ []) []) (both Running r (Some 0)) ∷
    row (indicate 0 false) (sent [] []) (in_run r (state Running (Some 0) None (0 ∷ 1 ∷ []) (1 ∷ []) [])) ∷
    row (write 0 []) (refused 18) (both Running r None) ∷
    row (disconnect 1) (sent [] []) (in_run r (state Running (Some 0) None (0 ∷ []) (0 ∷ []) [])) ∷
    row (write 1 (0x13 ∷ 1 ∷ [])) (sent (0x80 ∷ 0x13 ∷ 0x05 ∷ []) []) (both Running r (Some 1)) ∷
    row (write 1 (0x13 ∷ 2 ∷ [])) (sent (0x80 ∷ 0x13 ∷ 0x05 ∷ []) []) (both Running r (Some 1)) ∷
    row (write 1 (0x01 ∷ [])) (sent (0x80 ∷ 0x01 ∷ 0x05 ∷ []) []) (both Running r (Some 1)) ∷
    row (write 1 (0x00 ∷ [])) (sent (0x80 ∷ 0x00 ∷ 0x04 ∷ []) []) (both Running r (Some 1)) ∷
    row (disconnect 2) (refused 17) (both Running r None) ∷ [])

abbrev pub ends_or_not : List Table
ends_or_not = lasting Quiet [] (sent [] []) ∷ lasting Warned (flywheel 2000 ∷ []) (sent [] (0x14 ∷ 4 ∷ [])) ∷ []

-- after the holder's disconnect nothing is said, also when it is back and holds control again
abbrev pub left : Table
left =
    table (able fair) (starts ++ flywheel 2000 ∷ disconnect 0 ∷ []) (sent [] []) (state Stopped None None [] [] [])
    (row (flywheel 1000) (sent [] []) (state Stopped None None [] [] []) ∷
    row (connect 0) (sent [] []) (state Stopped None None (0 ∷ []) [] []) ∷
    row (indicate 0 true) (sent [] []) (state Stopped None None (0 ∷ []) (0 ∷ []) []) ∷
    row (write 0 (0x00 ∷ [])) (sent (0x80 ∷ 0x00 ∷ 0x01 ∷ []) []) (due Off) ∷
    row (confirm 0) (sent [] []) (alone Off) ∷
    at 1000 [] Off ∷ [])

-- each row from the state that the row before it leads to; those of `ends_or_not`, each from the state above them
abbrev pub coasting : List Table
coasting = falling ∷ at_once ∷ again ∷ left ∷ []
