-- Each call by each client: the holder, the one whose response is awaited, another that is connected, one that is not, and one above 3. "connect,
-- disconnect and indications 10, 17; confirm 10, 17, 21"; "A write is judged in this order: 10, 17, 18, 19, 20"; "10 to 22 leave the state unchanged."
use Rattle.std.specs.Prelude.{ℕ, true, false, List, [], ◌∷◌, ◌++◌, Option, None, Some}
use Rattle.record.specs.Answer.{refused}
use Rattle.service.specs.declared.control.machine.Mode.TheVariants.{Running}
use Rattle.service.specs.Control.Replies.{sent}
use Rattle.demands.specs.Control.Point.{Call, connect, disconnect, confirm, indicate, write}
use Rattle.demands.specs.Control.Cases.{ready, asks, holds}
use Rattle.demands.specs.Control.Worked.Seen.{State, state, Row, row, Table, table}
use Rattle.demands.specs.Control.Worked.Ends.{Settings, able}
use Rattle.demands.specs.Control.Worked.Openings.{fair}

-- the machine runs, with a speed; clients 0 to 2 are connected, client 2 with indications off
abbrev pub fast : Settings
fast = (0x02, 0xe8 ∷ 0x03 ∷ []) ∷ []

abbrev pub three : Option ℕ → Option ℕ → State
three holder awaited = state Running holder awaited (0 ∷ 1 ∷ 2 ∷ []) (0 ∷ 1 ∷ []) fast

-- a call that is refused, a call that is not, and the state after it
abbrev pub ◌is_refused◌leaving◌ : Call → ℕ → State → Row
◌is_refused◌leaving◌ q n s = row q (refused n) s

abbrev pub ◌leaves◌ : Call → State → Row
◌leaves◌ q s = row q (sent [] []) s

infix 5 ◌is_refused◌leaving◌ ◌leaves◌
-- client 0 holds control; client 1 wrote without it, and its response awaits confirmation
abbrev pub other_due_state : State
other_due_state = three (Some 0) (Some 1)

abbrev pub other_due : Table
other_due =
    table (able fair) (holds 0 ++ asks 0 (0x02 ∷ 0xe8 ∷ 0x03 ∷ []) ++ asks 0 (0x07 ∷ []) ++ ready 1 ++ connect 2 ∷ write 1 (0x07 ∷ []) ∷ [])
    (sent (0x80 ∷ 0x07 ∷ 0x05 ∷ []) []) other_due_state
    ((connect 0 is_refused 17 leaving other_due_state) ∷
    (connect 1 is_refused 17 leaving other_due_state) ∷
    (connect 2 is_refused 17 leaving other_due_state) ∷
    (connect 3 leaves state Running (Some 0) (Some 1) (0 ∷ 1 ∷ 2 ∷ 3 ∷ []) (0 ∷ 1 ∷ []) fast) ∷
    (connect 4 is_refused 10 leaving other_due_state) ∷
    (disconnect 0 leaves state Running None (Some 1) (1 ∷ 2 ∷ []) (1 ∷ []) fast) ∷
    (disconnect 1 leaves state Running (Some 0) None (0 ∷ 2 ∷ []) (0 ∷ []) fast) ∷
    (disconnect 2 leaves state Running (Some 0) (Some 1) (0 ∷ 1 ∷ []) (0 ∷ 1 ∷ []) fast) ∷
    (disconnect 3 is_refused 17 leaving other_due_state) ∷
    (disconnect 4 is_refused 10 leaving other_due_state) ∷
    (indicate 0 true leaves other_due_state) ∷
    (indicate 1 true leaves other_due_state) ∷
    (indicate 2 true leaves state Running (Some 0) (Some 1) (0 ∷ 1 ∷ 2 ∷ []) (0 ∷ 1 ∷ 2 ∷ []) fast) ∷
    (indicate 3 true is_refused 17 leaving other_due_state) ∷
    (indicate 4 true is_refused 10 leaving other_due_state) ∷
    (indicate 0 false leaves state Running (Some 0) (Some 1) (0 ∷ 1 ∷ 2 ∷ []) (1 ∷ []) fast) ∷
    (indicate 1 false leaves state Running (Some 0) (Some 1) (0 ∷ 1 ∷ 2 ∷ []) (0 ∷ []) fast) ∷
    (indicate 2 false leaves other_due_state) ∷
    (indicate 3 false is_refused 17 leaving other_due_state) ∷
    (indicate 4 false is_refused 10 leaving other_due_state) ∷
    (write 0 (0x00 ∷ []) is_refused 20 leaving other_due_state) ∷
    (write 1 (0x00 ∷ []) is_refused 20 leaving other_due_state) ∷
    (write 2 (0x00 ∷ []) is_refused 19 leaving other_due_state) ∷
    (write 3 (0x00 ∷ []) is_refused 17 leaving other_due_state) ∷
    (write 4 (0x00 ∷ []) is_refused 10 leaving other_due_state) ∷
    (write 0 [] is_refused 18 leaving other_due_state) ∷
    (write 1 [] is_refused 18 leaving other_due_state) ∷
    (write 2 [] is_refused 18 leaving other_due_state) ∷
    (write 3 [] is_refused 17 leaving other_due_state) ∷
    (write 4 [] is_refused 10 leaving other_due_state) ∷
    (confirm 0 is_refused 21 leaving other_due_state) ∷
    (confirm 1 leaves three (Some 0) None) ∷
    (confirm 2 is_refused 21 leaving other_due_state) ∷
    (confirm 3 is_refused 17 leaving other_due_state) ∷
    (confirm 4 is_refused 10 leaving other_due_state) ∷ [])

-- client 0 holds control, and its own response awaits confirmation
abbrev pub holder_due_state : State
holder_due_state = three (Some 0) (Some 0)

abbrev pub holder_due : Table
holder_due =
    table (able fair) (holds 0 ++ asks 0 (0x02 ∷ 0xe8 ∷ 0x03 ∷ []) ++ ready 1 ++ connect 2 ∷ write 0 (0x07 ∷ []) ∷ [])
    (sent (0x80 ∷ 0x07 ∷ 0x01 ∷ []) (0x04 ∷ [])) holder_due_state
    ((connect 0 is_refused 17 leaving holder_due_state) ∷
    (connect 1 is_refused 17 leaving holder_due_state) ∷
    (connect 2 is_refused 17 leaving holder_due_state) ∷
    (connect 3 leaves state Running (Some 0) (Some 0) (0 ∷ 1 ∷ 2 ∷ 3 ∷ []) (0 ∷ 1 ∷ []) fast) ∷
    (connect 4 is_refused 10 leaving holder_due_state) ∷
    (disconnect 0 leaves state Running None None (1 ∷ 2 ∷ []) (1 ∷ []) fast) ∷
    (disconnect 1 leaves state Running (Some 0) (Some 0) (0 ∷ 2 ∷ []) (0 ∷ []) fast) ∷
    (disconnect 2 leaves state Running (Some 0) (Some 0) (0 ∷ 1 ∷ []) (0 ∷ 1 ∷ []) fast) ∷
    (disconnect 3 is_refused 17 leaving holder_due_state) ∷
    (disconnect 4 is_refused 10 leaving holder_due_state) ∷
    (indicate 0 true leaves holder_due_state) ∷
    (indicate 1 true leaves holder_due_state) ∷
    (indicate 2 true leaves state Running (Some 0) (Some 0) (0 ∷ 1 ∷ 2 ∷ []) (0 ∷ 1 ∷ 2 ∷ []) fast) ∷
    (indicate 3 true is_refused 17 leaving holder_due_state) ∷
    (indicate 4 true is_refused 10 leaving holder_due_state) ∷
    (indicate 0 false leaves state Running (Some 0) (Some 0) (0 ∷ 1 ∷ 2 ∷ []) (1 ∷ []) fast) ∷
    (indicate 1 false leaves state Running (Some 0) (Some 0) (0 ∷ 1 ∷ 2 ∷ []) (0 ∷ []) fast) ∷
    (indicate 2 false leaves holder_due_state) ∷
    (indicate 3 false is_refused 17 leaving holder_due_state) ∷
    (indicate 4 false is_refused 10 leaving holder_due_state) ∷
    (write 0 (0x00 ∷ []) is_refused 20 leaving holder_due_state) ∷
    (write 1 (0x00 ∷ []) is_refused 20 leaving holder_due_state) ∷
    (write 2 (0x00 ∷ []) is_refused 19 leaving holder_due_state) ∷
    (write 3 (0x00 ∷ []) is_refused 17 leaving holder_due_state) ∷
    (write 4 (0x00 ∷ []) is_refused 10 leaving holder_due_state) ∷
    (write 0 [] is_refused 18 leaving holder_due_state) ∷
    (write 1 [] is_refused 18 leaving holder_due_state) ∷
    (write 2 [] is_refused 18 leaving holder_due_state) ∷
    (write 3 [] is_refused 17 leaving holder_due_state) ∷
    (write 4 [] is_refused 10 leaving holder_due_state) ∷
    (confirm 0 leaves three (Some 0) None) ∷
    (confirm 1 is_refused 21 leaving holder_due_state) ∷
    (confirm 2 is_refused 21 leaving holder_due_state) ∷
    (confirm 3 is_refused 17 leaving holder_due_state) ∷
    (confirm 4 is_refused 10 leaving holder_due_state) ∷ [])

-- client 0 holds control, and nothing is due: "00 finds another holder" when client 1 writes it
abbrev pub none_due_state : State
none_due_state = three (Some 0) None

abbrev pub none_due : Table
none_due =
    table (able fair) (holds 0 ++ asks 0 (0x02 ∷ 0xe8 ∷ 0x03 ∷ []) ++ asks 0 (0x07 ∷ []) ++ ready 1 ++ connect 2 ∷ [])
    (sent [] []) none_due_state
    ((connect 0 is_refused 17 leaving none_due_state) ∷
    (connect 1 is_refused 17 leaving none_due_state) ∷
    (connect 2 is_refused 17 leaving none_due_state) ∷
    (connect 3 leaves state Running (Some 0) None (0 ∷ 1 ∷ 2 ∷ 3 ∷ []) (0 ∷ 1 ∷ []) fast) ∷
    (connect 4 is_refused 10 leaving none_due_state) ∷
    (disconnect 0 leaves state Running None None (1 ∷ 2 ∷ []) (1 ∷ []) fast) ∷
    (disconnect 1 leaves state Running (Some 0) None (0 ∷ 2 ∷ []) (0 ∷ []) fast) ∷
    (disconnect 2 leaves state Running (Some 0) None (0 ∷ 1 ∷ []) (0 ∷ 1 ∷ []) fast) ∷
    (disconnect 3 is_refused 17 leaving none_due_state) ∷
    (disconnect 4 is_refused 10 leaving none_due_state) ∷
    (indicate 0 true leaves none_due_state) ∷
    (indicate 1 true leaves none_due_state) ∷
    (indicate 2 true leaves state Running (Some 0) None (0 ∷ 1 ∷ 2 ∷ []) (0 ∷ 1 ∷ 2 ∷ []) fast) ∷
    (indicate 3 true is_refused 17 leaving none_due_state) ∷
    (indicate 4 true is_refused 10 leaving none_due_state) ∷
    (indicate 0 false leaves state Running (Some 0) None (0 ∷ 1 ∷ 2 ∷ []) (1 ∷ []) fast) ∷
    (indicate 1 false leaves state Running (Some 0) None (0 ∷ 1 ∷ 2 ∷ []) (0 ∷ []) fast) ∷
    (indicate 2 false leaves none_due_state) ∷
    (indicate 3 false is_refused 17 leaving none_due_state) ∷
    (indicate 4 false is_refused 10 leaving none_due_state) ∷
    row (write 0 (0x00 ∷ [])) (sent (0x80 ∷ 0x00 ∷ 0x01 ∷ []) []) (three (Some 0) (Some 0)) ∷
    row (write 1 (0x00 ∷ [])) (sent (0x80 ∷ 0x00 ∷ 0x04 ∷ []) []) (three (Some 0) (Some 1)) ∷
    (write 2 (0x00 ∷ []) is_refused 19 leaving none_due_state) ∷
    (write 3 (0x00 ∷ []) is_refused 17 leaving none_due_state) ∷
    (write 4 (0x00 ∷ []) is_refused 10 leaving none_due_state) ∷
    (write 0 [] is_refused 18 leaving none_due_state) ∷
    (write 1 [] is_refused 18 leaving none_due_state) ∷
    (write 2 [] is_refused 18 leaving none_due_state) ∷
    (write 3 [] is_refused 17 leaving none_due_state) ∷
    (write 4 [] is_refused 10 leaving none_due_state) ∷
    (confirm 0 is_refused 21 leaving none_due_state) ∷
    (confirm 1 is_refused 21 leaving none_due_state) ∷
    (confirm 2 is_refused 21 leaving none_due_state) ∷
    (confirm 3 is_refused 17 leaving none_due_state) ∷
    (confirm 4 is_refused 10 leaving none_due_state) ∷ [])

abbrev pub callers : List Table
callers = other_due ∷ holder_due ∷ none_due ∷ []
