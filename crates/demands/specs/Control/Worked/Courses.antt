-- Sequences of calls, each row from the state that the row before it leads to; and each setting, alone and with all others.
use Rattle.std.specs.Prelude.{ℕ, true, false, List, [], ◌∷◌, ◌++◌, None, Some}
use Rattle.service.specs.declared.control.machine.Mode.TheVariants.{Stopped, Running, Paused}
use Rattle.service.specs.Control.Replies.{sent}
use Rattle.demands.specs.Control.Point.{Call, connect, disconnect, confirm, indicate, write}
use Rattle.demands.specs.Control.Cases.{ready, asks, holds}
use Rattle.demands.specs.Control.Worked.Seen.{State, state, Row, row, Table, table}
use Rattle.demands.specs.Control.Worked.Ends.{Settings, able, takes, standing, middle}
use Rattle.demands.specs.Control.Worked.Openings.{fair}
use Rattle.demands.specs.Control.Worked.Callers.{fast, ◌is_refused◌leaving◌, ◌leaves◌}

-- a write with its response's result and its status octets
abbrev pub said : ℕ → ℕ → List ℕ → ℕ → List ℕ → State → Row
said c o p r s x = row (write c (o ∷ p)) (sent (0x80 ∷ o ∷ r ∷ []) s) x

-- lists of clients: both, and one alone
abbrev pub both : List ℕ
both = 0 ∷ 1 ∷ []

abbrev pub only : ℕ → List ℕ
only c = c ∷ []

-- "Indications are off at connect; turning them off leaves an awaited response due.": no client can write until client 0 confirms, which it can do
-- with indications off
abbrev pub off_while_due : Table
off_while_due =
    table (able fair) [] (sent [] []) (state Stopped None None [] [] [])
    ((connect 0 leaves state Stopped None None (only 0) [] []) ∷
    (indicate 0 true leaves state Stopped None None (only 0) (only 0) []) ∷
    (connect 1 leaves state Stopped None None both (only 0) []) ∷
    (indicate 1 true leaves state Stopped None None both both []) ∷
    said 0 0x00 [] 0x01 [] (state Stopped (Some 0) (Some 0) both both []) ∷
    (indicate 0 false leaves state Stopped (Some 0) (Some 0) both (only 1) []) ∷
    (write 1 (0x00 ∷ []) is_refused 20 leaving state Stopped (Some 0) (Some 0) both (only 1) []) ∷
    (write 0 (0x07 ∷ []) is_refused 19 leaving state Stopped (Some 0) (Some 0) both (only 1) []) ∷
    (indicate 0 true leaves state Stopped (Some 0) (Some 0) both both []) ∷
    (write 0 (0x07 ∷ []) is_refused 20 leaving state Stopped (Some 0) (Some 0) both both []) ∷
    (indicate 0 false leaves state Stopped (Some 0) (Some 0) both (only 1) []) ∷
    (confirm 1 is_refused 21 leaving state Stopped (Some 0) (Some 0) both (only 1) []) ∷
    (confirm 0 leaves state Stopped (Some 0) None both (only 1) []) ∷
    (confirm 0 is_refused 21 leaving state Stopped (Some 0) None both (only 1) []) ∷
    said 1 0x00 [] 0x04 [] (state Stopped (Some 0) (Some 1) both (only 1) []) ∷ [])

-- "Disconnect frees control held by that client, its indications and its awaited response.": of no other client; the machine runs on with its settings
abbrev pub clients_leave : Table
clients_leave =
    table (able fair) (holds 0 ++ asks 0 (0x02 ∷ 0xe8 ∷ 0x03 ∷ []) ++ asks 0 (0x07 ∷ []) ++ ready 1 ++ write 1 (0x07 ∷ []) ∷ [])
    (sent (0x80 ∷ 0x07 ∷ 0x05 ∷ []) []) (state Running (Some 0) (Some 1) both both fast)
    ((disconnect 0 leaves state Running None (Some 1) (only 1) (only 1) fast) ∷
    (connect 0 leaves state Running None (Some 1) both (only 1) fast) ∷
    (indicate 0 true leaves state Running None (Some 1) both both fast) ∷
    (write 0 (0x07 ∷ []) is_refused 20 leaving state Running None (Some 1) both both fast) ∷
    (disconnect 1 leaves state Running None None (only 0) (only 0) fast) ∷
    said 0 0x07 [] 0x05 [] (state Running None (Some 0) (only 0) (only 0) fast) ∷
    (connect 1 leaves state Running None (Some 0) both (only 0) fast) ∷
    (confirm 1 is_refused 21 leaving state Running None (Some 0) both (only 0) fast) ∷
    (confirm 0 leaves state Running None None both (only 0) fast) ∷
    (write 1 (0x00 ∷ []) is_refused 19 leaving state Running None None both (only 0) fast) ∷
    (indicate 1 true leaves state Running None None both both fast) ∷
    said 1 0x00 [] 0x01 [] (state Running (Some 1) (Some 1) both both fast) ∷
    (disconnect 0 leaves state Running (Some 1) (Some 1) (only 1) (only 1) fast) ∷
    (confirm 1 leaves state Running (Some 1) None (only 1) (only 1) fast) ∷
    said 1 0x07 [] 0x04 [] (state Running (Some 1) (Some 1) (only 1) (only 1) fast) ∷
    (confirm 1 leaves state Running (Some 1) None (only 1) (only 1) fast) ∷
    said 1 0x08 (2 ∷ []) 0x01 (0x02 ∷ 2 ∷ []) (state Paused (Some 1) (Some 1) (only 1) (only 1) fast) ∷
    (disconnect 1 leaves state Paused None None [] [] fast) ∷
    (connect 1 leaves state Paused None None (only 1) [] fast) ∷ [])

-- "01 zeroes every setting, stops and frees control": the former holder is answered 05, and the next one starts a machine that is stopped
abbrev pub resetting : Table
resetting =
    table (able fair) (holds 0 ++ asks 0 (0x02 ∷ 0xe8 ∷ 0x03 ∷ []) ++ asks 0 (0x14 ∷ 7 ∷ 0 ∷ []) ++ asks 0 (0x07 ∷ []) ++ ready 1) (sent [] [])
    (state Running (Some 0) None both both (fast ++ (0x14, 7 ∷ 0 ∷ []) ∷ []))
    (said 0 0x01 [] 0x01 (0x01 ∷ []) (state Stopped None (Some 0) both both []) ∷
    (confirm 0 leaves state Stopped None None both both []) ∷
    said 0 0x07 [] 0x05 [] (state Stopped None (Some 0) both both []) ∷
    (confirm 0 leaves state Stopped None None both both []) ∷
    said 0 0x02 (0xe8 ∷ 0x03 ∷ []) 0x05 [] (state Stopped None (Some 0) both both []) ∷
    (confirm 0 leaves state Stopped None None both both []) ∷
    said 0 0x01 [] 0x05 [] (state Stopped None (Some 0) both both []) ∷
    (confirm 0 leaves state Stopped None None both both []) ∷
    said 1 0x00 [] 0x01 [] (state Stopped (Some 1) (Some 1) both both []) ∷
    (confirm 1 leaves state Stopped (Some 1) None both both []) ∷
    said 1 0x08 (1 ∷ []) 0x04 [] (state Stopped (Some 1) (Some 1) both both []) ∷
    (confirm 1 leaves state Stopped (Some 1) None both both []) ∷
    said 1 0x07 [] 0x01 (0x04 ∷ []) (state Running (Some 1) (Some 1) both both []) ∷
    (confirm 1 leaves state Running (Some 1) None both both []) ∷
    said 1 0x08 (2 ∷ []) 0x01 (0x02 ∷ 2 ∷ []) (state Paused (Some 1) (Some 1) both both []) ∷
    (confirm 1 leaves state Paused (Some 1) None both both []) ∷
    said 1 0x01 [] 0x01 (0x01 ∷ []) (state Stopped None (Some 1) both both []) ∷ [])

-- all sixteen settings, one after the other, and then a reset
abbrev pub sixteen : Settings
sixteen =
    middle ++ (0x09, 1 ∷ 2 ∷ []) ∷ (0x0a, 3 ∷ 4 ∷ []) ∷ (0x0b, 5 ∷ 6 ∷ []) ∷ (0x0c, 7 ∷ 8 ∷ 9 ∷ []) ∷ (0x0d, 10 ∷ 11 ∷ []) ∷
    (0x0e, 12 ∷ 13 ∷ 14 ∷ 15 ∷ []) ∷ (0x0f, 16 ∷ 17 ∷ 18 ∷ 19 ∷ 20 ∷ 21 ∷ []) ∷
    (0x10, 22 ∷ 23 ∷ 24 ∷ 25 ∷ 26 ∷ 27 ∷ 28 ∷ 29 ∷ 30 ∷ 31 ∷ []) ∷ (0x11, 32 ∷ 33 ∷ 34 ∷ 35 ∷ 36 ∷ 37 ∷ []) ∷ (0x12, 38 ∷ 39 ∷ []) ∷
    (0x14, 40 ∷ 41 ∷ []) ∷ []

abbrev pub asks_all : Settings → List Call
asks_all [] = []
asks_all (x ∷ xs) = asks 0 (x.0 ∷ x.1) ++ asks_all xs

abbrev pub all_settings : Table
all_settings =
    table (able fair) (holds 0 ++ asks_all sixteen) (sent [] []) (standing sixteen)
    (said 0 0x01 [] 0x01 (0x01 ∷ []) (state Stopped None (Some 0) (only 0) (only 0) []) ∷ [])

abbrev pub courses : List Table
courses = off_while_due ∷ clients_leave ∷ resetting ∷ all_settings ∷ []

-- each setting alone, with its status octets: "02 to 06 give op code plus 3, 09 to 12 op code plus 1, 14 gives 15, each with the parameter"
abbrev pub alone : ℕ → List ℕ → ℕ → Row
alone o p x = takes o p x ((o, p) ∷ [])

abbrev pub each_setting : Table
each_setting =
    table (able fair) (holds 0) (sent [] []) (standing [])
    (alone 0x02 (0xe8 ∷ 0x03 ∷ []) 0x05 ∷
    alone 0x03 (0x0a ∷ 0x00 ∷ []) 0x06 ∷
    alone 0x04 (0x14 ∷ []) 0x07 ∷
    alone 0x05 (0xff ∷ 0xff ∷ []) 0x08 ∷
    alone 0x06 (0x78 ∷ []) 0x09 ∷
    alone 0x09 (1 ∷ 2 ∷ []) 0x0a ∷
    alone 0x0a (3 ∷ 4 ∷ []) 0x0b ∷
    alone 0x0b (5 ∷ 6 ∷ []) 0x0c ∷
    alone 0x0c (7 ∷ 8 ∷ 9 ∷ []) 0x0d ∷
    alone 0x0d (10 ∷ 11 ∷ []) 0x0e ∷
    alone 0x0e (12 ∷ 13 ∷ 14 ∷ 15 ∷ []) 0x0f ∷
    alone 0x0f (16 ∷ 17 ∷ 18 ∷ 19 ∷ 20 ∷ 21 ∷ []) 0x10 ∷
    alone 0x10 (22 ∷ 23 ∷ 24 ∷ 25 ∷ 26 ∷ 27 ∷ 28 ∷ 29 ∷ 30 ∷ 31 ∷ []) 0x11 ∷
    alone 0x11 (32 ∷ 33 ∷ 34 ∷ 35 ∷ 36 ∷ 37 ∷ []) 0x12 ∷
    alone 0x12 (38 ∷ 39 ∷ []) 0x13 ∷
    alone 0x14 (40 ∷ 41 ∷ []) 0x15 ∷ [])
