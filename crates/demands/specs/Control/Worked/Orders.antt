-- Writes with more than one thing wrong, and of a wrong length: "unsupported op code, result 02; not the holder (but for 00), 05; wrong length, .. result
-- 03; then 04 when ..".
use Rattle.std.specs.Prelude.{ℕ, ◌-◌, true, false, List, [], ◌∷◌, ◌++◌, length, take, replicate, None, Some}
use Rattle.service.specs.declared.control.machine.Mode.TheVariants.{Running}
use Rattle.service.specs.Control.Replies.{sent}
use Rattle.service.specs.Control.Calls.{opening}
use Rattle.demands.specs.Control.Point.{connect, disconnect, confirm, indicate, write}
use Rattle.demands.specs.Control.Cases.{speeds, ready, asks, holds}
use Rattle.demands.specs.Control.Worked.Seen.{State, state, Row, Table, table}
use Rattle.demands.specs.Control.Worked.Ends.{Settings, able, declines, standing}
use Rattle.demands.specs.Control.Worked.Openings.{fair}
use Rattle.demands.specs.Control.Worked.Callers.{◌is_refused◌leaving◌}
use Rattle.demands.specs.Control.Worked.Courses.{both, sixteen, said}

-- client 0 holds control of a machine that runs, client 1 does not; nothing is due
abbrev pub running : State
running = state Running (Some 0) None both both []

-- a write that is answered with a result, and changes nothing else
abbrev pub answers : ℕ → ℕ → List ℕ → ℕ → Row
answers c o p r = said c o p r [] (state Running (Some 0) (Some c) both both [])

abbrev pub order : Table
order =
    table (able fair) (holds 0 ++ asks 0 (0x07 ∷ []) ++ ready 1) (sent [] []) running
    (answers 1 0x81 [] 0x02 ∷
    answers 1 0x13 (1 ∷ []) 0x05 ∷
    answers 1 0x13 (3 ∷ []) 0x05 ∷
    answers 1 0x15 (1 ∷ 0 ∷ []) 0x02 ∷
    answers 1 0xff (replicate 20 0) 0x02 ∷
    answers 0 0x80 [] 0x02 ∷
    answers 1 0x08 (3 ∷ []) 0x05 ∷
    answers 1 0x02 (0xe8 ∷ []) 0x05 ∷
    answers 1 0x02 (0xff ∷ 0xff ∷ []) 0x05 ∷
    answers 1 0x07 [] 0x05 ∷
    answers 1 0x01 (0 ∷ []) 0x05 ∷
    answers 1 0x00 (0 ∷ []) 0x03 ∷
    answers 1 0x00 [] 0x04 ∷
    answers 0 0x01 (0 ∷ []) 0x03 ∷
    answers 0 0x07 (0 ∷ []) 0x03 ∷
    answers 0 0x07 (replicate 600 0) 0x03 ∷
    answers 0 0x08 (replicate 600 2) 0x03 ∷
    answers 0 0x02 (replicate 600 0xe8) 0x03 ∷
    answers 0 0x08 (3 ∷ []) 0x03 ∷
    answers 0 0x13 (0 ∷ []) 0x03 ∷
    answers 0 0x13 (3 ∷ []) 0x03 ∷
    answers 0 0x13 (255 ∷ []) 0x03 ∷
    answers 0 0x13 [] 0x03 ∷
    answers 0 0x13 (1 ∷ 0 ∷ []) 0x03 ∷
    answers 0 0x07 [] 0x04 ∷ [])

-- the same machine without any target setting: "unsupported op code, result 02" is judged before "not the holder", "wrong length" and "value outside its range"
abbrev pub lacking : Table
lacking =
    table (opening (replicate 8 0) fair speeds) (holds 0 ++ asks 0 (0x07 ∷ []) ++ ready 1) (sent [] []) running
    (answers 1 0x02 (0xe8 ∷ 0x03 ∷ []) 0x02 ∷
    answers 1 0x14 [] 0x02 ∷
    answers 1 0x13 (1 ∷ []) 0x02 ∷
    answers 0 0x13 (1 ∷ []) 0x02 ∷
    answers 0 0x13 (3 ∷ []) 0x02 ∷
    answers 0 0x02 (0xe8 ∷ []) 0x02 ∷
    answers 0 0x02 (0xff ∷ 0xff ∷ []) 0x02 ∷ [])

-- "10: client above 3": each call by client 255, and connect by 256
abbrev pub above_three : Table
above_three =
    table (able fair) (holds 0 ++ asks 0 (0x07 ∷ []) ++ ready 1) (sent [] []) running
    ((connect 255 is_refused 10 leaving running) ∷
    (disconnect 255 is_refused 10 leaving running) ∷
    (indicate 255 true is_refused 10 leaving running) ∷
    (indicate 255 false is_refused 10 leaving running) ∷
    (write 255 [] is_refused 10 leaving running) ∷
    (confirm 255 is_refused 10 leaving running) ∷
    (connect 256 is_refused 10 leaving running) ∷ [])

-- "wrong length": each parameter that is stored, one octet short and one too long
abbrev pub shortened : Settings → List Row
shortened [] = []
shortened (x ∷ xs) = declines x.0 (take (length x.1 - 1) x.1) [] ∷ declines x.0 (x.1 ++ 0 ∷ []) [] ∷ shortened xs

abbrev pub lengths : Table
lengths = table (able fair) (holds 0) (sent [] []) (standing []) (shortened sixteen)

abbrev pub orders : List Table
orders = order ∷ lacking ∷ above_three ∷ lengths ∷ []
