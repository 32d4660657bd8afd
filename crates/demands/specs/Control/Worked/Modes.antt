-- Each mode against 07 and 08: "04 when .. 07 finds running, 08 with 1 finds stopped, or 08 with 2 finds anything but running; else 01", "07 sets
-- running, 08 stopped (1) or paused (2)", "07 gives 04; 08 gives 02 and its parameter".
use Rattle.std.specs.Prelude.{ℕ, List, [], ◌∷◌, ◌++◌, None, Some}
use Rattle.service.specs.declared.control.machine.Mode.{Mode}
use Rattle.service.specs.declared.control.machine.Mode.TheVariants.{Stopped, Running, Paused}
use Rattle.service.specs.Control.Replies.{sent}
use Rattle.service.specs.Control.Calls.{Opening, opening}
use Rattle.demands.specs.Control.Point.{write}
use Rattle.demands.specs.Control.Cases.{ranges, speeds, asks, holds}
use Rattle.demands.specs.Control.Worked.Seen.{State, state, Row, row, Table, table}

-- a machine with no target setting: 07 and 08 "are always supported"
abbrev pub bare : Opening
bare = opening (0 ∷ 0 ∷ 0 ∷ 0 ∷ 0 ∷ 0 ∷ 0 ∷ 0 ∷ []) ranges speeds

-- client 0 holds control and nothing is due; or its response awaits confirmation
abbrev pub quiet : Mode → State
quiet m = state m (Some 0) None (0 ∷ []) (0 ∷ []) []

abbrev pub due : Mode → State
due m = state m (Some 0) (Some 0) (0 ∷ []) (0 ∷ []) []

-- a write that succeeds, with its status octets and the mode after it; and one that changes only whose response is awaited
abbrev pub succeeds : ℕ → List ℕ → List ℕ → Mode → Row
succeeds o p s m = row (write 0 (o ∷ p)) (sent (0x80 ∷ o ∷ 0x01 ∷ []) s) (due m)

abbrev pub answers : ℕ → List ℕ → ℕ → Mode → Row
answers o p r m = row (write 0 (o ∷ p)) (sent (0x80 ∷ o ∷ r ∷ []) []) (due m)

abbrev pub while_stopped : List Row
while_stopped =
    succeeds 0x07 [] (0x04 ∷ []) Running ∷
    answers 0x07 (0 ∷ []) 0x03 Stopped ∷
    answers 0x08 [] 0x03 Stopped ∷
    answers 0x08 (0 ∷ []) 0x03 Stopped ∷
    answers 0x08 (1 ∷ []) 0x04 Stopped ∷
    answers 0x08 (2 ∷ []) 0x04 Stopped ∷
    answers 0x08 (3 ∷ []) 0x03 Stopped ∷
    answers 0x08 (1 ∷ 0 ∷ []) 0x03 Stopped ∷ []

abbrev pub while_running : List Row
while_running =
    answers 0x07 [] 0x04 Running ∷
    answers 0x07 (0 ∷ []) 0x03 Running ∷
    answers 0x08 [] 0x03 Running ∷
    answers 0x08 (0 ∷ []) 0x03 Running ∷
    succeeds 0x08 (1 ∷ []) (0x02 ∷ 1 ∷ []) Stopped ∷
    succeeds 0x08 (2 ∷ []) (0x02 ∷ 2 ∷ []) Paused ∷
    answers 0x08 (3 ∷ []) 0x03 Running ∷
    answers 0x08 (1 ∷ 0 ∷ []) 0x03 Running ∷ []

abbrev pub while_paused : List Row
while_paused =
    succeeds 0x07 [] (0x04 ∷ []) Running ∷
    answers 0x07 (0 ∷ []) 0x03 Paused ∷
    answers 0x08 [] 0x03 Paused ∷
    answers 0x08 (0 ∷ []) 0x03 Paused ∷
    succeeds 0x08 (1 ∷ []) (0x02 ∷ 1 ∷ []) Stopped ∷
    answers 0x08 (2 ∷ []) 0x04 Paused ∷
    answers 0x08 (3 ∷ []) 0x03 Paused ∷
    answers 0x08 (1 ∷ 0 ∷ []) 0x03 Paused ∷ []

-- stopped at first, by a stop while it runs and while it is paused, and by a reset; running by a start and by a resume; paused
abbrev pub modes : List Table
modes =
    table bare (holds 0) (sent [] []) (quiet Stopped) while_stopped ∷
    table bare (holds 0 ++ asks 0 (0x07 ∷ []) ++ asks 0 (0x08 ∷ 1 ∷ [])) (sent [] []) (quiet Stopped) while_stopped ∷
    table bare (holds 0 ++ asks 0 (0x07 ∷ []) ++ asks 0 (0x08 ∷ 2 ∷ []) ++ asks 0 (0x08 ∷ 1 ∷ [])) (sent [] []) (quiet Stopped) while_stopped ∷
    table bare (holds 0 ++ asks 0 (0x07 ∷ []) ++ asks 0 (0x01 ∷ []) ++ asks 0 (0x00 ∷ [])) (sent [] []) (quiet Stopped) while_stopped ∷
    table bare (holds 0 ++ asks 0 (0x07 ∷ [])) (sent [] []) (quiet Running) while_running ∷
    table bare (holds 0 ++ asks 0 (0x07 ∷ []) ++ asks 0 (0x08 ∷ 2 ∷ []) ++ asks 0 (0x07 ∷ [])) (sent [] []) (quiet Running) while_running ∷
    table bare (holds 0 ++ asks 0 (0x07 ∷ []) ++ asks 0 (0x08 ∷ 2 ∷ [])) (sent [] []) (quiet Paused) while_paused ∷ []
