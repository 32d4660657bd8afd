-- The listing of a capture, one step at a time: the beginning of the capture is a step, and so is each notification.
use Rattle.std.specs.Prelude.{ℕ, zero, suc, ◌+◌, ◌≤◌, ◌≡◌, true, false, cond, List, [], ◌∷◌, ◌++◌, eqb, ltb, length, drop}
use Rattle.record.specs.Groups.{known}
use Rattle.record.specs.Octets.{number}
use Rattle.text.specs.declared.text.Sheet.{Sheet}
use Rattle.text.specs.Sheet.{Put}
use Rattle.listing.specs.declared.walk.Listing.{Listing}
use Rattle.listing.specs.declared.walk.Walk.{Walk}
use Rattle.listing.specs.Lines.{refused_line, longest}
use Rattle.listing.specs.Listing.{begins, lines_of, state_after, first}

-- a step: its lines, and the walk after it
pub record Step : Type 0 where
  pub lines : List ℕ
  pub walk : Walk

-- a step that ends the listing with these lines, and one that goes on after them, at a position of the capture
abbrev pub ends : Walk → List ℕ → Step
ends w text = record { lines = text; walk = record { listing = w.listing; position = w.position; ended = true } }

abbrev pub goes_on : List ℕ → Listing → ℕ → Step
goes_on text l i = record { lines = text; walk = record { listing = l; position = i; ended = false } }

-- "a kind octet"; "An empty capture prints `refused=11`."
unfoldable pub at_kind : Walk → List ℕ → Step
at_kind w [] = ends w (refused_line 11)
at_kind w (kind ∷ s) = cond (known kind) (goes_on [] (begins kind) 1) (ends w (refused_line 11))

-- "36, then 11, are judged first and end the listing"
unfoldable pub at_beginning : Walk → List ℕ → Step
at_beginning w capture = cond (ltb 65536 (length capture)) (ends w (refused_line 36)) (at_kind w capture)

-- "for each notification a u16 length and its octets"; s is what is left of the capture; "37 ends it where met": "capture ends inside a length or
-- notification"
unfoldable pub at_notification : Walk → List ℕ → Step
at_notification w s =
    let l : Listing = w.listing in
    cond (eqb (length s) 0) (ends w [])
    (cond (ltb (length s) (2 + number 2 s)) (ends w (refused_line 37))
    (goes_on (lines_of l (first s)) (state_after l (first s)) (w.position + (2 + number 2 s))))

-- the next step of a walk: if it has ended there are no more lines; at position 0 it begins
unfoldable pub step : Walk → List ℕ → Step
step w capture =
    cond w.ended (ends w [])
    (cond (eqb w.position 0) (at_beginning w capture) (at_notification w (drop w.position capture)))

-- a walk before its first step
abbrev pub beginning : Walk
beginning = record { listing = begins 0; position = 0; ended = false }

-- the lines of the first n steps of a walk
unfoldable pub steps : ℕ → Walk → List ℕ → List ℕ
steps zero w capture = []
steps (suc n) w capture = (step w capture).lines ++ steps n (step w capture).walk capture

-- a step was taken: its lines were put on a sheet, the reply is the walk after it, and the lines are not longer than `longest`
pub record Took (s : Sheet) (t : Step) (s' : Sheet) (w : Walk) : Type 0 where
  pub lines : Put s t.lines s'
  pub walk : w ≡ t.walk
  pub room : length t.lines ≤ longest
