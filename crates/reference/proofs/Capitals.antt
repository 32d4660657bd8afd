-- A text in capitals. Assumes nothing.
use Prim.Native.Nat.{ℕ, ◌+◌, ◌<◌}
use mathlib.Core.List.{List, [], ◌∷◌, map-append}
use native.Mathlib.Numerals.{add-one}
use lib.ListN.{length, get_or, take}
use lib.Seq.{take-suc}
use Rattle.text.specs.declared.text.Sheet.{Sheet}
use Rattle.text.specs.Sheet.{Put}
use Rattle.text.proofs.Writing.{put_then}
use Rattle.reference.specs.Header.{capital, capitals}

-- an iteration of a loop that writes a text in capitals
pub then_capital : (text : List ℕ) (i : ℕ) {s s' s'' : Sheet} → i < length text → Put s (capitals (take i text)) s' →
    Put s' (capital (get_or text i 0) ∷ []) s'' → Put s (capitals (take (i + 1) text)) s''
unfolding capitals
then_capital text i h p q = rw (add-one, take-suc text i 0 h, map-append capital (take i text) (get_or text i 0 ∷ [])) (put_then p q)
