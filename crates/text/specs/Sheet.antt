-- A text put on a sheet, by `Wrote`.
use Rattle.std.specs.Prelude.{ℕ, ◌≡◌, List, ◌++◌}
use Rattle.text.specs.declared.text.Sheet.{Sheet}
use Rattle.text.specs.Text.{Wrote, written}

-- the text was written at the sheet's position, and the sheet is still one of the same buffer; `onward` follows from `wrote`: a text that goes on is
-- written by writing the rest of it from here
pub record Put (s : Sheet) (text : List ℕ) (s' : Sheet) : Type 0 where
  pub same : s'.out.ghost_name ≡ s.out.ghost_name
  pub wrote : Wrote s.out.now s.at text s'.out.now s'.at
  pub onward : (rest : List ℕ) → written s.out.now s.at (text ++ rest) ≡ written s'.out.now s'.at rest
