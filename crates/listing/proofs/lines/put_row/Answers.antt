-- `put_row` meets its contract: the name, the value, LF, or nothing. Assumes nothing.
use mathlib.Core.Path.{◌≡◌, ◌∙◌, sym}
use native.Mathlib.Omega.{arith}
use borrow.Author.Rules.{rules}
use lib.ListN.{get_or}
use Rattle.text.specs.Text.{line}
use Rattle.text.proofs.Writing.{put_then, put_nothing}
use Rattle.listing.proofs.Rows.{shown, hidden}
use Rattle.listing.proofs.lines.put_row.Goals as goal

pub returns-then-has : goal.returns-then-has
unfolding line
returns-then-has c = let s = c.args in
    let n : c.unwrap_or.result ≡ get_or s.numbers.now s.row.1 0 = search rules in
    rw (shown s.set s.numbers.now s.row (sym c.has.ensures ∙ c.if-has.true), ← n)
    (put_then (put_then c.put_name.ensures c.put_value.ensures) c.put_byte.ensures)

pub returns-else-has : goal.returns-else-has
returns-else-has c = let s = c.args in
    rw (hidden s.set s.numbers.now s.row (sym c.has.ensures ∙ c.if-has.false)) (put_nothing _ (omega arith))
