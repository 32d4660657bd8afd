-- The measure of `put_decimal` is the number that is left to write.
use Rattle.text.proofs.text.Sheet.+put_decimal.Given as goal

abbrev pub decreases-put_decimal : goal.decreases-put_decimal
decreases-put_decimal l = l.n
