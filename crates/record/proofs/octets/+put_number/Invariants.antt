-- The measure of `put_number`: how many octets are left.
use Rattle.record.proofs.octets.+put_number.Given as goal

abbrev pub decreases-put_number : goal.decreases-put_number
decreases-put_number l = l.octets
