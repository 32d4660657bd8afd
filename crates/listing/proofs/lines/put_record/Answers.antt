-- `put_record` meets its contract: the head, then the fields. Assumes nothing.
use Rattle.listing.proofs.Room.{record_short}
use Rattle.listing.proofs.Rows.{whole_record}
use Rattle.listing.proofs.lines.put_record.Goals as goal

pub returns-clause-wrote : goal.returns-clause-wrote
returns-clause-wrote c = let n = c.numbers_of-numbers.ensures in whole_record _ _ n c.put_head.ensures.wrote c.put_fields.ensures.wrote

pub returns-clause-record_len_bound : goal.returns-clause-record_len_bound
returns-clause-record_len_bound c = let n = c.numbers_of-numbers.ensures in record_short _ _ n c.put_head.ensures.direction_len_bound c.put_fields.ensures.kind_len_bound
