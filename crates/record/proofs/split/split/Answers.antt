-- `split` meets its contract: the record's own wire numbers are split. Assumes nothing.
use Rattle.record.proofs.split.split.Goals as goal

pub returns-clause-result_value : goal.returns-clause-result_value
returns-clause-result_value c = rw c.from.ensures at c.split_numbers.ensures.result_value

pub returns-clause-out_after : goal.returns-clause-out_after
returns-clause-out_after c = rw c.from.ensures at c.split_numbers.ensures.out_after
