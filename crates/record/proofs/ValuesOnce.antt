-- No second reply meets a contract: for each public function, on its own contract.
use Rattle.record.proofs.Once.{Once, same}
use Rattle.record.proofs.formed.formed.Reads as formed
use Rattle.record.proofs.formed.well_formed.Reads as well_formed
use Rattle.record.proofs.numbers.numbers_of.Reads as numbers_of
use Rattle.record.proofs.numbers.record_of.Reads as record_of
use Rattle.record.proofs.numbers.WireFromRecord.from.Reads as wire_from

pub formed_once : Once formed.Post × Once well_formed.Post
formed_once = (λ κs a x y s t. same, λ κs a x y s t. same)

pub numbers_once : Once numbers_of.Post × Once record_of.Post × Once wire_from.Post
numbers_once = (λ κs a x y s t. same, λ κs a x y s t. same, λ κs a x y s t. same)
