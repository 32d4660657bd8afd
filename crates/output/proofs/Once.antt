-- At most one reply satisfies the contract of `first`, the only public function that has one. The reply is a
-- borrowed slice, so its octets are compared.
use Rattle.record.proofs.Once.{LentOnce, same}
use Rattle.output.proofs.first.Reads as first

pub first_once : LentOnce first.Post (λ κs r. r.now)
first_once κs a x y s t = same
