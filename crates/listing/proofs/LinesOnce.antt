-- At most one position, one content of the lent buffer and one buffer that the sheet is left over satisfy each public function's contract, as the prover
-- reads it.
use Rattle.record.proofs.Once.{LeftOnce}
use Rattle.text.proofs.Once.{put_once, put_same}
use Rattle.listing.proofs.lines.put_record.Reads as put_record
use Rattle.listing.proofs.lines.put_refused.Reads as put_refused

pub lines_once :
    (LeftOnce put_record.Post (λ κs s. s.0.now.at) × LeftOnce put_record.Post (λ κs s. s.0.now.out.now) ×
    LeftOnce put_record.Post (λ κs s. s.0.now.out.ghost_name)) ×
    (LeftOnce put_refused.Post (λ κs s. s.0.now.at) × LeftOnce put_refused.Post (λ κs s. s.0.now.out.now) ×
    LeftOnce put_refused.Post (λ κs s. s.0.now.out.ghost_name))
lines_once = (
  (λ κs a x y s t p q. (put_once p.0 q.0).0, λ κs a x y s t p q. (put_once p.0 q.0).1, λ κs a x y s t p q. put_same p.0 q.0),
  (λ κs a x y s t p q. (put_once p.0 q.0).0, λ κs a x y s t p q. (put_once p.0 q.0).1, λ κs a x y s t p q. put_same p.0 q.0),
)
