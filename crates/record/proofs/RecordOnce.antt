-- No second reply meets a contract: for each public function of the crate, on its own contract; and a function that is lent
-- something leaves no second content there.
use Rattle.record.proofs.notification.part_of.Reads as notification_part_of
use Rattle.record.proofs.split.is_payload.Reads as split_is_payload
use Rattle.record.proofs.notification.read.Reads as notification_read
use Rattle.record.proofs.split.split.Reads as split_split
use Rattle.record.proofs.split.split_numbers.Reads as split_numbers
use Rattle.record.proofs.Once.{Once, LeftOnce, same, meant_once}

-- ---- each public function

pub part_of_once : Once notification_part_of.Post
part_of_once κs a x y s t p q = meant_once x y (same p q)

pub read_once : Once notification_read.Post × LeftOnce notification_read.Post (λ κs s. s.1.1.0.now)
read_once = (λ κs a x y s t p q. meant_once x y (same p.0 q.0), λ κs a x y s t p q. same p.1 q.1)

pub payload_once : Once split_is_payload.Post
payload_once κs a x y s t = same

pub split_once : Once split_split.Post × LeftOnce split_split.Post (λ κs s. s.1.1.1.0.now)
split_once = (λ κs a x y s t p q. meant_once x y (same p.0 q.0), λ κs a x y s t p q. same p.1 q.1)

pub split_numbers_once : Once split_numbers.Post × LeftOnce split_numbers.Post (λ κs s. s.1.1.1.0.now)
split_numbers_once = (λ κs a x y s t p q. meant_once x y (same p.0 q.0), λ κs a x y s t p q. same p.1 q.1)
