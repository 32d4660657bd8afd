-- For each export, at most one reply and one content behind each pointer satisfy the contract: it is the contract of `phone`'s call, for which that is proved.
use Rattle.record.proofs.Once.{Once, LeftOnce}
use Rattle.phone.proofs.HostOnce as phone
use Rattle.phone_c.proofs.hordivasz_list.Reads as list
use Rattle.phone_c.proofs.hordivasz_list_length.Reads as list_length
use Rattle.phone_c.proofs.hordivasz_split.Reads as split

-- the reply; the lent octets, the part's length, the number of parts
pub split_once :
    Once split.Post × LeftOnce split.Post (λ κs s. s.1.1.1.1.0.now) × LeftOnce split.Post (λ κs s. s.1.1.1.1.1.0.now) ×
    LeftOnce split.Post (λ κs s. s.1.1.1.1.1.1.0.now)
split_once = phone.split_once

-- the reply; the lent octets, the listing's length
pub list_once : Once list.Post × LeftOnce list.Post (λ κs s. s.1.0.now) × LeftOnce list.Post (λ κs s. s.1.1.0.now)
list_once = phone.list_once

pub length_once : Once list_length.Post
length_once = phone.length_once
