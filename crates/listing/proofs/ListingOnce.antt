-- At most one reply, state and lent content meet a contract of the listing.
use mathlib.Core.Path.{sym, ◌∙◌}
use Rattle.record.proofs.Once.{Once, LeftOnce, meant_once}
use Rattle.text.proofs.Once.{put_once, put_same}
use Rattle.listing.proofs.capture.list.Reads as list
use Rattle.listing.proofs.capture.list_length.Reads as list_length
use Rattle.listing.proofs.walk.begin.Reads as begin
use Rattle.listing.proofs.walk.step.Reads as step

pub list_once : Once list.Post × LeftOnce list.Post (λ κs s. s.1.0.now)
list_once = (λ κs a x y s t p q. meant_once x y (p.0 ∙ sym q.0), λ κs a x y s t p q. p.1 ∙ sym q.1)

pub length_once : Once list_length.Post
length_once κs a x y s t p q = p ∙ sym q

pub begin_once : Once begin.Post
begin_once κs a x y s t p q = p ∙ sym q

pub step_once :
    Once step.Post × LeftOnce step.Post (λ κs s. s.0.now.at) × LeftOnce step.Post (λ κs s. s.0.now.out.now) ×
    LeftOnce step.Post (λ κs s. s.0.now.out.ghost_name)
step_once = (
  λ κs a x y s t p q. p.walk ∙ sym q.walk,
  λ κs a x y s t p q. (put_once p.lines q.lines).0,
  λ κs a x y s t p q. (put_once p.lines q.lines).1,
  λ κs a x y s t p q. put_same p.lines q.lines,
)
