-- At most one position, and one content of what is lent, satisfies a contract: for each public function, over the contract itself.
use Rattle.record.proofs.Once.{LeftOnce}
use Rattle.text.proofs.Once.{put_once, put_same}
use Rattle.reference.proofs.words.put_width.Reads as put_width
use Rattle.reference.proofs.words.put_group.Reads as put_group
use Rattle.reference.proofs.flags.put_flags.Reads as put_flags
use Rattle.reference.proofs.header.put_macros.Reads as put_macros
use Rattle.reference.proofs.tables.put_kind.Reads as put_kind
use Rattle.reference.proofs.tables.put_table.Reads as put_table
use Rattle.reference.proofs.tables.put_page.Reads as put_page

pub words_once :
    (LeftOnce put_width.Post (λ κs s. s.0.now.at) × LeftOnce put_width.Post (λ κs s. s.0.now.out.now) ×
    LeftOnce put_width.Post (λ κs s. s.0.now.out.ghost_name)) ×
    (LeftOnce put_group.Post (λ κs s. s.0.now.at) × LeftOnce put_group.Post (λ κs s. s.0.now.out.now) ×
    LeftOnce put_group.Post (λ κs s. s.0.now.out.ghost_name)) ×
    (LeftOnce put_kind.Post (λ κs s. s.0.now.at) × LeftOnce put_kind.Post (λ κs s. s.0.now.out.now) ×
    LeftOnce put_kind.Post (λ κs s. s.0.now.out.ghost_name))
words_once = (
  (λ κs a x y s t p q. (put_once p q).0, λ κs a x y s t p q. (put_once p q).1, λ κs a x y s t p q. put_same p q),
  (λ κs a x y s t p q. (put_once p q).0, λ κs a x y s t p q. (put_once p q).1, λ κs a x y s t p q. put_same p q),
  (λ κs a x y s t p q. (put_once p q).0, λ κs a x y s t p q. (put_once p q).1, λ κs a x y s t p q. put_same p q),
)

pub tables_once :
    (LeftOnce put_flags.Post (λ κs s. s.0.now.at) × LeftOnce put_flags.Post (λ κs s. s.0.now.out.now) ×
    LeftOnce put_flags.Post (λ κs s. s.0.now.out.ghost_name)) ×
    (LeftOnce put_table.Post (λ κs s. s.0.now.at) × LeftOnce put_table.Post (λ κs s. s.0.now.out.now) ×
    LeftOnce put_table.Post (λ κs s. s.0.now.out.ghost_name)) ×
    (LeftOnce put_page.Post (λ κs s. s.0.now.at) × LeftOnce put_page.Post (λ κs s. s.0.now.out.now) ×
    LeftOnce put_page.Post (λ κs s. s.0.now.out.ghost_name)) ×
    (LeftOnce put_macros.Post (λ κs s. s.0.now.at) × LeftOnce put_macros.Post (λ κs s. s.0.now.out.now) ×
    LeftOnce put_macros.Post (λ κs s. s.0.now.out.ghost_name))
tables_once = (
  (λ κs a x y s t p q. (put_once p q).0, λ κs a x y s t p q. (put_once p q).1, λ κs a x y s t p q. put_same p q),
  (λ κs a x y s t p q. (put_once p q).0, λ κs a x y s t p q. (put_once p q).1, λ κs a x y s t p q. put_same p q),
  (λ κs a x y s t p q. (put_once p q).0, λ κs a x y s t p q. (put_once p q).1, λ κs a x y s t p q. put_same p q),
  (λ κs a x y s t p q. (put_once p q).0, λ κs a x y s t p q. (put_once p q).1, λ κs a x y s t p q. put_same p q),
)
