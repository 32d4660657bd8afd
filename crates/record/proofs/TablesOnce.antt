-- No second reply meets the contracts of the tables: each public function, on its own contract.
use Rattle.record.proofs.groups.is_known.Reads as groups_is_known
use Rattle.record.proofs.groups.has.Reads as groups_has
use Rattle.record.proofs.groups.listed.Reads as groups_listed
use Rattle.record.proofs.groups.flags_length.Reads as groups_flags_length
use Rattle.record.proofs.groups.group_length.Reads as groups_group_length
use Rattle.record.proofs.groups.groups_length.Reads as groups_groups_length
use Rattle.record.proofs.layout.width_length.Reads as layout_width_length
use Rattle.record.proofs.layout.rows.Reads as layout_rows
use Rattle.record.proofs.layout.row_count.Reads as layout_row_count
use Rattle.record.proofs.layout.row_of.Reads as layout_row_of
use Rattle.record.proofs.Once.{Once, LentOnce, same}

pub groups_once :
    Once groups_is_known.Post ×
    Once groups_has.Post ×
    Once groups_listed.Post ×
    Once groups_flags_length.Post ×
    Once groups_group_length.Post ×
    Once groups_groups_length.Post
groups_once =
    (λ κs a x y s t. same, λ κs a x y s t. same, λ κs a x y s t. same, λ κs a x y s t. same, λ κs a x y s t. same, λ κs a x y s t. same)

pub layout_once :
    Once layout_width_length.Post ×
    Once layout_row_count.Post ×
    Once layout_row_of.Post
layout_once =
    (λ κs a x y s t. same, λ κs a x y s t. same, λ κs a x y s t. same)

pub rows_once : LentOnce layout_rows.Post (λ κs r. r.now)
rows_once κs a x y s t = same
