-- At most one position, one content of the lent buffer and one buffer that the sheet is left over satisfy each public function's contract, as the prover
-- reads it.
use Prim.Native.Nat.{ℕ}
use mathlib.Core.Path.{◌≡◌, sym, ◌∙◌}
use mathlib.Core.List.{List}
use Rattle.record.proofs.Once.{LentOnce, LeftOnce}
use Rattle.text.specs.Sheet.{Put}
use Rattle.text.specs.Text.{Wrote}
use Rattle.text.specs.declared.text.Sheet.{Sheet}
use Rattle.text.proofs.text.Sheet.new.Reads as new
use Rattle.text.proofs.text.Sheet.as_bytes.Reads as as_bytes
use Rattle.text.proofs.text.Sheet.put_byte.Reads as put_byte
use Rattle.text.proofs.text.Sheet.put_bytes.Reads as put_bytes
use Rattle.text.proofs.text.Sheet.put_decimal.Reads as put_decimal
use Rattle.text.proofs.text.Sheet.put_line.Reads as put_line
use Rattle.text.proofs.text.Sheet.put_hex.Reads as put_hex
use Rattle.text.proofs.names.put_name.Reads as put_name
use Rattle.text.proofs.names.put_field.Reads as put_field
use Rattle.text.proofs.names.field_name.Reads as field_name

-- the text and the position determine the next position and the buffer's content
pub wrote_once : (out : List ℕ) (at : ℕ) (text left left' : List ℕ) (next next' : ℕ) → Wrote out at text left next → Wrote out at text left' next' →
    (next ≡ next') × (left ≡ left')
wrote_once out at text left left' next next' p q = (p.place ∙ sym q.place, p.octets ∙ sym q.octets)

pub put_once : {s s' s'' : Sheet} {text : List ℕ} → Put s text s' → Put s text s'' → (s'.at ≡ s''.at) × (s'.out.now ≡ s''.out.now)
put_once p q = wrote_once _ _ _ _ _ _ _ p.wrote q.wrote

-- and which buffer the sheet is left over
pub put_same : {s s' s'' : Sheet} {text : List ℕ} → Put s text s' → Put s text s'' → s'.out.ghost_name ≡ s''.out.ghost_name
put_same p q = p.same ∙ sym q.same

pub texts_once :
    (LeftOnce put_byte.Post (λ κs s. s.0.now.at) × LeftOnce put_byte.Post (λ κs s. s.0.now.out.now) ×
    LeftOnce put_byte.Post (λ κs s. s.0.now.out.ghost_name)) ×
    (LeftOnce put_bytes.Post (λ κs s. s.0.now.at) × LeftOnce put_bytes.Post (λ κs s. s.0.now.out.now) ×
    LeftOnce put_bytes.Post (λ κs s. s.0.now.out.ghost_name)) ×
    (LeftOnce put_decimal.Post (λ κs s. s.0.now.at) × LeftOnce put_decimal.Post (λ κs s. s.0.now.out.now) ×
    LeftOnce put_decimal.Post (λ κs s. s.0.now.out.ghost_name)) ×
    (LeftOnce put_line.Post (λ κs s. s.0.now.at) × LeftOnce put_line.Post (λ κs s. s.0.now.out.now) ×
    LeftOnce put_line.Post (λ κs s. s.0.now.out.ghost_name)) ×
    (LeftOnce put_hex.Post (λ κs s. s.0.now.at) × LeftOnce put_hex.Post (λ κs s. s.0.now.out.now) ×
    LeftOnce put_hex.Post (λ κs s. s.0.now.out.ghost_name)) ×
    (LeftOnce put_name.Post (λ κs s. s.0.now.at) × LeftOnce put_name.Post (λ κs s. s.0.now.out.now) ×
    LeftOnce put_name.Post (λ κs s. s.0.now.out.ghost_name)) ×
    (LeftOnce put_field.Post (λ κs s. s.0.now.at) × LeftOnce put_field.Post (λ κs s. s.0.now.out.now) ×
    LeftOnce put_field.Post (λ κs s. s.0.now.out.ghost_name))
texts_once = (
  (λ κs a x y s t p q. (put_once p q).0, λ κs a x y s t p q. (put_once p q).1, λ κs a x y s t p q. put_same p q),
  (λ κs a x y s t p q. (put_once p q).0, λ κs a x y s t p q. (put_once p q).1, λ κs a x y s t p q. put_same p q),
  (λ κs a x y s t p q. (put_once p q).0, λ κs a x y s t p q. (put_once p q).1, λ κs a x y s t p q. put_same p q),
  (λ κs a x y s t p q. (put_once p q).0, λ κs a x y s t p q. (put_once p q).1, λ κs a x y s t p q. put_same p q),
  (λ κs a x y s t p q. (put_once p q).0, λ κs a x y s t p q. (put_once p q).1, λ κs a x y s t p q. put_same p q),
  (λ κs a x y s t p q. (put_once p q).0, λ κs a x y s t p q. (put_once p q).1, λ κs a x y s t p q. put_same p q),
  (λ κs a x y s t p q. (put_once p q).0, λ κs a x y s t p q. (put_once p q).1, λ κs a x y s t p q. put_same p q),
)

pub lent_once :
    (LentOnce new.Post (λ κs r. r.at) × LentOnce new.Post (λ κs r. r.out.now) × LentOnce new.Post (λ κs r. r.out.ghost_name)) × LentOnce as_bytes.Post (λ κs r. r.now) ×
    LentOnce field_name.Post (λ κs r. r.now)
lent_once = (
  (λ κs a x y s t p q. p.1.1 ∙ sym q.1.1, λ κs a x y s t p q. p.1.0 ∙ sym q.1.0, λ κs a x y s t p q. p.0 ∙ sym q.0),
  λ κs a x y s t p q. p ∙ sym q,
  λ κs a x y s t p q. p ∙ sym q,
)
