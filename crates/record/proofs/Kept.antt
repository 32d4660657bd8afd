-- Rows written and read back; and which numbers a record has once rows are kept.
use Prim.Native.Nat.{ℕ, ◌^◌, ◌<◌}
use mathlib.Core.Path.{◌≡◌, refl, sym, ap, ◌∙◌}
use mathlib.Core.Bool.{Bool, true, false, cond, ◌||◌, true≢false}
use mathlib.Core.List.{List, [], ◌∷◌, ◌++◌, append_assoc}
use lib.Dec.{eqb, ltb}
use lib.Bits.{bit_or}
use lib.ListN.{length, get_or, set, length-set}
use lib.Seq.{set_comm, set-set, drop_at}
use borrow.Author.Tests.{ltb-true}
use Rattle.record.specs.declared.layout.Row.{Row}
use Rattle.record.specs.Layout.{octets_of}
use Rattle.record.specs.Groups.{has, named}
use Rattle.record.specs.Octets.{spelled}
use Rattle.record.specs.Record.{all_fit, kept}
use Rattle.record.specs.Notification.{read_into}
use Rattle.record.specs.Split.{written}
use Rattle.record.proofs.OctetLaws.{length_spelled, number_spelled}
use Rattle.record.proofs.Sets.{Sub, has_or}
use Rattle.record.proofs.Tests.{passed, failed, tested, eqb_eq, eqb_ne, and_l, and_r}

-- what is written is read back, whatever follows it
pub read_written : (rows : List Row) (v rest z : List ℕ) → all_fit rows v ≡ true → read_into rows (written rows v ++ rest) z ≡ kept rows v z
unfolding written read_into kept all_fit
read_written [] v rest z h = refl
read_written (r ∷ rows) v rest z h =
    let n : ℕ = octets_of r.2 in
    let x : ℕ = get_or v r.1 0 in
    let f : x < 256 ^ n = ltb-true x (256 ^ n) (and_l (ltb x (256 ^ n)) (all_fit rows v) h) in
    rw (
      append_assoc (spelled n x) (written rows v) rest,
      number_spelled n x (written rows v ++ rest) f,
      drop_at (spelled n x) (written rows v ++ rest) n (length_spelled n x),
    )
    (read_written rows v rest (set z r.1 x) (and_r (ltb x (256 ^ n)) (all_fit rows v) h))

-- numbers that take one field's number from the record
put : List ℕ → ℕ → List ℕ → List ℕ
put v i z = set z i (get_or v i 0)

put_put : (v : List ℕ) (i j : ℕ) (z : List ℕ) → put v j (put v i z) ≡ put v i (put v j z)
unfolding put
put_put v i j z = elim (tested (eqb i j)) [
  | passed e ↦ rw (eqb_eq i j e)
  | failed e ↦ set_comm z i j (get_or v i 0) (get_or v j 0) (eqb_ne i j e)
]

put_again : (v : List ℕ) (i : ℕ) (z : List ℕ) → put v i (put v i z) ≡ put v i z
unfolding put
put_again v i z = set-set z i (get_or v i 0) (get_or v i 0)

kept_cons : (r : Row) (rows : List Row) (v z : List ℕ) → kept (r ∷ rows) v z ≡ kept rows v (put v r.1 z)
unfolding kept put
kept_cons r rows v z = refl

kept_put : (rows : List Row) (v : List ℕ) (i : ℕ) (z : List ℕ) → kept rows v (put v i z) ≡ put v i (kept rows v z)
kept_put [] v i z = unfold kept in refl
kept_put (r ∷ rows) v i z =
    kept_cons r rows v (put v i z) ∙ ap (kept rows v) (put_put v i r.1 z) ∙ kept_put rows v i (put v r.1 z)
    ∙ ap (put v i) (sym (kept_cons r rows v z))

pub length_kept : (rows : List Row) (v z : List ℕ) → length (kept rows v z) ≡ length z
unfolding kept
length_kept [] v z = refl
length_kept (r ∷ rows) v z = length_kept rows v (set z r.1 (get_or v r.1 0)) ∙ length-set z r.1 (get_or v r.1 0)

module _ (r : Row) (o a b : List Row) (v : List ℕ) (ih : (z : List ℕ) → kept o v z ≡ kept b v (kept a v z)) where
  kept_step : (x y : Bool) (z : List ℕ) → kept (cond (x || y) (r ∷ o) o) v z ≡ kept (cond y (r ∷ b) b) v (kept (cond x (r ∷ a) a) v z)
  kept_step true true z =
      kept_cons r o v z ∙ ih (put v r.1 z)
      ∙ ap (λ (l : List ℕ). kept b v (kept a v l)) (sym (put_again v r.1 z))
      ∙ ap (kept b v) (kept_put a v r.1 (put v r.1 z) ∙ ap (put v r.1) (sym (kept_cons r a v z)))
      ∙ sym (kept_cons r b v (kept (r ∷ a) v z))
  kept_step true false z = kept_cons r o v z ∙ ih (put v r.1 z) ∙ ap (kept b v) (sym (kept_cons r a v z))
  kept_step false true z =
      kept_cons r o v z ∙ ih (put v r.1 z) ∙ ap (kept b v) (kept_put a v r.1 z) ∙ sym (kept_cons r b v (kept a v z))
  kept_step false false z = ih z

-- the rows of two sets together: those of one, then those of the other
pub kept_or : (a b : ℕ) (rows : List Row) (v z : List ℕ) → kept (named (bit_or a b) rows) v z ≡ kept (named b rows) v (kept (named a rows) v z)
kept_or a b [] v z = unfold kept named in refl
kept_or a b (r ∷ rows) v z = either a b r rows v z (kept_or a b rows v)
  where
    either : (a b : ℕ) (r : Row) (rows : List Row) (v z : List ℕ) →
        ((z : List ℕ) → kept (named (bit_or a b) rows) v z ≡ kept (named b rows) v (kept (named a rows) v z)) →
        kept (named (bit_or a b) (r ∷ rows)) v z ≡ kept (named b (r ∷ rows)) v (kept (named a (r ∷ rows)) v z)
    either a b r rows v z ih = unfold named in
        ap (λ (x : Bool). kept (cond x (r ∷ named (bit_or a b) rows) (named (bit_or a b) rows)) v z) (has_or a b r.0)
        ∙ kept_step r (named (bit_or a b) rows) (named a rows) (named b rows) v ih (has a r.0) (has b r.0) z

module _ (r : Row) (small large : List Row) (v : List ℕ) (k : all_fit large v ≡ true → all_fit small v ≡ true) where
  fit_row : (x y : Bool) → (x ≡ true → y ≡ true) → all_fit (cond y (r ∷ large) large) v ≡ true → all_fit (cond x (r ∷ small) small) v ≡ true
  unfolding all_fit
  fit_row true true f h =
      let t : Bool = ltb (get_or v r.1 0) (256 ^ octets_of r.2) in
      rw (and_l t (all_fit large v) h) (k (and_r t (all_fit large v) h))
  fit_row true false f h = absurd (true≢false (sym (f refl)))
  fit_row false true f h = k (and_r (ltb (get_or v r.1 0) (256 ^ octets_of r.2)) (all_fit large v) h)
  fit_row false false f h = k h

-- the numbers of a smaller set fit too
pub fit_sub : (a b : ℕ) (rows : List Row) (v : List ℕ) → Sub a b → all_fit (named b rows) v ≡ true → all_fit (named a rows) v ≡ true
unfolding named
fit_sub a b [] v s h = h
fit_sub a b (r ∷ rows) v s h =
    fit_row r (named a rows) (named b rows) v (fit_sub a b rows v s) (has a r.0) (has b r.0) (s.member r.0) h
