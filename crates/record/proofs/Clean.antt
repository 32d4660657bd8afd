-- Numbers that hold the values of some groups and nothing else: each fits its width, and every other number is 0. Reading a part into such numbers gives such
-- numbers again, for the part's groups as well.
use Prim.Native.Nat.{ℕ, zero, suc, ◌+◌, ◌^◌, ◌<◌}
use mathlib.Core.Path.{◌≡◌, refl, sym, ap, ◌∙◌}
use mathlib.Core.Bool.{Bool, true, false, cond, ◌&&◌, ◌||◌, true≢false}
use mathlib.Core.List.{List, [], ◌∷◌}
use native.Mathlib.Omega.{arith}
use lib.Dec.{eqb, leb, ltb}
use lib.ListN.{length, get_or, set, drop, replicate, length-set, get_or-eq_default}
use lib.Seq.{get_or-set_same, get_or-set_other}
use Rattle.record.specs.declared.layout.Row.{Row}
use Rattle.record.specs.Layout.{layout, octets_of, tables, treadmill, cross_trainer, step_climber, stair_climber, rower, indoor_bike}
use Rattle.record.specs.Groups.{has, named, known, listed, within}
use Rattle.record.specs.Octets.{number}
use Rattle.record.specs.Notification.{read_into}
use Rattle.record.specs.Record.{all_fit, others, all_zero, formed}
use Rattle.record.proofs.Sets.{Sub, has_empty}
use Rattle.record.proofs.Tests.{Tested, passed, failed, tested, and_l, and_r, eqb_eq, eqb_ne, eqb_true, leb_le, leb_lt, all, all_at}
use Rattle.record.proofs.Turns.{tests}
use Rattle.record.proofs.ReadRows.{layout_distinct, named_distinct, fit_read}

-- whether a field is in one of the rows
abbrev pub in_rows : ℕ → List Row → Bool
in_rows f [] = false
in_rows f (r ∷ rows) = eqb r.1 f || in_rows f rows

-- whether the value of a row fits, if the row's group is in a set
abbrev pub fine : ℕ → List ℕ → Row → Bool
fine T v r = cond (has T r.0) (ltb (get_or v r.1 0) (256 ^ octets_of r.2)) true

pub record Clean (kind T : ℕ) (v : List ℕ) : Type 0 where
  pub long : length v ≡ 31
  pub fits : all (fine T v) (layout kind) ≡ true
  pub none : (f : ℕ) → in_rows f (named T (layout kind)) ≡ false → get_or v f 0 ≡ 0

-- ---- rows of one field have one bit

abbrev agrees : Row → Row → Bool
agrees r q = cond (eqb q.1 r.1) (eqb q.0 r.0) true

abbrev one_bit : List Row → Bool
one_bit rows = all (λ r. all (agrees r) rows) rows

layout_one_bit : (kind : ℕ) → one_bit (layout kind) ≡ true
unfolding layout tables treadmill cross_trainer step_climber stair_climber rower indoor_bike
layout_one_bit kind = all_at one_bit tables [] refl refl kind

or_false : (a b : Bool) → (a || b) ≡ false → (a ≡ false) × (b ≡ false)
or_false true b e = absurd (true≢false e)
or_false false b e = (refl, e)

-- if a row's group is not in a set, no row of the set has its field
not_in : (N : ℕ) (r : Row) (rows : List Row) → all (agrees r) rows ≡ true → has N r.0 ≡ false → in_rows r.1 (named N rows) ≡ false
unfolding named
not_in N r [] e h = refl
not_in N r (q ∷ rows) e h = go (tested (has N q.0)) (not_in N r rows (and_r (agrees r q) (all (agrees r) rows) e) h)
  where
    other_field : Tested (eqb q.1 r.1) → has N q.0 ≡ true → eqb q.1 r.1 ≡ false
    other_field (failed t) g = t
    other_field (passed t) g =
        let a : eqb q.0 r.0 ≡ true = ap (λ (b : Bool). cond b (eqb q.0 r.0) true) (sym t) ∙ and_l (agrees r q) (all (agrees r) rows) e in
        absurd (true≢false (sym g ∙ ap (has N) (eqb_eq q.0 r.0 a) ∙ h))

    go : Tested (has N q.0) → in_rows r.1 (named N rows) ≡ false → in_rows r.1 (cond (has N q.0) (q ∷ named N rows) (named N rows)) ≡ false
    go (passed g) i = rw (g, other_field (tested (eqb q.1 r.1)) g) i
    go (failed g) i = rw g i

-- a field that is in no group of a set is in no group of a subset
fewer : (N T : ℕ) (f : ℕ) (rows : List Row) → Sub N T → in_rows f (named T rows) ≡ false → in_rows f (named N rows) ≡ false
unfolding named
fewer N T f [] s e = refl
fewer N T f (q ∷ rows) s e = go (λ i. fewer N T f rows s i) (tested (has N q.0)) (tested (has T q.0))
  where
    go : (in_rows f (named T rows) ≡ false → in_rows f (named N rows) ≡ false) → Tested (has N q.0) → Tested (has T q.0) →
        in_rows f (cond (has N q.0) (q ∷ named N rows) (named N rows)) ≡ false
    go rest (passed n) (failed t) = absurd (true≢false (sym (s.member q.0 n) ∙ t))
    go rest (passed n) (passed t) =
        let e' : (eqb q.1 f || in_rows f (named T rows)) ≡ false = ap (λ (b : Bool). in_rows f (cond b (q ∷ named T rows) (named T rows))) (sym t) ∙ e in
        let p : (eqb q.1 f ≡ false) × (in_rows f (named T rows) ≡ false) = or_false (eqb q.1 f) (in_rows f (named T rows)) e' in
        rw (n, p.0) (rest p.1)
    go rest (failed n) (passed t) =
        let e' : (eqb q.1 f || in_rows f (named T rows)) ≡ false = ap (λ (b : Bool). in_rows f (cond b (q ∷ named T rows) (named T rows))) (sym t) ∙ e in
        rw n (rest (or_false (eqb q.1 f) (in_rows f (named T rows)) e').1)
    go rest (failed n) (failed t) =
        let e' : in_rows f (named T rows) ≡ false = ap (λ (b : Bool). in_rows f (cond b (q ∷ named T rows) (named T rows))) (sym t) ∙ e in
        rw n (rest e')

-- ---- reading

read_long : (rows : List Row) (o z : List ℕ) → length (read_into rows o z) ≡ length z
unfolding read_into
read_long [] o z = refl
read_long (r ∷ rows) o z = read_long rows (drop (octets_of r.2) o) (set z r.1 (number (octets_of r.2) o)) ∙ length-set z r.1 (number (octets_of r.2) o)

read_off : (rows : List Row) (o z : List ℕ) (f : ℕ) → in_rows f rows ≡ false → get_or (read_into rows o z) f 0 ≡ get_or z f 0
unfolding read_into
read_off [] o z f e = refl
read_off (r ∷ rows) o z f e =
    let p : (eqb r.1 f ≡ false) × (in_rows f rows ≡ false) = or_false (eqb r.1 f) (in_rows f rows) e in
    let d : f ≡ r.1 → ⊥ = λ h. eqb_ne r.1 f p.0 (sym h) in
    read_off rows (drop (octets_of r.2) o) (set z r.1 (number (octets_of r.2) o)) f p.1 ∙ get_or-set_other z r.1 f (number (octets_of r.2) o) 0 d

-- that all named rows fit, as a test of each row
fit_each : (T : ℕ) (v : List ℕ) (rows : List Row) → all_fit (named T rows) v ≡ all (fine T v) rows
unfolding all_fit named
fit_each T v [] = refl
fit_each T v (r ∷ rows) = go (fit_each T v rows) (has T r.0)
  where
    go : all_fit (named T rows) v ≡ all (fine T v) rows → (b : Bool) → all_fit (cond b (r ∷ named T rows) (named T rows)) v ≡ (cond b (ltb (get_or v r.1 0) (256 ^ octets_of r.2)) true && all (fine T v) rows)
    go rest true = ap (λ (x : Bool). ltb (get_or v r.1 0) (256 ^ octets_of r.2) && x) rest
    go rest false = rest

-- what is read fits, and what was there and is not read still fits
module _ (S N T : ℕ) (v w : List ℕ) (all_rows : List Row) (either : (b : ℕ) → has T b ≡ true → has N b ≡ false → has S b ≡ true)
    (stays : (r : Row) → all (agrees r) all_rows ≡ true → has N r.0 ≡ false → get_or w r.1 0 ≡ get_or v r.1 0) where
  both_fit : (rows : List Row) → all (λ r. all (agrees r) all_rows) rows ≡ true → all (fine N w) rows ≡ true → all (fine S v) rows ≡ true → all (fine T w) rows ≡ true
  both_fit [] a n s = refl
  both_fit (r ∷ rows) a n s =
      let rest : all (fine T w) rows ≡ true =
      both_fit rows (and_r (all (agrees r) all_rows) (all (λ r. all (agrees r) all_rows) rows) a) (and_r (fine N w r) (all (fine N w) rows) n)
      (and_r (fine S v r) (all (fine S v) rows) s) in
      rw rest (one (tested (has T r.0)) (tested (has N r.0)))
    where
      read : has N r.0 ≡ true → ltb (get_or w r.1 0) (256 ^ octets_of r.2) ≡ true
      read g = ap (λ (b : Bool). cond b (ltb (get_or w r.1 0) (256 ^ octets_of r.2)) true) (sym g) ∙ and_l (fine N w r) (all (fine N w) rows) n

      kept : has N r.0 ≡ false → has S r.0 ≡ true → ltb (get_or w r.1 0) (256 ^ octets_of r.2) ≡ true
      kept g h =
          ap (λ (x : ℕ). ltb x (256 ^ octets_of r.2)) (stays r (and_l (all (agrees r) all_rows) (all (λ r. all (agrees r) all_rows) rows) a) g)
          ∙ ap (λ (b : Bool). cond b (ltb (get_or v r.1 0) (256 ^ octets_of r.2)) true) (sym h) ∙ and_l (fine S v r) (all (fine S v) rows) s

      one : Tested (has T r.0) → Tested (has N r.0) → (fine T w r && true) ≡ true
      one (failed t) x = rw t
      one (passed t) (passed g) = rw (t, read g)
      one (passed t) (failed g) = rw (t, kept g (either r.0 t g))

pub clean_read : (kind S N T : ℕ) (v o : List ℕ) → Clean kind S v → Sub S T → Sub N T → ((b : ℕ) → has T b ≡ true → has N b ≡ false → has S b ≡ true) →
    ((i : ℕ) → get_or o i 0 < 256) → Clean kind T (read_into (named N (layout kind)) o v)
clean_read kind S N T v o c s n either h =
    let rows : List Row = named N (layout kind) in
    let w : List ℕ = read_into rows o v in
    let read_fits : all (fine N w) (layout kind) ≡ true =
    sym (fit_each N w (layout kind)) ∙ fit_read rows o v (named_distinct N (layout kind) (layout_distinct kind)) c.long h in
    record {
      long = read_long rows o v ∙ c.long;
      fits = both_fit S N T v w (layout kind) either (λ r a g. read_off rows o v r.1 (not_in N r (layout kind) a g)) (layout kind) (layout_one_bit kind) read_fits c.fits;
      none = λ f e. read_off rows o v f (fewer N T f (layout kind) n e) ∙ c.none f (fewer S T f (layout kind) s e);
    }

-- ---- nothing at all

fine_none : (v : List ℕ) (rows : List Row) → all (fine 0 v) rows ≡ true
fine_none v [] = refl
fine_none v (r ∷ rows) = rw (has_empty r.0) (fine_none v rows)

zeros_at : (n f : ℕ) → get_or {A = ℕ} (replicate n 0) f 0 ≡ 0
zeros_at zero f = refl
zeros_at (suc n) zero = refl
zeros_at (suc n) (suc f) = zeros_at n f

pub clean_zeros : (kind : ℕ) → Clean kind 0 (replicate 31 0)
clean_zeros kind = record { long = refl; fits = fine_none (replicate 31 0) (layout kind); none = λ f e. zeros_at 31 f }

-- ---- such numbers, with the main group too, are those of a well-formed record

set_zero : (v : List ℕ) (f : ℕ) → get_or (set v f 0) f 0 ≡ 0
set_zero v f = elim (tested (leb (suc f) (length v))) [
  | passed t ↦ get_or-set_same v f 0 0 (leb_le (suc f) (length v) t)
  | failed t ↦
      let l : length v < suc f = leb_lt (suc f) (length v) t in
      let k : length (set v f 0) ≡ length v = length-set v f 0 in
      get_or-eq_default (set v f 0) 0 {n = f} (omega arith)
]

others_off : (rows : List Row) (v : List ℕ) (f : ℕ) → get_or v f 0 ≡ 0 → get_or (others rows v) f 0 ≡ 0
unfolding others
others_off [] v f e = e
others_off (r ∷ rows) v f e = others_off rows (set v r.1 0) f (at (tested (eqb f r.1)))
  where
    at : Tested (eqb f r.1) → get_or (set v r.1 0) f 0 ≡ 0
    at (passed t) = ap (λ (x : ℕ). get_or (set v r.1 0) x 0) (eqb_eq f r.1 t) ∙ set_zero v r.1
    at (failed t) = get_or-set_other v r.1 f 0 0 (eqb_ne f r.1 t) ∙ e

others_in : (rows : List Row) (v : List ℕ) (f : ℕ) → in_rows f rows ≡ true → get_or (others rows v) f 0 ≡ 0
unfolding others
others_in [] v f e = absurd (true≢false (sym e))
others_in (r ∷ rows) v f e = go (λ i. others_in rows (set v r.1 0) f i) (tested (eqb r.1 f))
  where
    go : (in_rows f rows ≡ true → get_or (others rows (set v r.1 0)) f 0 ≡ 0) → Tested (eqb r.1 f) → get_or (others rows (set v r.1 0)) f 0 ≡ 0
    go rest (passed t) = others_off rows (set v r.1 0) f (ap (λ (x : ℕ). get_or (set v x 0) f 0) (eqb_eq r.1 f t) ∙ set_zero v f)
    go rest (failed t) = rest (ap (λ (b : Bool). b || in_rows f rows) (sym t) ∙ e)

zero_all : (w : List ℕ) → ((f : ℕ) → get_or w f 0 ≡ 0) → all_zero w ≡ true
unfolding all_zero
zero_all [] h = refl
zero_all (x ∷ w) h = rw (eqb_true (h 0)) (zero_all w (λ f. h (suc f)))

pub clean_formed : (kind g d : ℕ) (v : List ℕ) → Clean kind (1 + g) v → known kind ≡ true → within g (listed kind) ≡ true → leb d (cond (eqb kind 2) 1 0) ≡ true →
    formed kind g d v ≡ true
clean_formed kind g d v c k l w =
    let rows : List Row = named (1 + g) (layout kind) in
    let fit : all_fit rows v ≡ true = fit_each (1 + g) v (layout kind) ∙ c.fits in
    let zero_at : (f : ℕ) → get_or (others rows v) f 0 ≡ 0 = λ f. elim (tested (in_rows f rows)) [
      | passed t ↦ others_in rows v f t
      | failed t ↦ others_off rows v f (c.none f t)
    ] in
    tests kind g d v k l w fit (zero_all (others rows v) zero_at)
