-- Walking along the sets of a record's parts, and keeping the one that is asked for.
use Prim.Native.Nat.{ℕ, zero, suc, ◌+◌, ◌-◌, ◌^◌, ◌<◌, ◌≤◌, zero-le}
use mathlib.Core.Path.{◌≡◌, refl, sym, ap, ◌∙◌}
use mathlib.Core.Bool.{Bool, true, false, cond}
use mathlib.Core.List.{List, [], ◌∷◌, ◌++◌, append_assoc, append-nil}
use native.Mathlib.Nat.{mod-le}
use native.Mathlib.Omega.{arith}
use lib.Dec.{eqb, eqb-suc-suc, eqb-zero-suc, eqb-suc-zero}
use lib.ListN.{length, get_or, length-append}
use Rattle.record.specs.Split.{fits, longest, run, cut}

-- how far the walk is: the whole list, what is left of it, the index asked for, what was found there,
-- and how many sets are passed
pub record Reached (whole rest : List ℕ) (place found passed : ℕ) : Type 0 where
  pub done : List ℕ
  pub joins : whole ≡ done ++ rest
  pub count : length done ≡ passed
  pub there : found ≡ get_or done place 0

pub start : (whole : List ℕ) (place : ℕ) → Reached whole whole place 0 0
start whole place = record { done = []; joins = refl; count = refl; there = refl }

-- a list with one element appended
getD_one_more : (done : List ℕ) (x place : ℕ) → get_or (done ++ (x ∷ [])) place 0 ≡ cond (eqb (length done) place) x (get_or done place 0)
getD_one_more [] x zero = refl
getD_one_more [] x (suc place) = rw (eqb-zero-suc place)
getD_one_more (y ∷ done) x zero = rw (eqb-suc-zero (length done))
getD_one_more (y ∷ done) x (suc place) = rw (eqb-suc-suc (length done) place) (getD_one_more done x place)

pub onward : (whole : List ℕ) (x : ℕ) (rest : List ℕ) (place found passed : ℕ) → Reached whole (x ∷ rest) place found passed →
    Reached whole rest place (cond (eqb passed place) x found) (passed + 1)
onward whole x rest place found passed r =
    let d : List ℕ = r.done in record {
      done = d ++ (x ∷ []);
      joins = r.joins ∙ sym (append_assoc d (x ∷ []) rest);
      count = length-append d (x ∷ []) ∙ ap (λ (n : ℕ). n + 1) r.count;
      there = sym (getD_one_more d x place ∙ rw (r.count, ← r.there));
    }

pub arrived : (whole : List ℕ) (place found passed : ℕ) → Reached whole [] place found passed → (found ≡ get_or whole place 0) × (passed ≡ length whole)
arrived whole place found passed r =
    let e : whole ≡ r.done = r.joins ∙ append-nil r.done in
    (r.there ∙ ap (λ (l : List ℕ). get_or l place 0) (sym e), sym (ap length e ∙ r.count))

-- the sets that are left: the last one, or a run and more
module _ (kind room left passed : ℕ) (more : passed < 16) where
  pub cut_last : fits kind (1 + left) room ≡ true → cut kind room left (16 - passed) ≡ (1 + left) ∷ []
  cut_last f =
      let n : 16 - passed ≡ suc (15 - passed) = omega arith in
      ap (cut kind room left) n ∙ last_set
    where
      last_set : cut kind room left (suc (15 - passed)) ≡ (1 + left) ∷ []
      last_set = unfold cut in rw f

  pub cut_more : fits kind (1 + left) room ≡ false →
      cut kind room left (16 - passed) ≡ run kind room left ∷ cut kind room (left - run kind room left) (16 - (passed + 1))
  cut_more f =
      let n : 16 - passed ≡ suc (15 - passed) = omega arith in
      let m : 15 - passed ≡ 16 - (passed + 1) = omega arith in
      ap (cut kind room left) n ∙ next_set ∙ ap (λ (k : ℕ). run kind room left ∷ cut kind room (left - run kind room left) k) m
    where
      next_set : cut kind room left (suc (15 - passed)) ≡ run kind room left ∷ cut kind room (left - run kind room left) (15 - passed)
      next_set = unfold cut in rw f

-- every set into which groups are cut is at most those groups and the main one
pub cut_most : (kind room n left i : ℕ) → get_or (cut kind room left n) i 0 ≤ 1 + left
unfolding cut
cut_most kind room zero left i = zero-le
cut_most kind room (suc n) left i =
    most (fits kind (1 + left) room) (run kind room left) (cut kind room (left - run kind room left) n) left i (mod-le left (2 ^ longest kind left room 15))
    (cut_most kind room n (left - run kind room left))
  where
    most : (b : Bool) (x : ℕ) (rest : List ℕ) (left i : ℕ) → x ≤ left → ((j : ℕ) → get_or rest j 0 ≤ 1 + (left - x)) →
        get_or (cond b ((1 + left) ∷ []) (x ∷ rest)) i 0 ≤ 1 + left
    most true x rest left zero l h = omega arith
    most true x rest left (suc i) l h = zero-le
    most false x rest left zero l h = omega arith
    most false x rest left (suc i) l h = let k : get_or rest i 0 ≤ 1 + (left - x) = h i in omega arith
