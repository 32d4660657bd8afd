-- A setting that is stored is read back as it was written, and changes no other setting.
use Rattle.std.specs.Prelude.{Option, None, Some}
use Prim.Native.Nat.{ℕ, zero, suc, ◌+◌, ◌-◌, ◌≤◌}
use mathlib.Core.Path.{◌≡◌, refl, sym, ap, ◌∙◌}
use mathlib.Core.Logic.{◌⊎◌, inl, inr}
use mathlib.Core.Bool.{Bool, true, false, cond, ◌||◌, true≢false}
use mathlib.Core.List.{List, [], ◌∷◌, ◌++◌, append_assoc}
use native.Mathlib.Omega.{arith}
use lib.Dec.{eqb, leb}
use lib.ListN.{length, take, drop, set, replicate}
use lib.Seq.{sets-eq, take_at, drop_at, length-take-le, take-set-le, drop-set-lt, drop-set-add}
use Rattle.record.specs.Octets.{placed}
use Rattle.record.proofs.Tests.{leb_le, eqb_false, all}
use Rattle.service.specs.declared.control.machine.Machine.{Machine}
use Rattle.service.specs.declared.control.op_codes.OpCode.{OpCode}
use Rattle.service.specs.declared.control.op_codes.Act.{Act}
use Rattle.service.specs.declared.control.op_codes.Act.TheVariants.{TakesControl, Resets, Starts, Halts, Stores, SpinsDown}
use Rattle.service.specs.Control.OpCodes.{table, op_code}
use Rattle.service.specs.Control.Parameters.{size}
use Rattle.service.specs.Control.Machine.{storing}
use Rattle.service.specs.Control.Effects.{Room, part, setting_of, setting}
use Rattle.service.proofs.ControlLaws.Rule.{on_line, table_rule, room_for}
use Rattle.demands.specs.Control.Laws.{keeps, zero_setting}

-- ---- octets from an index on, with others written before them, after them or over them

before_set : (l : List ℕ) (i x a n : ℕ) → a + n ≤ i → take n (drop a (set l i x)) ≡ take n (drop a l)
before_set l i x a n h =
    let e : i ≡ a + (i - a) = omega arith in
    rw (e, drop-set-add a l (i - a) x) (take-set-le n (drop a l) (i - a) x (omega arith))

before : (p l : List ℕ) (i a n : ℕ) → a + n ≤ i → take n (drop a (placed l i p)) ≡ take n (drop a l)
before [] l i a n h = refl
before (x ∷ p) l i a n h = before p (set l i x) (suc i) a n (omega arith) ∙ before_set l i x a n h

after : (p l : List ℕ) (i a : ℕ) → i + length p ≤ a → drop a (placed l i p) ≡ drop a l
after [] l i a h = refl
after (x ∷ p) l i a h = after p (set l i x) (suc i) a (omega arith) ∙ drop-set-lt a l i x (omega arith)

over : (p l : List ℕ) (a n : ℕ) → length p ≡ n → a + n ≤ length l → take n (drop a (placed l a p)) ≡ p
over p l a n e h =
    let rest : List ℕ = drop (a + length p) l in
    rw (sets-eq p l a (omega arith), append_assoc (take a l) p rest, drop_at (take a l) (p ++ rest) a (length-take-le a l (omega arith)), take_at p rest n e)

-- ---- no two settings overlap: a test that computes over the table

abbrev against : ℕ → ℕ → Act → ℕ → Bool
against a n TakesControl k = true
against a n Resets k = true
against a n Starts k = true
against a n Halts k = true
against a n SpinsDown k = true
against a n (Stores b) k = leb (a + n) b || leb (b + k) a

abbrev apart : Act → ℕ → Act → ℕ → Bool
apart TakesControl n q k = true
apart Resets n q k = true
apart Starts n q k = true
apart Halts n q k = true
apart SpinsDown n q k = true
apart (Stores a) n q k = against a n q k

abbrev clear : ℕ → OpCode → ℕ → OpCode → Bool
clear o x i y = apart x.act (size x.parameter) y.act (size y.parameter) || eqb o i

abbrev clear_of_all : ℕ → OpCode → Bool
clear_of_all o x = all (on_line (clear o x)) table

or_cases : (x y : Bool) → (x || y) ≡ true → (x ≡ true) ⊎ (y ≡ true)
or_cases true y e = inl refl
or_cases false y e = inr e

-- ---- a setting that is stored

module _ (m : Machine) (o : ℕ) (x : OpCode) (a : ℕ) (p : List ℕ) (e : op_code o ≡ Some x) (f : x.act ≡ Stores a)
    (n : length p ≡ size x.parameter) where
  apart_two : (i : ℕ) (y : OpCode) (b : ℕ) → op_code i ≡ Some y → y.act ≡ Stores b → (i ≡ o → ⊥) →
      (a + size x.parameter ≤ b) ⊎ (b + size y.parameter ≤ a)
  apart_two i y b g j d =
      let h : clear o x i y ≡ true = table_rule (clear o x) (table_rule clear_of_all refl o x e) i y g in
      let k : ((leb (a + size x.parameter) b || leb (b + size y.parameter) a) || eqb o i) ≡ true = rw (f, j) at h in
      elim (or_cases (leb (a + size x.parameter) b || leb (b + size y.parameter) a) (eqb o i) k) [
        | inr z ↦ absurd (true≢false (sym z ∙ eqb_false (λ (q : o ≡ i). d (sym q))))
        | inl z ↦ elim (or_cases (leb (a + size x.parameter) b) (leb (b + size y.parameter) a) z) [
          | inl w ↦ inl (leb_le (a + size x.parameter) b w)
          | inr w ↦ inr (leb_le (b + size y.parameter) a w)
        ]
      ]

  pub stored_same : length m.settings ≡ 49 → setting (storing m (placed m.settings a p)) o ≡ p
  unfolding setting
  stored_same w =
      let h : a + size x.parameter ≤ 49 = rw f at (room_for o x e) in
      rw (e, f) (over p m.settings a (size x.parameter) n (omega arith))

  pub stored_other : (i : ℕ) → (i ≡ o → ⊥) → setting (storing m (placed m.settings a p)) i ≡ setting m i
  unfolding setting
  stored_other i d = from (op_code i) refl
    where
      from_act : (y : OpCode) → op_code i ≡ Some y → (b : Act) → y.act ≡ b →
          part (placed m.settings a p) (size y.parameter) b ≡ part m.settings (size y.parameter) b
      from_act y g TakesControl j = refl
      from_act y g Resets j = refl
      from_act y g Starts j = refl
      from_act y g Halts j = refl
      from_act y g SpinsDown j = refl
      from_act y g (Stores b) j = elim (apart_two i y b g j d) [
        | inl h ↦ ap (take (size y.parameter)) (after p m.settings a b (omega arith))
        | inr h ↦ before p m.settings a b (size y.parameter) h
      ]

      from : (l : Option OpCode) → op_code i ≡ l → setting_of (placed m.settings a p) l ≡ setting_of m.settings l
      from (Some y) g = from_act y g y.act refl
      from None g = refl

-- ---- every setting of a machine whose octets are zero is zero

zeros_part : (n a k : ℕ) → a + n ≤ k → take {A = ℕ} n (drop a (replicate k 0)) ≡ replicate n 0
zeros_part zero zero zero h = refl
zeros_part zero zero (suc k) h = refl
zeros_part zero (suc a) zero h = refl
zeros_part zero (suc a) (suc k) h = zeros_part zero a k (omega arith)
zeros_part (suc n) a zero h = absurd (omega arith)
zeros_part (suc n) zero (suc k) h = ap (λ (l : List ℕ). 0 ∷ l) (zeros_part n zero k (omega arith))
zeros_part (suc n) (suc a) (suc k) h = zeros_part (suc n) a k (omega arith)

pub zero_at : (o : ℕ) → setting_of (replicate 49 0) (op_code o) ≡ zero_setting (op_code o)
zero_at o = from (op_code o) refl
  where
    from_act : (n : ℕ) (a : Act) → Room a n → part (replicate 49 0) n a ≡ cond (keeps a) (replicate n 0) []
    from_act n TakesControl h = refl
    from_act n Resets h = refl
    from_act n Starts h = refl
    from_act n Halts h = refl
    from_act n SpinsDown h = refl
    from_act n (Stores b) h = zeros_part n b 49 h

    from : (l : Option OpCode) → op_code o ≡ l → setting_of (replicate 49 0) l ≡ zero_setting l
    from (Some x) e = from_act (size x.parameter) x.act (room_for o x e)
    from None e = refl
