-- No second reply: what it means for a contract, and why an answer is known by its meaning.
use Prim.Native.Nat.{ℕ}
use mathlib.Core.Path.{◌≡◌, refl, sym, ap, ◌∙◌}
use native.Mathlib.Omega.{arith}
use Rattle.record.specs.declared.refusal.Refusal.{Refusal}
use Rattle.std.specs.Prelude.{Result, Ok, Err}
use Rattle.record.specs.Answer.{Answer, refused, given, meant}
use Rattle.record.specs.Refusal.{number_of}
use Rattle.record.proofs.RefusalLaws.{number_once}

module _ {K : Type 0} {A R S : K → Type 0} (Post : (κs : K) → A κs → R κs → S κs → Type 0) where
  -- two replies that meet a contract at the same arguments are equal
  abbrev pub Once : Type 0
  Once = (κs : K) (a : A κs) (x y : R κs) (s t : S κs) → Post κs a x s → Post κs a y t → x ≡ y

  -- and so are the two contents that are left in what was lent
  abbrev pub LeftOnce : {B : Type 0} → ((κs : K) → S κs → B) → Type 0
  LeftOnce lent = (κs : K) (a : A κs) (x y : R κs) (s t : S κs) → Post κs a x s → Post κs a y t → lent κs s ≡ lent κs t

  -- and what two replies lend is the same
  abbrev pub LentOnce : {B : Type 0} → ((κs : K) → R κs → B) → Type 0
  LentOnce lent = (κs : K) (a : A κs) (x y : R κs) (s t : S κs) → Post κs a x s → Post κs a y t → lent κs x ≡ lent κs y

pub same : {A : Type 0} {x y z : A} → x ≡ z → y ≡ z → x ≡ y
same p q = p ∙ sym q

pub number_same : {A : Type 0} (a b : ℕ) → ◌≡◌ {A = Answer A} (refused a) (refused b) → a ≡ b
number_same a b e = cc

pub value_same : {A : Type 0} (a b : A) → ◌≡◌ {A = Answer A} (given a) (given b) → a ≡ b
value_same a b e = cc

pub never : {A : Type 0} (a : A) (n : ℕ) → ◌≡◌ {A = Answer A} (given a) (refused n) → ⊥
never a n e = let z : ◌≡◌ {A = ℕ} 0 1 = cc in omega arith

-- ---- an enum of two variants, one with a value and one with a refusal, is known by its meaning
module _ {X A : Type 0} (G : A → X) (R : Refusal → X) where
  pub data Variant (x : X) : Type 0 where
    with_value : (a : A) → x ≡ G a → Variant x
    with_refusal : (r : Refusal) → x ≡ R r → Variant x

  module _ (meant : X → Answer A) (variant : (x : X) → Variant x) (g : (a : A) → meant (G a) ≡ given a) (r : (w : Refusal) → meant (R w) ≡ refused (number_of w)) where
    meant_value : (x : X) (a : A) → x ≡ G a → meant x ≡ given a
    meant_value x a e = ap meant e ∙ g a

    meant_refusal : (x : X) (w : Refusal) → x ≡ R w → meant x ≡ refused (number_of w)
    meant_refusal x w e = ap meant e ∙ r w

    pub by_meaning : (x y : X) → meant x ≡ meant y → x ≡ y
    by_meaning x y e = from (variant x) (variant y)
      where
        from : Variant x → Variant y → x ≡ y
        from (with_value a p) (with_value b q) = p ∙ ap G (value_same a b (sym (meant_value x a p) ∙ e ∙ meant_value y b q)) ∙ sym q
        from (with_value a p) (with_refusal w q) = absurd (never a (number_of w) (sym (meant_value x a p) ∙ e ∙ meant_refusal y w q))
        from (with_refusal w p) (with_value b q) = absurd (never b (number_of w) (sym (meant_value y b q) ∙ sym e ∙ meant_refusal x w p))
        from (with_refusal v p) (with_refusal w q) = p ∙ ap R (number_once v w (number_same (number_of v) (number_of w) (sym (meant_refusal x v p) ∙ e ∙ meant_refusal y w q))) ∙ sym q

-- so is a call's result
result_variant : {A : Type 0} (x : Result A Refusal) → Variant Ok Err x
result_variant (Ok a) = with_value a refl
result_variant (Err w) = with_refusal w refl

pub meant_once : {A : Type 0} (x y : Result A Refusal) → meant x ≡ meant y → x ≡ y
meant_once = by_meaning Ok Err meant result_variant (λ a. refl) (λ w. refl)
