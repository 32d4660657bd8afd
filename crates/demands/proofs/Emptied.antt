-- The state after a step of our collector: after a record and after a refusal 30 to 34 it holds nothing, and is the state that it was opened with; after a
-- refusal 10 to 22 it is unchanged.
use Prim.Native.Nat.{ℕ, ◌≤◌}
use mathlib.Core.Path.{◌≡◌, refl, sym, ap, ap₂, ◌∙◌}
use mathlib.Core.Bool.{Bool, true, false, cond, not}
use mathlib.Core.List.{List}
use native.Mathlib.Omega.{arith}
use lib.Dec.{eqb, leb}
use Rattle.record.specs.declared.notification.Part.{Part}
use Rattle.record.specs.declared.record.Record.{Record}
use Rattle.record.specs.Answer.{Answer, given}
use Rattle.record.specs.Notification.{part_of}
use Rattle.record.proofs.Tests.{leb_true, leb_false}
use Rattle.service.specs.declared.collector.Told.{Told}
use Rattle.service.specs.declared.collector.Collection.{Collection}
use Rattle.service.specs.Collector.{Said, waiting, handed, refused, Stepped, empty, drops, outside, refuses, joins, answers_to, collect}
use Rattle.service.proofs.Said.{tag}
use Rattle.service.proofs.Joining.{by_cases}
use Rattle.demands.specs.Demands.{Reached, at_first, then, Empty, opened, after_record, after_refusal as refusing}
use Rattle.demands.proofs.Pieces.{collector}

-- what a step leaves: the kind and what was told stay; after a record, and after a refusal 30 to 34, nothing is held; a refusal 10 to 22 leaves everything as
-- it was; and each refusal says whether any groups were held before it
record Leaves (c : Collection) (x : Stepped) : Type 0 where
  same_kind : x.next.kind ≡ c.kind
  same_told : x.next.told ≡ c.told
  after_handed : (r : Record) (d : Bool) → x.said ≡ handed r d → x.next ≡ empty c.kind c.told
  after_refused : (n : ℕ) (d : Bool) → 30 ≤ n → x.said ≡ refused n d → x.next ≡ empty c.kind c.told
  stays : (n : ℕ) (d : Bool) → n ≤ 22 → x.said ≡ refused n d → x.next ≡ c
  flagged : (n : ℕ) (d : Bool) → x.said ≡ refused n d → d ≡ not (eqb c.held 0)

apart : {A : Type 0} {a b : Said} (f : Said → ℕ) → a ≡ b → (f a ≡ f b → ⊥) → A
apart f e n = absurd (n (ap f e))

-- the number of a refusal, and the flag of an answer
abbrev number_in : Said → ℕ
number_in (waiting d) = 0
number_in (handed r d) = 0
number_in (refused n d) = n

abbrev flag_in : Said → Bool
flag_in (waiting d) = d
flag_in (handed r d) = d
flag_in (refused n d) = d

module _ (c : Collection) where
  leaves_refusal : (n : ℕ) → Leaves c (refuses c n)
  leaves_refusal n = record {
    same_kind = kind_after (leb n 22);
    same_told = told_after (leb n 22);
    after_handed = λ r d e. apart tag e (λ z. omega arith);
    after_refused = λ m d h e.
        let i : n ≡ m = ap number_in e in
        ap (λ (b : Bool). cond b c (empty c.kind c.told)) (leb_false {m = n} {n = 22} (omega arith));
    stays = λ m d h e.
        let i : n ≡ m = ap number_in e in
        ap (λ (b : Bool). cond b c (empty c.kind c.told)) (leb_true {m = n} {n = 22} (omega arith));
    flagged = λ m d e. sym (ap flag_in e);
  }
    where
      kind_after : (b : Bool) → (cond b c (empty c.kind c.told)).kind ≡ c.kind
      kind_after true = refl
      kind_after false = refl

      told_after : (b : Bool) → (cond b c (empty c.kind c.told)).told ≡ c.told
      told_after true = refl
      told_after false = refl

  leaves_part : (p : Part) (s : List ℕ) (b dropped : Bool) → Leaves c (cond b (refuses c 33) (joins c p s dropped))
  leaves_part p s true dropped = leaves_refusal 33
  leaves_part p s false dropped =
      by_cases c p s dropped (Leaves c)
      (λ l. record {
        same_kind = refl;
        same_told = refl;
        after_handed = λ r d e. apart tag e (λ z. omega arith);
        after_refused = λ n d h e. apart tag e (λ z. omega arith);
        stays = λ n d h e. apart tag e (λ z. omega arith);
        flagged = λ n d e. apart tag e (λ z. omega arith);
      })
      (leaves_refusal 34)
      (λ l. record {
        same_kind = refl;
        same_told = refl;
        after_handed = λ r d e. refl;
        after_refused = λ n d h e. refl;
        stays = λ n d h e. apart tag e (λ z. omega arith);
        flagged = λ n d e. apart tag e (λ z. omega arith);
      })

  leaves_answer : (a : Answer Part) (s : List ℕ) → Leaves c (answers_to c a s)
  leaves_answer (Answer.refused n) s = leaves_refusal n
  leaves_answer (given p) s = leaves_part p s (outside c.told p.groups) (drops c.told c.held p.groups)

  leaves : (s : List ℕ) → Leaves c (collect c s)
  unfolding collect
  leaves s = leaves_answer (part_of c.kind s) s

-- "10 to 22 leave the state unchanged."
pub unchanged : (c : Collection) (s : List ℕ) (n : ℕ) (d : Bool) → n ≤ 22 → (collect c s).said ≡ refused n d → (collect c s).next ≡ c
unchanged c s = (leaves c s).stays

-- "a refusal says yes exactly when any were held before it"
pub says_held : (c : Collection) (s : List ℕ) (n : ℕ) (d : Bool) → (collect c s).said ≡ refused n d → d ≡ not (eqb c.held 0)
says_held c s = (leaves c s).flagged

module _ (kind : ℕ) (told : Told) where
  -- whatever was received, the kind and what was told are those of the opening
  pub reached : {c : Collection} → Reached collector kind told c → (c.kind ≡ kind) × (c.told ≡ told)
  reached at_first = (refl, refl)
  reached (then {state = c} h s) = ((leaves c s).same_kind ∙ (reached h).0, (leaves c s).same_told ∙ (reached h).1)

  -- "Nothing is held after either." "A refusal 30 to 34 leaves nothing held.": the state is that just after opening
  pub emptied : {c : Collection} → Empty collector kind told c → c ≡ empty kind told
  emptied opened = refl
  emptied (after_record {state = c} h s r d e) = (leaves c s).after_handed r d e ∙ ap₂ empty (reached h).0 (reached h).1
  emptied (refusing {state = c} h s n d l m e) = (leaves c s).after_refused n d l e ∙ ap₂ empty (reached h).0 (reached h).1
