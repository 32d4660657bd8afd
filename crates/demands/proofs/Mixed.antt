-- Parts of two records that pass as one: in a fixed collector that drops only on a repeat, and in ours if k notifications in a row are missing.
use Prim.Native.Nat.{ℕ}
use mathlib.Core.Path.{◌≡◌, refl, sym, ap, ◌∙◌, subst, subst₂}
use mathlib.Core.Logic.{◌⊎◌, inl, inr}
use mathlib.Core.Bool.{Bool, true, false, cond}
use mathlib.Core.List.{List, [], ◌∷◌, ◌++◌}
use native.Mathlib.Omega.{arith}
use lib.IntN.{pos}
use lib.ListN.{length}
use Rattle.record.specs.declared.record.Record.{Record}
use Rattle.record.specs.declared.notification.Part.{Part}
use Rattle.record.specs.Layout.{layout, tables, cross_trainer, step_climber}
use Rattle.record.specs.Groups.{has, named, size, groups_of, listed}
use Rattle.record.specs.Octets.{number}
use Rattle.record.specs.Answer.{Answer, given}
use Rattle.record.specs.Notification.{part_of, read_into, values}
use Rattle.service.specs.declared.collector.Told.TheVariants.{Open, Fixed}
use Rattle.service.specs.declared.collector.Collection.{Collection}
use Rattle.service.specs.Collector.{Said, waiting, handed, refused, Stepped, empty, lowest, drops, outside, refuses, joins, collect}
use Rattle.demands.specs.Behaviour.{Collector, pieces, heard, collector_of}
use Rattle.demands.specs.Demands.{Waits, Hands, Incomplete, all_true, last_of, Faithful, Gaps, flat, AllFaithful, Alike, Chunks, Demand3}
use Rattle.demands.proofs.Pieces.{splitter, collector}
use Rattle.demands.proofs.Samples.{trainer, trainer_octets, trainer_1, trainer_2, climber, climber_octets, climber_1, climber_2}
use Rattle.demands.proofs.Refuted.{last_said}

-- the open rule of dropping, in every collection
abbrev repeats : Collection → Answer Part → List ℕ → Stepped
repeats c (Answer.refused n) s = refuses c n
repeats c (given p) s = cond (outside c.told p.groups) (refuses c 33) (joins c p s (drops Open c.held p.groups))

abbrev pub repeating : Collector
repeating = collector_of empty (λ c s. (repeats c (part_of c.kind s) s).said) (λ c s. (repeats c (part_of c.kind s) s).next)

-- "With three parts, 2, then 1 and 3 of the next record would pass as whole."
mixed : (heard repeating (heard repeating (empty 2 (Fixed 0x7FFE)) (trainer_octets 1) (false ∷ true ∷ false ∷ [])).1 (trainer_octets 2) (true ∷ false ∷ true ∷ [])).0
    ≡ waiting false ∷ handed (trainer 1) false ∷ []
unfolding heard part_of joins values read_into number layout tables cross_trainer has named size groups_of listed
mixed = refl

-- a record that is handed out at a last part is the record of that part
own_record : (r x : Record) (d : Bool) (said : List Said) (bs : List Bool) → last_of bs ≡ true → Faithful r bs (said ++ (handed x d ∷ [])) → x ≡ r
own_record r x d said bs t f =
    let c : (before : List Said) × (a : Said) × ((said ++ (handed x d ∷ [])) ≡ before ++ (a ∷ [])) × Waits before × (Hands r a ⊎ Incomplete a) × (all_true bs ≡ true → Hands r a) = f.1 t in
    either c.1 (last_said said c.0 (handed x d) c.1 c.2) c.4
  where
    either : (a : Said) → handed x d ≡ a → Hands r a ⊎ Incomplete a → x ≡ r
    either a e (inl h) = let i : a ≡ handed r h.0 = h.1 in cc
    either a e (inr h) = absurd (let i : a ≡ refused 34 h.0 = h.1 in let z : ◌≡◌ {A = ℕ} 0 1 = cc in omega arith)

abbrev lost_1_3 : List Bool
lost_1_3 = false ∷ true ∷ false ∷ []

abbrev lost_2 : List Bool
lost_2 = true ∷ false ∷ true ∷ []

pub not_repeating : Demand3 splitter repeating → ⊥
unfolding AllFaithful Alike Chunks Gaps flat last_of
not_repeating d =
    let e : 3 ≡ d.takes 2 0x7FFE 20 = ap length (sym trainer_1.spells) ∙ d.taken 20 refl (trainer 1) trainer_1.is_good in
    let f : AllFaithful splitter repeating 20 (empty 2 (Fixed 0x7FFE)) (trainer 1 ∷ trainer 2 ∷ []) (lost_1_3 ∷ lost_2 ∷ []) =
    d.holds 2 0x7FFE 20 refl (trainer 1 ∷ trainer 2 ∷ []) (trainer_1.is_good, refl, refl, (trainer_2.is_good, refl, refl, tt)) (lost_1_3 ∷ lost_2 ∷ [])
    (e, (e, tt)) (λ h. (omega arith, (omega arith, (omega arith, tt)))) in
    let g : Faithful (trainer 2) lost_2 (heard repeating (heard repeating (empty 2 (Fixed 0x7FFE)) (trainer_octets 1) lost_1_3).1 (trainer_octets 2) lost_2).0 =
    subst₂ (λ (a b : List (List ℕ)). Faithful (trainer 2) lost_2 (heard repeating (heard repeating (empty 2 (Fixed 0x7FFE)) a lost_1_3).1 b lost_2).0)
    trainer_1.spells trainer_2.spells f.1.0 in
    let h : trainer 1 ≡ trainer 2 = own_record (trainer 2) (trainer 1) false (waiting false ∷ []) lost_2 refl (subst (Faithful (trainer 2) lost_2) mixed g) in
    let z : pos 1 ≡ pos 2 = ap (λ (r : Record). r.power) h in
    let y : ◌≡◌ {A = ℕ} 1 2 = cc in omega arith

-- ---- "never k or more in a row": if k = 2 in a row are missing, our collector, told the set, makes the first part of one step climber and the
-- last part of another into a record that is neither

abbrev lost_last : List Bool
lost_last = true ∷ false ∷ []

abbrev lost_first : List Bool
lost_first = false ∷ true ∷ []

computed : (heard collector (heard collector (empty 3 (Fixed 0x1FE)) (climber_octets 1 1) lost_last).1 (climber_octets 2 2) lost_first).0 ≡ handed (climber 1 2) false ∷ []
unfolding heard collect part_of joins values read_into number layout tables step_climber has named size groups_of listed lowest
computed = refl

pub passes_as_one :
    (heard collector (heard collector (empty 3 (Fixed 0x1FE)) (pieces splitter 20 (climber 1 1)) lost_last).1 (pieces splitter 20 (climber 2 2)) lost_first).0
    ≡ handed (climber 1 2) false ∷ []
passes_as_one =
    subst₂ (λ (a b : List (List ℕ)). (heard collector (heard collector (empty 3 (Fixed 0x1FE)) a lost_last).1 b lost_first).0 ≡ handed (climber 1 2) false ∷ [])
    (sym climber_1.spells) (sym climber_2.spells) computed

pub neither : (climber 1 2 ≡ climber 1 1 → ⊥) × (climber 1 2 ≡ climber 2 2 → ⊥)
neither = (
  λ e. let z : ◌≡◌ {A = ℕ} 2 1 = ap (λ (r : Record). r.climb.floors) e in omega arith,
  λ e. let z : ◌≡◌ {A = ℕ} 1 2 = ap (λ (r : Record). r.elapsed) e in omega arith,
)

-- so the promise of demand 3 fails there, although 3 in a row are never missing
pub loss_condition_needed : Gaps 3 0 (flat (lost_last ∷ lost_first ∷ [])) ×
    (AllFaithful splitter collector 20 (empty 3 (Fixed 0x1FE)) (climber 1 1 ∷ climber 2 2 ∷ []) (lost_last ∷ lost_first ∷ []) → ⊥)
unfolding AllFaithful Gaps flat last_of
loss_condition_needed = (
  (omega arith, (omega arith, tt)),
  λ f.
      neither.1 (own_record (climber 2 2) (climber 1 2) false [] lost_first refl (subst (Faithful (climber 2 2) lost_first) passes_as_one f.1.0)),
)
