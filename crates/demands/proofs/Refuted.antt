-- Wrong splitters and collectors, each refuted by a demand.
use Prim.Native.Nat.{ℕ, zero, suc, ◌+◌}
use mathlib.Core.Path.{◌≡◌, refl, sym, ap, ◌∙◌, subst}
use mathlib.Core.Logic.{◌⊎◌, inl}
use mathlib.Core.Bool.{Bool, true, false}
use mathlib.Core.List.{List, [], ◌∷◌, ◌++◌}
use native.Mathlib.Omega.{arith}
use lib.ListN.{length, replicate, take, length-append}
use Rattle.record.specs.declared.record.Record.{Record}
use Rattle.record.specs.declared.split.Extent.{Extent}
use Rattle.record.specs.Layout.{layout, tables, indoor_bike}
use Rattle.record.specs.Groups.{has, named, size, groups_of, listed}
use Rattle.record.specs.Octets.{number, spelled}
use Rattle.record.specs.Answer.{Answer, given}
use Rattle.record.specs.Notification.{part_of, read_into, values}
use Rattle.record.specs.Record.{all_fit, others, all_zero, formed}
use Rattle.record.specs.Split.{longest, cut, written, extent_of, split_of, lent_after, split_wire}
use Rattle.service.specs.declared.collector.Told.TheVariants.{Open, Fixed}
use Rattle.service.specs.Collector.{Said, waiting, handed, refused, empty, joins, collect}
use Rattle.demands.specs.Behaviour.{Splitter, Collector, buffer, length_of, parts_of, each, piece, pieces, says, heard}
use Rattle.demands.specs.Demands.{Good, opened, Waits, Hands, Incomplete, all_true, last_of, Faithful, AllFaithful, Alike, Chunks, Demand2, Demand3}
use Rattle.demands.proofs.Pieces.{splitter, collector}
use Rattle.demands.proofs.Samples.{bike, bike_octets, bike_1, bike_2}

-- equal lists of answers have equal last answers
pub last_said : (said before : List Said) (x a : Said) → said ++ (x ∷ []) ≡ before ++ (a ∷ []) → x ≡ a
last_said [] [] x a e = cc
last_said [] (z ∷ before) x a e =
    absurd (let l : 1 ≡ suc (length before + 1) = ap length e ∙ ap suc (length-append before (a ∷ [])) in omega arith)
last_said (y ∷ said) [] x a e =
    absurd (let l : suc (length said + 1) ≡ 1 = sym (ap suc (length-append said (x ∷ []))) ∙ ap length e in omega arith)
last_said (y ∷ said) (z ∷ before) x a e = last_said said before x a (cc)

-- ---- demand 2

-- the answers that demand 2 asks for
abbrev answers : ℕ → Record → List Said
answers n r = replicate n (waiting false) ++ (handed r false ∷ [])

-- there is at least one answer
said_some : (n : ℕ) (r : Record) → [] ≡ answers n r → ⊥
said_some n r e = let l : 0 ≡ length (replicate n (waiting false)) + 1 = ap length e ∙ length-append (replicate n (waiting false)) (handed r false ∷ []) in omega arith

-- if the first answer is a record, it is the right one, and nothing follows
said_first : (n : ℕ) (x r : Record) (d : Bool) (rest : List Said) → handed x d ∷ rest ≡ answers n r → (x ≡ r) × (rest ≡ [])
said_first zero x r d rest e = ((cc), (cc))
said_first (suc n) x r d rest e = absurd (let z : ◌≡◌ {A = ℕ} 0 1 = cc in omega arith)

bikes_differ : bike 1 ≡ bike 2 → ⊥
bikes_differ e = let z : ◌≡◌ {A = ℕ} 1 2 = ap (λ (r : Record). r.speed) e in omega arith

-- what demand 2 says about a record at payload 20, collected openly from the opening
from_opening : (s : Splitter) (c : Collector) → Demand2 s c → (r : Record) → Good r → (n : ℕ) × (says c (c.opened r.kind Open) (pieces s 20 r) ≡ answers n r)
from_opening s c h r w = h.comes_back 20 refl r w Open (inl refl) (c.opened r.kind Open) opened

-- a collector that hands out one record whatever it receives, in any state and with any splitter
module _ (c : Collector) (x : Record) (constant : (state : c.State) (s : List ℕ) → (d : Bool) × ((c.step state s).0 ≡ handed x d)) where
  constantly : (state : c.State) (l : List (List ℕ)) (n : ℕ) (r : Record) → says c state l ≡ answers n r → x ≡ r
  unfolding says
  constantly state [] n r e = absurd (said_some n r e)
  constantly state (s ∷ ss) n r e =
      let rest : List Said = says c (c.step state s).1 ss in
      (said_first n x r (constant state s).0 rest (ap (λ (a : Said). a ∷ rest) (sym (constant state s).1) ∙ e)).0

  pub not_constant : (s : Splitter) → Demand2 s c → ⊥
  not_constant s h =
      let a : (n : ℕ) × (says c (c.opened 6 Open) (pieces s 20 (bike 1)) ≡ answers n (bike 1)) = from_opening s c h (bike 1) bike_1.is_good in
      let b : (n : ℕ) × (says c (c.opened 6 Open) (pieces s 20 (bike 2)) ≡ answers n (bike 2)) = from_opening s c h (bike 2) bike_2.is_good in
      bikes_differ (sym (constantly (c.opened 6 Open) (pieces s 20 (bike 1)) a.0 (bike 1) a.1) ∙ constantly (c.opened 6 Open) (pieces s 20 (bike 2)) b.0 (bike 2) b.1)

abbrev four_of_one : Answer Extent
four_of_one = given (record { length = 4; parts = 1 })

bike_answers : (split_of (bike 1) 20 0 512 ≡ four_of_one) × (split_of (bike 2) 20 0 512 ≡ four_of_one)
unfolding split_wire extent_of layout tables indoor_bike has named size groups_of listed all_fit others all_zero formed longest cut spelled written
bike_answers = (refl, refl)

-- a splitter that writes what ours writes and invents the number of parts, f k for k, with our collector
abbrev claimed : (ℕ → ℕ) → Answer Extent → Answer Extent
claimed f (Answer.refused n) = Answer.refused n
claimed f (given e) = given (record { length = e.length; parts = f e.parts })

abbrev pub inventing : (ℕ → ℕ) → Splitter
inventing f = record { answer = λ r payload i out. claimed f (split_of r payload i (length out)); left = lent_after }

-- our collector hands out the record at the first part
bike_taken : (collect (empty 6 Open) (bike_octets 1)).said ≡ handed (bike 1) false
unfolding collect part_of joins values read_into number layout tables indoor_bike has named size groups_of listed
bike_taken = refl

-- after a record no answer may follow
nothing_more : (c : Collector) (state : c.State) (s t : List ℕ) (ss : List (List ℕ)) (n : ℕ) (r x : Record) (d : Bool) → (c.step state s).0 ≡ handed x d →
    says c state (s ∷ t ∷ ss) ≡ answers n r → ⊥
unfolding says
nothing_more c state s t ss n r x d e a =
    let rest : List Said = says c (c.step state s).1 (t ∷ ss) in
    let p : rest ≡ [] = (said_first n x r d rest (ap (λ (y : Said). y ∷ rest) (sym e) ∙ a)).1 in
    let l : suc (length (says c (c.step (c.step state s).1 t).1 ss)) ≡ 0 = ap length p in omega arith

-- so there is exactly one part
one_claimed : (k n : ℕ) (f : ℕ → List ℕ) → f 0 ≡ bike_octets 1 → says collector (empty 6 Open) (each 0 k f) ≡ answers n (bike 1) → k ≡ 1
unfolding each
one_claimed zero n f e a = absurd (said_some n (bike 1) (unfold says in a))
one_claimed (suc zero) n f e a = refl
one_claimed (suc (suc k)) n f e a =
    absurd (nothing_more collector (empty 6 Open) (f 0) (f 1) (each 2 k f) n (bike 1) (bike 1) false (ap (λ (s : List ℕ). (collect (empty 6 Open) s).said) e ∙ bike_taken) a)

-- its first notification is the same as ours
claimed_piece : (f : ℕ → ℕ) (answer : Answer Extent) (left : List ℕ) → answer ≡ four_of_one → take (length_of (claimed f answer)) left ≡ take 4 left
claimed_piece f answer left e = rw e

claimed_parts : (f : ℕ → ℕ) (answer : Answer Extent) → answer ≡ four_of_one → parts_of (claimed f answer) ≡ f 1
claimed_parts f answer e = rw e

first_left : take 4 (lent_after (bike 1) 20 0 buffer) ≡ bike_octets 1
unfolding split_wire extent_of layout tables indoor_bike has named size groups_of listed all_fit others all_zero formed longest cut spelled written
first_left = refl

pub not_inventing : (f : ℕ → ℕ) → (f 1 ≡ 1 → ⊥) → Demand2 (inventing f) collector → ⊥
not_inventing f g h =
    let a : (n : ℕ) × (says collector (empty 6 Open) (pieces (inventing f) 20 (bike 1)) ≡ answers n (bike 1)) =
    from_opening (inventing f) collector h (bike 1) bike_1.is_good in
    g (sym (claimed_parts f (split_of (bike 1) 20 0 512) bike_answers.0)
    ∙ one_claimed (parts_of (claimed f (split_of (bike 1) 20 0 512))) a.0 (piece (inventing f) 20 (bike 1))
    (claimed_piece f (split_of (bike 1) 20 0 512) (lent_after (bike 1) 20 0 buffer) bike_answers.0 ∙ first_left) a.1)

pub not_one_more : Demand2 (inventing suc) collector → ⊥
not_one_more h = not_inventing suc (λ e. omega arith) h

-- ---- demand 3

not_handed : (r : Record) (n : ℕ) (d : Bool) → Hands r (refused n d) → ⊥
not_handed r n d h = let e : refused n d ≡ handed r h.0 = h.1 in let z : ◌≡◌ {A = ℕ} 0 1 = cc in omega arith

not_waited : (r : Record) (d : Bool) → Hands r (waiting d) → ⊥
not_waited r d h = let e : waiting d ≡ handed r h.0 = h.1 in let z : ◌≡◌ {A = ℕ} 0 1 = cc in omega arith

-- a record of one part that arrives is handed out
one_part : (r : Record) (a : Said) → Faithful r (true ∷ []) (a ∷ []) → Hands r a
unfolding last_of all_true
one_part r a f =
    let c : (before : List Said) × (b : Said) × ((a ∷ []) ≡ before ++ (b ∷ [])) × Waits before × (Hands r b ⊎ Incomplete b) × (true ≡ true → Hands r b) = f.1 refl in
    subst (Hands r) (sym (last_said [] c.0 a c.1 c.2)) (c.5 refl)

module _ (c : Collector) where
  -- the same notifications, twice
  abbrev Twice : List (List ℕ) → Type 0
  Twice l =
      Faithful (bike 1) (true ∷ []) (heard c (c.opened 6 (Fixed 0)) l (true ∷ [])).0 ×
      (Faithful (bike 1) (true ∷ []) (heard c (heard c (c.opened 6 (Fixed 0)) l (true ∷ [])).1 l (true ∷ [])).0 × Unit {0})

  -- what a collector must answer to that record, sent twice with nothing lost
  bike_twice : Demand3 splitter c →
      Hands (bike 1) (c.step (c.opened 6 (Fixed 0)) (bike_octets 1)).0 ×
      Hands (bike 1) (c.step (c.step (c.opened 6 (Fixed 0)) (bike_octets 1)).1 (bike_octets 1)).0
  unfolding heard AllFaithful Alike Chunks
  bike_twice d =
      let e : 1 ≡ d.takes 6 0 20 = ap length (sym bike_1.spells) ∙ d.taken 20 refl (bike 1) bike_1.is_good in
      let f : Twice (pieces splitter 20 (bike 1)) =
      d.holds 6 0 20 refl (bike 1 ∷ bike 1 ∷ []) (bike_1.is_good, refl, refl, (bike_1.is_good, refl, refl, tt)) ((true ∷ []) ∷ (true ∷ []) ∷ [])
      (e, (e, tt)) (λ h. absurd (omega arith)) in
      let g : Twice (bike_octets 1 ∷ []) = subst Twice bike_1.spells f in
      (one_part (bike 1) (c.step (c.opened 6 (Fixed 0)) (bike_octets 1)).0 g.0, one_part (bike 1) (c.step (c.step (c.opened 6 (Fixed 0)) (bike_octets 1)).1 (bike_octets 1)).0 g.1.0)

-- a collector whose answers are all refusals, with any numbers and flags
pub not_refusing : (c : Collector) → ((state : c.State) (s : List ℕ) → (n : ℕ) × (d : Bool) × ((c.step state s).0 ≡ refused n d)) → Demand3 splitter c → ⊥
not_refusing c refuses h =
    let x : (n : ℕ) × (d : Bool) × ((c.step (c.opened 6 (Fixed 0)) (bike_octets 1)).0 ≡ refused n d) = refuses (c.opened 6 (Fixed 0)) (bike_octets 1) in
    not_handed (bike 1) x.0 x.1 (subst (Hands (bike 1)) x.2 (bike_twice c h).0)

-- one that only waits after its first record: it waits at the notification after each that gave a record
pub not_muted : (c : Collector) →
    ((state : c.State) (s : List ℕ) (r : Record) (d : Bool) → (c.step state s).0 ≡ handed r d → (t : List ℕ) →
    (e : Bool) × ((c.step (c.step state s).1 t).0 ≡ waiting e)) →
    Demand3 splitter c → ⊥
not_muted c mutes h =
    let first : c.State = c.opened 6 (Fixed 0) in
    let p : Hands (bike 1) (c.step first (bike_octets 1)).0 × Hands (bike 1) (c.step (c.step first (bike_octets 1)).1 (bike_octets 1)).0 = bike_twice c h in
    let w : (e : Bool) × ((c.step (c.step first (bike_octets 1)).1 (bike_octets 1)).0 ≡ waiting e) = mutes first (bike_octets 1) (bike 1) p.0.0 p.0.1 (bike_octets 1) in
    not_waited (bike 1) w.0 (subst (Hands (bike 1)) w.1 p.1)
