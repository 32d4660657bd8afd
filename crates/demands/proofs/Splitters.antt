-- Wrong splitters that some collector, or every collector, would not notice: each is refuted by demand 2, whatever the collector.
use Prim.Native.Nat.{ℕ, ◌<◌, ◌≤◌}
use mathlib.Core.Path.{◌≡◌, refl, sym, ap, ◌∙◌, subst}
use mathlib.Core.Bool.{true, false, cond}
use mathlib.Core.List.{List, [], ◌∷◌}
use native.Mathlib.Omega.{arith}
use lib.Dec.{eqb}
use lib.ListN.{length, get_or, replicate}
use Rattle.record.specs.declared.record.Record.{Record}
use Rattle.record.specs.declared.split.Extent.{Extent}
use Rattle.record.specs.Answer.{Answer, given, refused}
use Rattle.record.specs.Layout.{layout, tables, cross_trainer, step_climber, indoor_bike}
use Rattle.record.specs.Order.{exchanged}
use Rattle.record.specs.Groups.{has, named, size, groups_of, listed}
use Rattle.record.specs.Octets.{number, spelled, over}
use Rattle.record.specs.Notification.{part_of, read_into, values}
use Rattle.record.specs.Record.{all_fit, others, all_zero, formed}
use Rattle.record.specs.Split.{longest, cut, written, extent_of, split_wire, payload_known, split_of, lent_after, part_octets}
use Rattle.record.specs.Samples as Samples
use Rattle.record.proofs.SampleLaws.{trainer_formed, trainer_typed}
use Rattle.service.specs.declared.collector.Collection.{Collection}
use Rattle.service.specs.declared.collector.Told.TheVariants.{Open}
use Rattle.service.specs.Collector.{Said, waiting, handed, refused as refusing, empty, joins, collect}
use Rattle.demands.specs.Behaviour.{Splitter, Collector, buffer, parts_of, each, pieces, says}
use Rattle.demands.specs.Demands.{Good, count, Demand2}
use Rattle.demands.proofs.Pieces.{splitter, collector, part_short, answered}
use Rattle.demands.proofs.DemandTwo.{ours_two}
use Rattle.demands.proofs.Samples.{bike, bike_1, climber, climber_1}

-- ---- the number of parts

-- any splitter whose number of parts is wrong for some well-formed record, payload and part
pub not_miscounting : (s : Splitter) (payload : ℕ) → payload_known payload ≡ true → (r : Record) → Good r → (i : ℕ) → i < count r payload →
    (parts_of (s.answer r payload i buffer) ≡ count r payload → ⊥) → (c : Collector) → Demand2 s c → ⊥
not_miscounting s payload p r w i h n c d = n (ap parts_of ((d.splits payload p r w).answers i h buffer (part_short r w.formed payload p i h)))

-- one that writes what ours writes and claims a number of parts of its own
abbrev with_parts : ℕ → Answer Extent → Answer Extent
with_parts n (refused x) = refused x
with_parts n (given e) = given (record { length = e.length; parts = n })

abbrev pub claiming : (Record → ℕ → ℕ → ℕ) → Splitter
claiming f = record { answer = λ r payload i out. with_parts (f r payload i) (split_of r payload i (length out)); left = lent_after }

pub not_claiming : (f : Record → ℕ → ℕ → ℕ) (payload : ℕ) → payload_known payload ≡ true → (r : Record) → Good r → (i : ℕ) → i < count r payload →
    (f r payload i ≡ count r payload → ⊥) → (c : Collector) → Demand2 (claiming f) c → ⊥
not_claiming f payload p r w i h n =
    not_miscounting (claiming f) payload p r w i h
    (λ e. n (sym (ap (λ (a : Answer Extent). parts_of (with_parts (f r payload i) a)) (answered r w.formed payload p i 512 h (omega arith))) ∙ e))

-- a step climber with all groups has two parts at payload 20
two_parts : count (climber 1 1) 20 ≡ 2
unfolding layout tables step_climber has named size groups_of listed longest cut
two_parts = refl

-- one that says 99 in the answer to every part but the first, and one that always says 1
abbrev pub lying : Record → ℕ → ℕ → ℕ
lying r payload i = cond (eqb i 0) (count r payload) 99

pub not_lying : (c : Collector) → Demand2 (claiming lying) c → ⊥
not_lying = not_claiming lying 20 refl (climber 1 1) climber_1.is_good 1 (omega (arith, two_parts)) (λ e. omega (arith, two_parts, e))

pub not_always_one : (c : Collector) → Demand2 (claiming (λ r payload i. 1)) c → ⊥
not_always_one = not_claiming (λ r payload i. 1) 20 refl (climber 1 1) climber_1.is_good 0 (omega (arith, two_parts)) (λ e. omega (arith, two_parts, e))

-- ---- the order of the layout

-- a splitter that writes negative gain before positive
abbrev pub exchanging : Splitter
exchanging = record { answer = λ r payload i out. split_of (exchanged r) payload i (length out); left = λ r payload i out. lent_after (exchanged r) payload i out }

-- and the collector that exchanges them back
abbrev back_again : Said → Said
back_again (waiting d) = waiting d
back_again (handed r d) = handed (exchanged r) d
back_again (refusing n d) = refusing n d

abbrev pub exchanging_back : Collector
exchanging_back = record { State = Collection; opened = empty; step = λ c s. (back_again (collect c s).said, (collect c s).next) }

-- a cross trainer's record comes back from the two: the answers do not show it
pub comes_back_exchanged :
    says exchanging_back (empty 2 Open) (pieces exchanging 20 Samples.cross_trainer) ≡ waiting false ∷ waiting false ∷ handed Samples.cross_trainer false ∷ []
unfolding says each split_wire extent_of layout tables cross_trainer has named size groups_of listed all_fit others all_zero formed longest cut spelled written collect part_of joins values read_into number
comes_back_exchanged = refl

trainer_good : Good Samples.cross_trainer
trainer_good = record { typed = trainer_typed; formed = trainer_formed }

-- but what is written does: where document 01 has positive gain, F2 03, the one notification has negative gain, F3 03
abbrev gain_octet : List ℕ → ℕ
gain_octet s = get_or s 16 0

-- at payload 512 the record has a first part
in_one : 0 < count Samples.cross_trainer 512
unfolding layout tables cross_trainer has named size groups_of listed longest cut
in_one = omega arith

gains_differ : (gain_octet (lent_after (exchanged Samples.cross_trainer) 512 0 buffer) ≡ 0xF3) × (gain_octet (over buffer (part_octets Samples.cross_trainer 512 0)) ≡ 0xF2)
unfolding split_wire extent_of layout tables cross_trainer has named size groups_of listed all_fit others all_zero formed longest cut spelled written
gains_differ = (refl, refl)

pub not_exchanging : (c : Collector) → Demand2 exchanging c → ⊥
not_exchanging c d =
    let e : lent_after (exchanged Samples.cross_trainer) 512 0 buffer ≡ over buffer (part_octets Samples.cross_trainer 512 0) =
    (d.splits 512 refl Samples.cross_trainer trainer_good).leaves 0 in_one buffer (part_short Samples.cross_trainer trainer_formed 512 refl 0 in_one) in
    let z : ◌≡◌ {A = ℕ} 0xF3 0xF2 = sym gains_differ.0 ∙ ap gain_octet e ∙ gains_differ.1 in omega arith

-- ---- the lent octets

-- a bike at a speed has one part, 00 00 01 00
one_part : (0 < count (bike 1) 20) × (part_octets (bike 1) 20 0 ≡ 0 ∷ 0 ∷ 1 ∷ 0 ∷ [])
unfolding layout tables indoor_bike has named size groups_of listed longest cut spelled written
one_part = (omega arith, refl)

-- what any splitter must leave of it in the lent buffer
must_leave : (s : Splitter) (c : Collector) → Demand2 s c → (out : List ℕ) → 4 ≤ length out → s.left (bike 1) 20 0 out ≡ over out (0 ∷ 0 ∷ 1 ∷ 0 ∷ [])
must_leave s c d out l =
    (d.splits 20 refl (bike 1) bike_1.is_good).leaves 0 one_part.0 out (subst (λ (o : List ℕ). length o ≤ length out) (sym one_part.1) l)
    ∙ ap (over out) one_part.1

-- a splitter that writes nothing, whatever it answers
pub not_silent : (s : Splitter) → ((r : Record) (payload i : ℕ) (out : List ℕ) → s.left r payload i out ≡ out) → (c : Collector) → Demand2 s c → ⊥
not_silent s nothing c d =
    let e : replicate 4 0 ≡ over (replicate 4 0) (0 ∷ 0 ∷ 1 ∷ 0 ∷ []) = sym (nothing (bike 1) 20 0 (replicate 4 0)) ∙ must_leave s c d (replicate 4 0) (omega arith) in
    let z : ◌≡◌ {A = ℕ} 0 1 = ap (λ (l : List ℕ). get_or l 2 0) e in omega arith

-- one that leaves 512 octets of its own, whatever is lent, with zeros past the part's length
abbrev pub wiping : Splitter
wiping = record { answer = λ r payload i out. split_of r payload i 512; left = λ r payload i out. lent_after r payload i buffer }

pub not_wiping : (c : Collector) → Demand2 wiping c → ⊥
not_wiping c d =
    let lent : List ℕ = replicate 5 0xAA in
    let e : lent_after (bike 1) 20 0 buffer ≡ over lent (0 ∷ 0 ∷ 1 ∷ 0 ∷ []) = must_leave wiping c d lent (omega arith) in
    let f : lent_after (bike 1) 20 0 buffer ≡ over buffer (0 ∷ 0 ∷ 1 ∷ 0 ∷ []) = must_leave splitter collector ours_two buffer (omega arith) in
    let z : ◌≡◌ {A = ℕ} 0 0xAA = ap (λ (l : List ℕ). get_or l 4 0) (sym f ∙ e) in omega arith
