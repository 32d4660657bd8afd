-- What a part does to a collection, case by case.
use Prim.Native.Nat.{ℕ}
use mathlib.Core.Path.{◌≡◌, refl, sym, ap, subst}
use mathlib.Core.Bool.{Bool, true, false, cond}
use mathlib.Core.List.{List}
use lib.Bits.{bit_or}
use Rattle.record.specs.declared.notification.Part.{Part}
use Rattle.record.specs.Answer.{Answer, given, after}
use Rattle.record.specs.Notification.{part_of, joined, held_after}
use Rattle.record.specs.Record.{of_wire}
use Rattle.service.specs.declared.collector.Collection.{Collection}
use Rattle.service.specs.Collector.{Stepped, waiting, handed, zeros, collection, empty, incomplete, outside, drops, refuses, joins, collect}

-- the numbers after a notification that is read
pub read_joins : (kind : ℕ) (s v : List ℕ) (p : Part) → part_of kind s ≡ given p → held_after kind s v ≡ joined kind s v
read_joins kind s v p e = ap (λ (a : Answer Part). after a (joined kind s v) v) e

module _ (c : Collection) (p : Part) (s : List ℕ) (dropped : Bool) where
  -- the groups and the numbers once the part has joined
  abbrev pub held_now : ℕ
  held_now = bit_or (cond dropped 0 c.held) p.groups

  abbrev pub numbers_now : List ℕ
  numbers_now = joined c.kind s (cond dropped zeros c.numbers)

  pub waits : p.last ≡ false → joins c p s dropped ≡ record { said = waiting dropped; next = collection c.kind c.told held_now numbers_now }
  unfolding joins
  waits l = rw l

  pub lacks : p.last ≡ true → incomplete c.told held_now ≡ true → joins c p s dropped ≡ refuses c 34
  unfolding joins
  lacks l i = rw (l, i)

  pub hands : p.last ≡ true → incomplete c.told held_now ≡ false →
      joins c p s dropped ≡ record { said = handed (of_wire c.kind held_now p.direction numbers_now) dropped; next = empty c.kind c.told }
  unfolding joins
  hands l i = rw (l, i)

  -- what holds in each case holds for the step
  pub by_cases : (P : Stepped → Type 0) →
      (p.last ≡ false → P (record { said = waiting dropped; next = collection c.kind c.told held_now numbers_now })) →
      P (refuses c 34) →
      (p.last ≡ true → P (record { said = handed (of_wire c.kind held_now p.direction numbers_now) dropped; next = empty c.kind c.told })) →
      P (joins c p s dropped)
  by_cases P waits_on is-lacking hands_out = go p.last (incomplete c.told held_now) refl refl
    where
      go : (last missing : Bool) → p.last ≡ last → incomplete c.told held_now ≡ missing → P (joins c p s dropped)
      go false missing l i = subst P (sym (waits l)) (waits_on l)
      go true true l i = subst P (sym (lacks l i)) is-lacking
      go true false l i = subst P (sym (hands l i)) (hands_out l)

module _ (c : Collection) (s : List ℕ) where
  pub not_read : (n : ℕ) → part_of c.kind s ≡ Rattle.record.specs.Answer.refused n → collect c s ≡ refuses c n
  unfolding collect
  not_read n e = rw e

  pub not_told : (p : Part) → part_of c.kind s ≡ given p → outside c.told p.groups ≡ true → collect c s ≡ refuses c 33
  unfolding collect
  not_told p e o = rw (e, o)

  pub taken : (p : Part) → part_of c.kind s ≡ given p → outside c.told p.groups ≡ false →
      collect c s ≡ joins c p s (drops c.told c.held p.groups)
  unfolding collect
  taken p e o = rw (e, o)
