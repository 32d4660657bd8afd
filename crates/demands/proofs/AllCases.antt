-- Every case marked P holds, by computation.
use Prim.Native.Nat.{ℕ, ◌+◌, ◌<◌, ◌≤◌}
use mathlib.Core.Path.{◌≡◌, refl, sym, ap, ap₂, ◌∙◌}
use mathlib.Core.List.{List, [], ◌∷◌, ◌++◌, map, map-map, append_assoc}
use mathlib.Core.Bool.{true, false}
use native.Mathlib.Nat.{zero-add}
use native.Mathlib.Omega.{arith}
use lib.ListN.{length, take, drop, get_or}
use lib.Seq.{take_at}
use borrow.Author.Tests.{le-leb}
use Rattle.record.specs.declared.record.Record.{Record}
use Rattle.record.specs.declared.split.Extent.{Extent}
use Rattle.record.specs.Answer.{Answer, refused, given, after}
use Rattle.record.specs.Layout.{layout, tables, treadmill, cross_trainer, step_climber, stair_climber, rower, indoor_bike}
use Rattle.record.specs.Groups.{has, named, size, groups_of, known, listed, flags_octets, set_length}
use Rattle.record.specs.Octets.{spelled, number, over}
use Rattle.record.specs.Record.{wire, well_formed, Formed}
use Rattle.record.specs.Split.{longest, cut, written, flags, sets_of, payload_known, extent_of, split_wire, split_of, part_octets, lent_after}
use Rattle.record.proofs.Tests.{ltb_false}
use Rattle.record.proofs.OctetLaws.{length_spelled}
use Rattle.record.proofs.Parts.{octets_length}
use Rattle.record.proofs.Again.{facts}
use Rattle.demands.specs.Behaviour.{each}
use Rattle.demands.specs.Cases.{parts, calls, Holds, cases, Every}
use Rattle.demands.specs.Control.Cases as Control
use Rattle.service.specs.Control.Replies.{Sent}
use Rattle.demands.proofs.Pieces.{answered, each_map}
use Rattle.demands.proofs.ControlLaws.Cases as AllControl

module _ (r : Record) (w : well_formed r ≡ true) (p : ℕ) (k : payload_known p ≡ true) (out : List ℕ) (l : 512 ≤ length out) where
  abbrev sets : List ℕ
  sets = sets_of r.kind r.groups p

  -- part i is answered with its length and the number of parts
  answers : (i : ℕ) → i < length sets →
      split_of r p i (length out) ≡ given (record { length = flags_octets r.kind + set_length r.kind (get_or sets i 0); parts = length sets })
  answers i h =
      answered r w p k i (length out) h l
      ∙ ap (λ (n : ℕ). given (record { length = n; parts = length sets })) (octets_length r.kind (get_or sets i 0) r.direction (wire r))

  -- there is no part after the last
  no_more : split_of r p (length sets) (length out) ≡ refused 15
  unfolding split_wire extent_of
  no_more =
      let f : Formed r.kind r.groups r.direction (wire r) = facts r w p k in
      rw (le-leb 1 r.kind f.kind_least, le-leb r.kind 6 f.kind_greatest, k, w, ltb_false (length sets) (length sets) (omega arith))

  -- the lent octets begin with the part's flags
  begins : (i : ℕ) → i < length sets → take (flags_octets r.kind) (lent_after r p i out) ≡ spelled (flags_octets r.kind) (flags (get_or sets i 0) r.direction)
  begins i h =
      let n : ℕ = flags_octets r.kind in
      let head : List ℕ = spelled n (flags (get_or sets i 0) r.direction) in
      let body : List ℕ = written (named (get_or sets i 0) (layout r.kind)) (wire r) in
      let rest : List ℕ = drop (length (part_octets r p i)) out in
      ap (λ (a : Answer Extent). take n (after a (over out (part_octets r p i)) out)) (answered r w p k i (length out) h l)
      ∙ ap (take n) (append_assoc head body rest) ∙ take_at head (body ++ rest) n (length_spelled n (flags (get_or sets i 0) r.direction))

-- a row of the table, from the sets of the parts, computed once
row : (kind groups p direction : ℕ) (sets lengths : List ℕ) (flags-octets-of : List (List ℕ)) → listed kind ≡ groups → payload_known p ≡ true → sets_of kind groups p ≡ sets →
    length sets ≡ length lengths → map (λ s. flags_octets kind + set_length kind s) sets ≡ lengths →
    map (λ s. spelled (flags_octets kind) (flags s direction)) sets ≡ flags-octets-of →
    Holds (parts kind groups p direction lengths flags-octets-of)
row kind groups p direction sets lengths firsts g k e n a b = (g, λ r w i j d out l. held r w out l i j d)
  where
    held : (r : Record) → well_formed r ≡ true → (out : List ℕ) → 512 ≤ length out → r.kind ≡ kind → r.groups ≡ groups → r.direction ≡ direction →
        (each 0 (length lengths) (λ i. split_of r p i (length out)) ≡ map (λ n. given (record { length = n; parts = length lengths })) lengths) ×
        (split_of r p (length lengths) (length out) ≡ refused 15) ×
        (each 0 (length lengths) (λ i. take (flags_octets kind) (lent_after r p i out)) ≡ firsts)
    held r w out l i j d =
        let same : sets_of r.kind r.groups p ≡ sets = ap₂ (λ (x y : ℕ). sets_of x y p) i j ∙ e in
        let m : length (sets_of r.kind r.groups p) ≡ length lengths = ap length same ∙ n in
        let size : ℕ → Answer Extent = λ s. given (record { length = flags_octets kind + set_length kind s; parts = length lengths }) in
        let answered-all : each 0 (length sets) (λ i. split_of r p i (length out)) ≡ map size sets =
        each_map sets 0 (λ i. split_of r p i (length out)) size
        (λ x h.
        ap (λ (y : ℕ). split_of r p y (length out)) (zero-add x) ∙ answers r w p k out l x (rw same h)
        ∙ ap₂ (λ (y : ℕ) (z : ℕ). given (record { length = y; parts = z })) (ap₂ (λ (y : ℕ) (t : List ℕ). flags_octets y + set_length y (get_or t x 0)) i same) m) in
        let begun : each 0 (length sets) (λ i. take (flags_octets kind) (lent_after r p i out)) ≡ map (λ s. spelled (flags_octets kind) (flags s direction)) sets =
        each_map sets 0 (λ i. take (flags_octets kind) (lent_after r p i out)) (λ s. spelled (flags_octets kind) (flags s direction))
        (λ x h.
        ap₂ (λ (y : ℕ) (z : ℕ). take (flags_octets y) (lent_after r p z out)) (sym i) (zero-add x) ∙ begins r w p k out l x (rw same h)
        ∙ ap₂ (λ (y : ℕ) (t : List ℕ). spelled (flags_octets y) (flags (get_or t x 0) r.direction)) i same
        ∙ ap (λ (y : ℕ). spelled (flags_octets kind) (flags (get_or sets x 0) y)) d) in (
          ap (λ (y : ℕ). each 0 y (λ i. split_of r p i (length out))) (sym n) ∙ answered-all
              ∙ sym (map-map (λ n. given (record { length = n; parts = length lengths })) (λ s. flags_octets kind + set_length kind s) sets)
              ∙ ap (map (λ n. given (record { length = n; parts = length lengths }))) a,
          ap (λ (y : ℕ). split_of r p y (length out)) (sym m) ∙ no_more r w p k out l,
          ap (λ (y : ℕ). each 0 y (λ i. take (flags_octets kind) (lent_after r p i out))) (sym n) ∙ begun ∙ b,
        )

-- a payload that is not in range
refused_12 : (p : ℕ) → payload_known p ≡ false → (r : Record) (i lent : ℕ) → known r.kind ≡ true → split_of r p i lent ≡ refused 12
unfolding split_wire
refused_12 p e r i lent k = rw (k, e)

second_start_holds : Holds (calls Control.second_start)
second_start_holds = ap (λ (l : List (Answer Sent)). get_or l 0 (refused 0)) AllControl.cases_hold

pub cases_hold : Every cases
unfolding layout tables treadmill cross_trainer step_climber stair_climber rower indoor_bike has named size groups_of listed spelled number longest cut written
cases_hold = (
  row 1 0x1FFE 20 0 (0x7E ∷ 0x1F81 ∷ []) _ _ refl refl refl refl refl refl,
  (
    row 2 0x7FFE 20 1 (0x3E ∷ 0x1FC0 ∷ 0x6001 ∷ []) _ _ refl refl refl refl refl refl,
    (
      row 3 0x1FE 20 0 (0x1FE ∷ 0x1 ∷ []) _ _ refl refl refl refl refl refl,
      (
        row 4 0x3FE 20 0 (0x1FE ∷ 0x201 ∷ []) _ _ refl refl refl refl refl refl,
        (
          row 5 0x1FFE 20 0 (0xFE ∷ 0x1F01 ∷ []) _ _ refl refl refl refl refl refl,
          (
            row 6 0x1FFE 20 0 (0xFE ∷ 0x1F01 ∷ []) _ _ refl refl refl refl refl refl,
            (
              row 6 0x1FFE 29 0 (0x1FFE ∷ 0x1 ∷ []) _ _ refl refl refl refl refl refl,
              (
                row 6 0x1FFE 30 0 (0x1FFF ∷ []) _ _ refl refl refl refl refl refl,
                (
                  λ r i lent k. refused_12 19 refl r i lent k,
                  (
                    λ r i lent k. refused_12 513 refl r i lent k,
                    (
                      refl,
                      (
                        refl,
                        (refl, (second_start_holds, tt)),
                      ),
                    ),
                  ),
                ),
              ),
            ),
          ),
        ),
      ),
    ),
  ),
)
