-- When a part drops what is held, by its lowest group.
use Prim.Native.Nat.{ℕ, ◌*◌, ◌^◌, ◌<◌, ◌≤◌}
use mathlib.Core.Path.{◌≡◌, refl}
use mathlib.Core.Bool.{true, false}
use native.Mathlib.Omega.{arith}
use lib.Dec.{eqb, leb}
use lib.Bits.{and_comm, and_shifted}
use Rattle.service.specs.declared.collector.Told.{Told}
use Rattle.service.specs.declared.collector.Told.TheVariants.{Open, Fixed}
use Rattle.service.specs.Collector.{lowest, drops, outside, incomplete}
use Rattle.record.proofs.Sets.{Sub, and_of_sub}
use Rattle.record.proofs.Tests.{passed, failed, tested, leb_true, leb_false, eqb_true, eqb_false, eqb_ne}
use Rattle.record.proofs.Cuts.{mod_multiple}
use Rattle.service.proofs.Lowest.{lowest_le, lowest_ge}

-- groups that are above all held ones drop nothing
pub keeps : (t : Told) (h p b : ℕ) → h < 2 ^ b → p * 2 ^ b < 2 ^ 15 → drops t h (p * 2 ^ b) ≡ false
keeps Open h p b l m = rw (and_comm h (p * 2 ^ b), and_shifted p b h l)
keeps (Fixed set) h p b l m = elim (tested (eqb (p * 2 ^ b) 0)) [
  | passed e ↦ rw e
  | failed e ↦
      let n : p * 2 ^ b ≡ 0 → ⊥ = eqb_ne (p * 2 ^ b) 0 e in
      let g : 2 ^ b ≤ lowest 15 (p * 2 ^ b) = lowest_ge 15 b (p * 2 ^ b) (omega arith) m (mod_multiple p b b (omega arith)) in
      let f : leb (lowest 15 (p * 2 ^ b)) h ≡ false = leb_false {m = lowest 15 (p * 2 ^ b)} {n = h} (omega arith) in
      rw (e, f)
]

-- told a set: groups that are at most the held ones, as numbers, drop them
pub falls : (set h g : ℕ) → 0 < g → g ≤ h → drops (Fixed set) h g ≡ true
falls set h g p l =
    let e : eqb g 0 ≡ false = eqb_false (λ (x : g ≡ 0). omega arith) in
    let k : lowest 15 g ≤ g = lowest_le 15 g in
    let t : leb (lowest 15 g) h ≡ true = leb_true {m = lowest 15 g} {n = h} (omega arith) in
    rw (e, t)

-- ---- open, or told the set

pub data Ready (groups : ℕ) : Told → Type 0 where
  ready_open : Ready groups Open
  ready_fixed : Ready groups (Fixed groups)

pub inside : {groups : ℕ} {t : Told} (g : ℕ) → Ready groups t → Sub g groups → outside t g ≡ false
inside g ready_open s = refl
inside {groups} g ready_fixed s = rw (and_of_sub g groups s, eqb_true {m = g} {n = g} refl)

pub complete : {groups : ℕ} {t : Told} → Ready groups t → incomplete t groups ≡ false
complete ready_open = refl
complete {groups} ready_fixed = rw (eqb_true {m = groups} {n = groups} refl)
