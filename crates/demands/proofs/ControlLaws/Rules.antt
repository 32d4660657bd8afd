-- The table of op codes says what document 01's sentences say, for every octet.
use Rattle.std.specs.Prelude.{Option, None, Some}
use Prim.Native.Nat.{ℕ, zero, suc, ◌+◌, ◌≤◌, ◌<◌}
use mathlib.Core.Path.{◌≡◌, refl, sym, ap, ◌∙◌}
use mathlib.Core.Bool.{Bool, true, false, cond, not, ◌&&◌, ◌||◌}
use mathlib.Core.List.{List, [], ◌∷◌, map}
use native.Mathlib.Omega.{arith}
use lib.Dec.{eqb}
use lib.IntN.{pos}
use lib.ListN.{length, get_or, drop}
use Rattle.record.specs.declared.layout.Width.{Width}
use Rattle.record.specs.declared.feature.Feature.{Feature}
use Rattle.record.specs.Octets.{number, signed}
use Rattle.record.proofs.Tests.{passed, failed, tested, all}
use Rattle.service.specs.declared.control.op_codes.OpCode.{OpCode}
use Rattle.service.specs.declared.control.ranges.Ranges.{Ranges}
use Rattle.service.specs.declared.control.machine.Machine.{Machine}
use Rattle.service.specs.declared.control.machine.Mode.{Mode}
use Rattle.service.specs.declared.control.machine.Mode.TheVariants.{Stopped, Running, Paused}
use Rattle.service.specs.Control.Ranges as ranges
use Rattle.service.specs.Control.Ranges.{of_speed, of_signed, of_heart_rate, admits}
use Rattle.service.specs.Control.OpCodes.{op_code}
use Rattle.service.specs.Control.Parameters as parameters
use Rattle.service.specs.declared.control.spin_down.TargetSpeeds.{TargetSpeeds}
use Rattle.service.specs.Control.SpinDown.{on}
use Rattle.service.specs.Control.Machine.{is, someone, without}
use Rattle.service.specs.Control.Judging.{result_number, supports, controls, fit, runs, no_halt, no_start, fails, first_of, judged, result_of, result}
use Rattle.service.specs.Control.Effects.{success_followed, success_status, success, setting}
use Rattle.demands.specs.Control.Laws.{stores}
use Rattle.demands.specs.Control.Rules as rule
use Rattle.demands.specs.Control.Rules.{counting, octets, picked, sum}
use Rattle.demands.proofs.ControlLaws.Increments.{stepped_so}

-- ---- what holds octet by octet

counting_at : (n k i d : ℕ) → i < k → get_or (counting n k) i d ≡ n + i
counting_at n zero i d h = absurd (omega arith)
counting_at n (suc k) zero d h = omega arith
counting_at n (suc k) (suc i) d h = let e : get_or (counting (suc n) k) i d ≡ suc n + i = counting_at (suc n) k i d (omega arith) in omega arith

module _ {A : Type 0} (f g : ℕ → A) where
  on_list : (l : List ℕ) → map f l ≡ map g l → (i d : ℕ) → i < length l → f (get_or l i d) ≡ g (get_or l i d)
  on_list [] e i d h = absurd (omega arith)
  on_list (x ∷ l) e zero d h = ap (λ (r : List A). get_or r 0 (f x)) e
  on_list (x ∷ l) e (suc i) d h = on_list l (ap (drop 1) e) i d (omega arith)

  every : map f octets ≡ map g octets → (o : ℕ) → o ≤ 255 → f o ≡ g o
  every e o h =
      let n : get_or octets o 0 ≡ o = counting_at 0 256 o 0 (omega arith) ∙ omega arith in
      ap f (sym n) ∙ on_list octets e o 0 (omega arith) ∙ ap g n

-- ---- each sentence, for what the table says about an octet

abbrev supported_by : Feature → Option OpCode → Bool
supported_by f (Some x) = supports f x.need
supported_by f None = false

pub supported_so : (f : Feature) (o : ℕ) → o ≤ 255 → supported_by f (op_code o) ≡ rule.supported f.targets o
unfolding op_code
supported_so f = every (λ o. supported_by f (op_code o)) (λ o. rule.supported f.targets o) refl

pub status_so : (p : List ℕ) (o : ℕ) → o ≤ 255 → success_status (op_code o) p ≡ rule.status o p
unfolding op_code
status_so p = every (λ o. success_status (op_code o) p) (λ o. rule.status o p) refl

-- what follows a result of 01: W-201's speeds after a start, and nothing after any other op code or parameter
pub followed_so : (t : TargetSpeeds) (p : List ℕ) (o : ℕ) → o ≤ 255 → success_followed t (op_code o) p ≡ rule.followed t o p
unfolding op_code
followed_so t p = every (λ o. success_followed t (op_code o) p) (λ o. rule.followed t o p) refl

abbrev widths_of : Option OpCode → List Width
widths_of (Some x) = parameters.widths x.parameter
widths_of None = []

abbrev size_of : Option OpCode → ℕ
size_of (Some x) = parameters.size x.parameter
size_of None = 0

pub widths_so : (o : ℕ) → o ≤ 255 → widths_of (op_code o) ≡ rule.widths o
unfolding op_code
widths_so = every (λ o. widths_of (op_code o)) rule.widths refl

pub size_so : (o : ℕ) → o ≤ 255 → size_of (op_code o) ≡ rule.size o
unfolding op_code
size_so = every (λ o. size_of (op_code o)) rule.size refl

abbrev allowed_by : Ranges → Option OpCode → List ℕ → Bool
allowed_by r (Some x) p = ranges.allowed r x.bound p
allowed_by r None p = true

-- which range is asked of each op code, and then that each admits what the rule allows
module _ (r : Ranges) (p : List ℕ) where
  abbrev asked_of : ℕ → Bool
  asked_of o =
      rule.asked o (admits (of_speed r.speed) (pos (number 2 p))) (admits (of_signed r.inclination) (signed (number 2 p)))
      (admits (of_signed r.resistance) (pos (number 1 p))) (admits (of_signed r.power) (signed (number 2 p)))
      (admits (of_heart_rate r.heart_rate) (pos (number 1 p))) (rule.to 1 2 (number 1 p))

  asked_so : (o : ℕ) → o ≤ 255 → allowed_by r (op_code o) p ≡ asked_of o
  unfolding op_code
  asked_so = every (λ o. allowed_by r (op_code o) p) asked_of refl

  pub allowed_so : (o : ℕ) → o ≤ 255 → allowed_by r (op_code o) p ≡ rule.allowed r o p
  allowed_so o h =
      asked_so o h ∙
      (λ i.
      rule.asked o (stepped_so (of_speed r.speed) (pos (number 2 p)) i) (stepped_so (of_signed r.inclination) (signed (number 2 p)) i)
      (stepped_so (of_signed r.resistance) (pos (number 1 p)) i) (stepped_so (of_signed r.power) (signed (number 2 p)) i)
      (stepped_so (of_heart_rate r.heart_rate) (pos (number 1 p)) i) (rule.to 1 2 (number 1 p)))

-- ---- what success does

module _ (m : Machine) (c : ℕ) where
  pub holder_so : (p : List ℕ) (o : ℕ) → o ≤ 255 → (success m c (op_code o) p).holder ≡ rule.holder o c m.holder
  unfolding op_code
  holder_so p = every (λ o. (success m c (op_code o) p).holder) (λ o. rule.holder o c m.holder) refl

  -- for the parameters that 08 may have
  pub stop_so : (o : ℕ) → o ≤ 255 → (success m c (op_code o) (1 ∷ [])).mode ≡ rule.mode o 1 m.mode
  unfolding op_code number
  stop_so = every (λ o. (success m c (op_code o) (1 ∷ [])).mode) (λ o. rule.mode o 1 m.mode) refl

  pub pause_so : (o : ℕ) → o ≤ 255 → (success m c (op_code o) (2 ∷ [])).mode ≡ rule.mode o 2 m.mode
  unfolding op_code number
  pause_so = every (λ o. (success m c (op_code o) (2 ∷ [])).mode) (λ o. rule.mode o 2 m.mode) refl

  -- for the parameters that 13 may have
  pub start_so : (o : ℕ) → o ≤ 255 → (success m c (op_code o) (1 ∷ [])).run ≡ rule.run o 1 m.run
  unfolding op_code number
  start_so = every (λ o. (success m c (op_code o) (1 ∷ [])).run) (λ o. rule.run o 1 m.run) refl

  pub ignore_so : (o : ℕ) → o ≤ 255 → (success m c (op_code o) (2 ∷ [])).run ≡ rule.run o 2 m.run
  unfolding op_code number
  ignore_so = every (λ o. (success m c (op_code o) (2 ∷ [])).run) (λ o. rule.run o 2 m.run) refl

  -- "01 zeroes every setting", "02 to 06, 09 to 12 and 14 store the parameter octets"
  pub settings_so : (p : List ℕ) (o : ℕ) → o ≤ 255 → (success m c (op_code o) p).settings ≡ rule.settings o p m.settings
  unfolding op_code
  settings_so p = every (λ o. (success m c (op_code o) p).settings) (λ o. rule.settings o p m.settings) refl

  -- and a setting is read where it is stored
  pub setting_so : (o : ℕ) → o ≤ 255 → setting m o ≡ rule.setting o m.settings
  unfolding op_code setting
  setting_so = every (λ o. setting m o) (λ o. rule.setting o m.settings) refl

pub storing_so : (o : ℕ) → o ≤ 255 → stores (op_code o) ≡ rule.storing o
unfolding op_code
storing_so = every (λ o. stores (op_code o)) rule.storing refl

-- ---- the places of the settings: no two overlap, and together they are all 49 octets
pub apart_so : all (λ a. all (rule.apart a) (picked rule.storing octets)) (picked rule.storing octets) ≡ true
apart_so = refl

pub room_so : sum (map rule.size (picked rule.storing octets)) ≡ 49
room_so = refl

-- ---- the result of every write: each test that it is judged by is the rule's

abbrev controlled_by : Option ℕ → ℕ → Option OpCode → Bool
controlled_by w c (Some x) = controls w c x.act
controlled_by w c None = is w c

abbrev fit_by : Ranges → Option OpCode → List ℕ → Bool
fit_by r l p = eqb (length p) (size_of l) && allowed_by r l p

abbrev failing_by : Machine → ℕ → Option OpCode → ℕ → Bool
failing_by m c (Some x) n = fails m c x.act n
failing_by m c None n = false

another_so : (w : Option ℕ) (c : ℕ) → someone (without w c) ≡ rule.another w c
another_so None c = refl
another_so (Some d) c = elim (tested (eqb d c)) [
  | passed e ↦ rw e
  | failed e ↦ rw e
]

runs_so : (a : Mode) → runs a ≡ rule.running a
runs_so Stopped = refl
runs_so Running = refl
runs_so Paused = refl

halts_so : (a : Mode) (n : ℕ) → no_halt a n ≡ cond (eqb n 1) (rule.stopped a) (not (rule.running a))
halts_so Stopped n = elim (tested (eqb n 1)) [
  | passed e ↦ rw e
  | failed e ↦ rw e
]
halts_so Running n = elim (tested (eqb n 1)) [
  | passed e ↦ rw e
  | failed e ↦ rw e
]
halts_so Paused n = elim (tested (eqb n 1)) [
  | passed e ↦ rw e
  | failed e ↦ rw e
]

module _ (m : Machine) (c : ℕ) (p : List ℕ) where
  controlled_so : (o : ℕ) → o ≤ 255 → controlled_by m.holder c (op_code o) ≡ (eqb o 0x00 || is m.holder c)
  unfolding op_code
  controlled_so = every (λ o. controlled_by m.holder c (op_code o)) (λ o. eqb o 0x00 || is m.holder c) refl

  judged_by : (l : Option OpCode) → result_of m c l p ≡
      first_of (supported_by m.setup.feature l) (controlled_by m.holder c l) (fit_by m.setup.ranges l p) (failing_by m c l (number 1 p))
  unfolding judged fit
  judged_by (Some x) = refl
  judged_by None = refl

  abbrev failing : ℕ → Bool
  failing o =
      cond (eqb o 0x00) (someone (without m.holder c))
      (cond (eqb o 0x07) (runs m.mode)
      (cond (eqb o 0x08) (no_halt m.mode (number 1 p)) (cond (eqb o 0x13) (no_start m.run (number 1 p)) false)))

  failing_rule : (o : ℕ) → failing o ≡ rule.fails m.setup m.holder m.mode (on m.run) c o p
  failing_rule o = λ i.
      cond (eqb o 0x00) (another_so m.holder c i)
      (cond (eqb o 0x07) (runs_so m.mode i)
      (cond (eqb o 0x08) (halts_so m.mode (number 1 p) i) (cond (eqb o 0x13) (no_start m.run (number 1 p)) false)))

  failing_so : (o : ℕ) → o ≤ 255 → failing_by m c (op_code o) (number 1 p) ≡ failing o
  unfolding op_code
  failing_so = every (λ o. failing_by m c (op_code o) (number 1 p)) failing refl

  fit_so : (o : ℕ) → o ≤ 255 → fit_by m.setup.ranges (op_code o) p ≡ (eqb (length p) (rule.size o) && rule.allowed m.setup.ranges o p)
  fit_so o h = λ i. eqb (length p) (size_so o h i) && allowed_so m.setup.ranges p o h i

  numbered : (a b d e : Bool) → result_number (first_of a b d e) ≡ cond (not a) 0x02 (cond (not b) 0x05 (cond (not d) 0x03 (cond e 0x04 0x01)))
  numbered false b d e = refl
  numbered true false d e = refl
  numbered true true false e = refl
  numbered true true true false = refl
  numbered true true true true = refl

  -- "A write is judged in this order": the result, for every machine, client, octet and parameter
  pub result_so : (o : ℕ) → o ≤ 255 → result_number (result m c o p) ≡ rule.result m.setup m.holder m.mode (on m.run) c o p
  result_so o h =
      let s : supported_by m.setup.feature (op_code o) ≡ rule.supported m.setup.feature.targets o = supported_so m.setup.feature o h in
      ap result_number (judged_by (op_code o)) ∙
      (λ i. result_number (first_of (s i) (controlled_so o h i) (fit_so o h i) ((failing_so o h ∙ failing_rule o) i))) ∙
      numbered (rule.supported m.setup.feature.targets o) (eqb o 0x00 || is m.holder c)
      (eqb (length p) (rule.size o) && rule.allowed m.setup.ranges o p) (rule.fails m.setup m.holder m.mode (on m.run) c o p)
