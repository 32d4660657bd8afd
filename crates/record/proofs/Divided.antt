-- Document 01's sentence on splitting, `Divided`, is met by the sets of a record's parts, and by no others.
use Prim.Native.Nat.{ℕ, zero, suc, ◌+◌, ◌*◌, ◌-◌, ◌/◌, ◌%◌, ◌^◌, ◌<◌, ◌≤◌}
use mathlib.Core.Path.{◌≡◌, refl, sym, ap, ◌∙◌, subst}
use mathlib.Core.List.{List, ◌∷◌}
use native.Mathlib.Omega.{arith}
use native.Mathlib.Nat.{le_antisymm, mod-le, mod-eq_of_lt}
use lib.Dec.{leb}
use lib.Pow.{pow_mono, mod-mod-pow}
use Rattle.record.specs.Groups.{set_length, flags_octets}
use Rattle.record.specs.Record.{Formed}
use Rattle.record.specs.Parts.{Divided, final, one_more}
use Rattle.record.specs.Split.{fits, longest, cut, sets_of}
use Rattle.record.proofs.Tests.{passed, failed, tested, leb_le, leb_lt}
use Rattle.record.proofs.Tables.{Sound, flags_most}
use Rattle.record.proofs.Runs.{longest_fits, longest_le, longest_ge}
use Rattle.record.proofs.Cuts.{first_in, first_above, both_parts, low_part}
use Rattle.record.proofs.Parts.{the_sound, groups_even, groups_low}

-- ---- no others

same_run : (left n m : ℕ) → left % 2 ^ n ≤ left % 2 ^ m → left % 2 ^ m ≤ left % 2 ^ n → left % 2 ^ n ≡ left % 2 ^ m
same_run left n m h k = le_antisymm h k

pub divided_once : {kind room left : ℕ} {a b : List ℕ} → Divided kind room left a → Divided kind room left b → a ≡ b
divided_once (final f) (final g) = refl
divided_once (final f) (one_more n l g h k) = absurd (omega arith)
divided_once (one_more n l g h k) (final f) = absurd (omega arith)
divided_once {kind} {room} {left} (one_more n l f h k) (one_more {rest = rest} m j g i t) =
    let e : left % 2 ^ n ≡ left % 2 ^ m = same_run left n m (i n f) (h m g) in
    let t' : Divided kind room (left - left % 2 ^ n) rest = subst (λ (x : ℕ). Divided kind room (left - x) rest) (sym e) t in
    λ z. e z ∷ divided_once k t' z

-- ---- ours

-- a shorter run is no larger
run_mono : (x a b : ℕ) → a ≤ b → x % 2 ^ a ≤ x % 2 ^ b
run_mono x a b h =
    let i : (b - a) + a ≡ b = omega arith in
    let e : x % 2 ^ ((b - a) + a) % 2 ^ a ≡ x % 2 ^ a = mod-mod-pow x (b - a) a in
    let f : x % 2 ^ b % 2 ^ a ≡ x % 2 ^ a = rw i at e in
    let l : x % 2 ^ b % 2 ^ a ≤ x % 2 ^ b = mod-le (x % 2 ^ b) (2 ^ a) in omega arith

module _ (kind room : ℕ) (s : Sound kind) (least : 17 ≤ room) where
  -- no run that fits is larger than the longest
  run_most : (set m : ℕ) → set < 2 ^ 15 → set_length kind (set % 2 ^ m) ≤ room → set % 2 ^ m ≤ set % 2 ^ longest kind set room 15
  run_most set m h f = elim (tested (leb m 15)) [
    | passed t ↦ run_mono set m (longest kind set room 15) (longest_ge kind set room 15 m (leb_le m 15 t) f)
    | failed t ↦
        let k : 15 < m = leb_lt m 15 t in
        let k' : 15 ≤ m = omega arith in
        let p : 2 ^ 15 ≤ 2 ^ m = pow_mono k' in
        let e : set % 2 ^ m ≡ set = mod-eq_of_lt (omega arith) in
        let e' : set % 2 ^ 15 ≡ set = mod-eq_of_lt h in
        let f' : set_length kind (set % 2 ^ 15) ≤ room = rw (e', ← e) f in
        let a : 15 ≤ longest kind set room 15 = longest_ge kind set room 15 15 (omega arith) f' in
        let g : set % 2 ^ 15 ≤ set % 2 ^ longest kind set room 15 = run_mono set 15 (longest kind set room 15) a in omega arith
  ]

  divides : (n b q : ℕ) → b ≤ 15 → 17 ≤ n + b → q * 2 ^ b < 2 ^ 15 → Divided kind room (q * 2 ^ b) (cut kind room (q * 2 ^ b) n)
  unfolding cut
  divides zero b q h k l = absurd (omega arith)
  divides (suc n) b q h k l = elim (tested (fits kind (1 + q * 2 ^ b) room)) [
    | passed e ↦ rw e (final (leb_le (set_length kind (1 + q * 2 ^ b)) room e))
    | failed e ↦
        let set : ℕ = q * 2 ^ b in
        let L : ℕ = longest kind set room 15 in
        let f : room < set_length kind (1 + set) = leb_lt (set_length kind (1 + set)) room e in
        let low : (l : ℕ) × (suc l ≤ L) × (set % 2 ^ suc l ≡ 2 ^ l) = first_in kind room s least set l f in
        let above : b < L = first_above kind room s least b q L low.0 low.1 low.2 in
        let most : L ≤ 15 = longest_le kind set room 15 in
        let d : ℕ = L - b in
        let i : d + b ≡ L = omega arith in
        let p : q / 2 ^ d * 2 ^ (d + b) + q % 2 ^ d * 2 ^ b ≡ set = both_parts q d b in
        let g : set % 2 ^ L ≡ q % 2 ^ d * 2 ^ b = ap (λ (x : ℕ). set % 2 ^ x) (sym i) ∙ low_part q d b in
        let j : q / 2 ^ d * 2 ^ (d + b) ≡ set - set % 2 ^ L = omega arith in
        let rest : Divided kind room (q / 2 ^ d * 2 ^ (d + b)) (cut kind room (q / 2 ^ d * 2 ^ (d + b)) n) =
        divides n (d + b) (q / 2 ^ d) (omega arith) (omega arith) (omega arith) in
        rw e (one_more L f (longest_fits kind set room 15) (λ m t. run_most set m l t) (subst (λ (x : ℕ). Divided kind room x (cut kind room x n)) j rest))
  ]

-- the sets of a well-formed record's parts satisfy the sentence; by `divided_once` no others do
pub divided : (kind groups direction : ℕ) (v : List ℕ) → Formed kind groups direction v → (payload : ℕ) → 20 ≤ payload →
    Divided kind (payload - flags_octets kind) groups (sets_of kind groups payload)
divided kind groups direction v w payload least =
    let m : flags_octets kind ≤ 3 = flags_most kind in
    let z : groups % 2 ≡ 0 = groups_even kind groups direction v w in
    let h : groups < 2 ^ 15 = groups_low kind groups direction v w in
    let e : groups / 2 * 2 ^ 1 ≡ groups = omega arith in
    let room : ℕ = payload - flags_octets kind in
    subst (λ (g : ℕ). Divided kind room g (cut kind room g 16)) e
    (divides kind room (the_sound kind groups direction v w) (omega arith) 16 1 (groups / 2) (omega arith) (omega arith) (omega arith))
