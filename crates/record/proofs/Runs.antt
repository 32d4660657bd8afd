-- The longest run: the code's loop stops at the highest bit below which the groups fit.
use Prim.Native.Nat.{ℕ, zero, suc, ◌+◌, ◌-◌, ◌%◌, ◌^◌, ◌<◌, ◌≤◌, zero-le}
use mathlib.Core.Path.{◌≡◌}
use mathlib.Core.Bool.{false}
use native.Mathlib.Omega.{arith}
use lib.Dec.{leb, eqb}
use Rattle.record.specs.Groups.{set_length}
use Rattle.record.specs.Split.{fits, longest, run}
use Rattle.record.proofs.Tests.{passed, failed, tested, leb_le, leb_lt, eqb_eq, eqb_ne}
use Rattle.record.proofs.Tables.{length_mono, length_none}

module _ (kind set room : ℕ) where
  -- the groups below the longest run's end fit
  pub longest_fits : (n : ℕ) → set_length kind (set % 2 ^ longest kind set room n) ≤ room
  unfolding longest
  longest_fits zero = rw (length_none kind set) zero-le
  longest_fits (suc n) = elim (tested (fits kind (set % 2 ^ suc n) room)) [
    | passed e ↦ rw e (leb_le (set_length kind (set % 2 ^ suc n)) room e)
    | failed e ↦ rw e (longest_fits n)
  ]

  pub longest_le : (n : ℕ) → longest kind set room n ≤ n
  unfolding longest
  longest_le zero = zero-le
  longest_le (suc n) = elim (tested (fits kind (set % 2 ^ suc n) room)) [
    | passed e ↦ rw e (omega arith)
    | failed e ↦ rw e (let h : longest kind set room n ≤ n = longest_le n in omega arith)
  ]

  -- no bit below which they fit is higher
  pub longest_ge : (n e : ℕ) → e ≤ n → set_length kind (set % 2 ^ e) ≤ room → e ≤ longest kind set room n
  unfolding longest
  longest_ge zero e h k = h
  longest_ge (suc n) e h k = elim (tested (fits kind (set % 2 ^ suc n) room)) [
    | passed t ↦ rw t h
    | failed t ↦ rw t (longest_ge n e (below_top n e h k t) k)
  ]
    where
      below_top : (n e : ℕ) → e ≤ suc n → set_length kind (set % 2 ^ e) ≤ room → fits kind (set % 2 ^ suc n) room ≡ false → e ≤ n
      below_top n e h k t = elim (tested (eqb e (suc n))) [
        | passed i ↦
            let l : room < set_length kind (set % 2 ^ suc n) = leb_lt (set_length kind (set % 2 ^ suc n)) room t in
            let m : set_length kind (set % 2 ^ suc n) ≤ room = rw (eqb_eq e (suc n) i) at k in absurd (omega arith)
        | failed i ↦ let d : e ≡ suc n → ⊥ = eqb_ne e (suc n) i in omega arith
      ]

  -- the groups below a bit fit, and with the bit's group they do not: the run ends there
  pub run_stops : (b : ℕ) → b < 15 → set_length kind (set % 2 ^ b) ≤ room → room < set_length kind (set % 2 ^ (b + 1)) → set % 2 ^ b ≡ run kind room set
  run_stops b h k l =
      let low : b ≤ longest kind set room 15 = longest_ge 15 b (omega arith) k in
      let e : longest kind set room 15 ≡ b = elim (tested (leb (b + 1) (longest kind set room 15))) [
        | passed t ↦
            let above : b + 1 ≤ longest kind set room 15 = leb_le (b + 1) (longest kind set room 15) t in
            let d : ℕ = longest kind set room 15 - (b + 1) in
            let i : d + (b + 1) ≡ longest kind set room 15 = omega arith in
            let m : set_length kind (set % 2 ^ (b + 1)) ≤ set_length kind (set % 2 ^ longest kind set room 15) = rw i at (length_mono kind set (b + 1) d) in
            let f : set_length kind (set % 2 ^ longest kind set room 15) ≤ room = longest_fits 15 in absurd (omega arith)
        | failed t ↦ let under : longest kind set room 15 < b + 1 = leb_lt (b + 1) (longest kind set room 15) t in omega arith
      ] in
      rw e

  -- all groups fit: the run is all of them
  pub run_whole : set_length kind (set % 2 ^ 15) ≤ room → set % 2 ^ 15 ≡ run kind room set
  run_whole k =
      let a : 15 ≤ longest kind set room 15 = longest_ge 15 15 (omega arith) k in
      let b : longest kind set room 15 ≤ 15 = longest_le 15 in
      let e : longest kind set room 15 ≡ 15 = omega arith in
      rw e
