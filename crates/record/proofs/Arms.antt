-- What the last arm of a `match` on a number knows: it is none of the numbers of the arms before.
use Prim.Native.Nat.{ℕ, zero, suc, ◌+◌, ◌≤◌}
use mathlib.Core.Path.{◌≡◌, refl}
use mathlib.Core.List.{[]}
use native.Mathlib.Omega.{arith}
use lib.ListN.{get_or-eq_default}
use Rattle.record.specs.Layout.{tables, layout}

-- x is none of the n numbers from `first` on
abbrev pub NoneOf : ℕ → ℕ → ℕ → Type 0
NoneOf first zero x = Unit {0}
NoneOf first (suc n) x = NoneOf first n x × (x ≡ first + n → ⊥)

-- then, if it is not below them, it is above them
pub past : (first n x : ℕ) → first ≤ x → NoneOf first n x → first + n ≤ x
past first zero x h t = omega arith
past first (suc n) x h t =
    let l : first + n ≤ x = past first n x h t.0 in
    let d : x ≡ first + n → ⊥ = t.1 in omega arith

-- an unknown kind has no rows
pub no_kind : (kind : ℕ) → NoneOf 1 6 kind → layout kind ≡ []
unfolding layout tables
no_kind zero t = refl
no_kind (suc k) t = get_or-eq_default tables [] (past 1 6 (suc k) (omega arith) t)
