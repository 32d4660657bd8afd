-- `kind_name` meets its contract, kind by kind. Assumes nothing.
use Prim.Native.Nat.{ℕ, zero, suc}
use mathlib.Core.Path.{◌≡◌, refl}
use native.Mathlib.Omega.{arith}
use lib.ListN.{get_or-eq_default}
use Rattle.record.proofs.Arms.{NoneOf, past}
use Rattle.reference.specs.Tables.{kind_words, kind_word}
use Rattle.reference.proofs.tables.kind_name.Goals as goal

no_kind : (kind : ℕ) → NoneOf 1 6 kind → kind_word kind ≡ ""
unfolding kind_word
no_kind zero t = refl
no_kind (suc k) t = get_or-eq_default kind_words "" (past 1 6 (suc k) (omega arith) t)

pub returns-in-1 : goal.returns-in-1
unfolding kind_word
returns-in-1 c = rw c.in-1.is

pub returns-in-2 : goal.returns-in-2
unfolding kind_word
returns-in-2 c = rw c.in-2.is

pub returns-in-3 : goal.returns-in-3
unfolding kind_word
returns-in-3 c = rw c.in-3.is

pub returns-in-4 : goal.returns-in-4
unfolding kind_word
returns-in-4 c = rw c.in-4.is

pub returns-in-5 : goal.returns-in-5
unfolding kind_word
returns-in-5 c = rw c.in-5.is

pub returns-in-6 : goal.returns-in-6
unfolding kind_word
returns-in-6 c = rw c.in-6.is

pub returns-in_default : goal.returns-in_default
unfolding kind_word
returns-in_default c = rw (no_kind _ c.in_default.in_default-own.rest)
