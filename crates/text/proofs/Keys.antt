-- An element of a table, of what its elements refer to or are mapped to. Assumes nothing.
use Prim.Native.Nat.{ℕ, zero, suc, ◌<◌}
use denote.Bor.{Bor}
use mathlib.Core.Path.{◌≡◌, refl}
use mathlib.Core.List.{List, [], ◌∷◌, map}
use native.Mathlib.Nat.{not-suc-le-zero, le_of_suc-le-suc}
use lib.ListN.{length, get_or}

-- what an element refers to
pub referred : {A : Type 0} (l : List (Bor A)) (i : ℕ) (d : Bor A) → (get_or l i d).now ≡ get_or (map (λ (b : Bor A). b.now) l) i d.now
referred [] i d = refl
referred (x ∷ l) zero d = refl
referred (x ∷ l) (suc i) d = referred l i d

-- an element of a mapped list within its length, whatever the defaults
pub mapped : {A B : Type 0} (f : A → B) (l : List A) (i : ℕ) (d : B) (e : A) → i < length l → get_or (map f l) i d ≡ f (get_or l i e)
mapped f [] i d e h = absurd (not-suc-le-zero h)
mapped f (x ∷ l) zero d e h = refl
mapped f (x ∷ l) (suc i) d e h = mapped f l i d e (le_of_suc-le-suc h)
