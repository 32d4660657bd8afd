-- The laws of a step, case by case, as the code takes it. Assumes nothing.
use Prim.Native.Nat.{ℕ, ◌+◌, ◌-◌, ◌≤◌, ◌<◌}
use mathlib.Core.Path.{◌≡◌, refl}
use mathlib.Core.Bool.{true, false}
use mathlib.Core.List.{List, [], ◌∷◌}
use native.Mathlib.Omega.{arith}
use borrow.Author.Tests.{lt-ltb, le-ltb, eq-eqb, ne_eqb}
use lib.ListN.{length, take, drop, get_or, length-drop}
use lib.Seq.{drop-drop}
use Rattle.record.specs.Groups.{known}
use Rattle.record.specs.Octets.{number}
use Rattle.text.specs.declared.text.Sheet.{Sheet}
use Rattle.text.specs.Sheet.{Put}
use Rattle.text.specs.Text.{top}
use Rattle.text.proofs.Writing.{put_nothing}
use Rattle.listing.specs.declared.walk.Listing.{Listing}
use Rattle.listing.specs.declared.walk.Walk.{Walk}
use Rattle.listing.specs.Lines.{refused_line, longest}
use Rattle.listing.specs.Listing.{begins, lines_of, state_after, first}
use Rattle.listing.specs.Steps.{ends, goes_on, at_kind, at_beginning, at_notification, step, Took}

-- "36, then 11, are judged first"
module _ (w : Walk) where
  pub too_long : (s : List ℕ) → 65536 < length s → at_beginning w s ≡ ends w (refused_line 36)
  unfolding at_beginning
  too_long s h = rw (lt-ltb 65536 (length s) h)

  pub no_kind : (s : List ℕ) → length s ≤ 65536 → known (get_or s 0 0) ≡ false → at_beginning w s ≡ ends w (refused_line 11)
  unfolding at_beginning at_kind
  no_kind [] h e = refl
  no_kind (x ∷ s) h e = rw (le-ltb 65536 (length (x ∷ s)) h, e)

  pub of_a_kind : (s : List ℕ) → length s ≤ 65536 → known (get_or s 0 0) ≡ true → at_beginning w s ≡ goes_on [] (begins (get_or s 0 0)) 1
  unfolding at_beginning at_kind
  of_a_kind [] h e = let z : ◌≡◌ {A = ℕ} 0 1 = cc in absurd (omega arith)
  of_a_kind (x ∷ s) h e = rw (le-ltb 65536 (length (x ∷ s)) h, e)

-- nothing is left of the capture; it ends inside a length or notification; there is one more notification
module _ (w : Walk) (s : List ℕ) where
  pub no_more : length s ≡ 0 → at_notification w s ≡ ends w []
  unfolding at_notification
  no_more h = rw (eq-eqb (length s) 0 h)

  pub cut_short : 0 < length s → length s < 2 + number 2 s → at_notification w s ≡ ends w (refused_line 37)
  unfolding at_notification
  cut_short h e =
      let n : length s ≡ 0 → ⊥ = λ z. omega arith in
      rw (ne_eqb (length s) 0 n, lt-ltb (length s) (2 + number 2 s) e)

  pub one_more : 0 < length s → 2 + number 2 s ≤ length s
      → at_notification w s ≡ goes_on (lines_of w.listing (first s)) (state_after w.listing (first s)) (w.position + (2 + number 2 s))
  unfolding at_notification
  one_more h e =
      let n : length s ≡ 0 → ⊥ = λ z. omega arith in
      rw (ne_eqb (length s) 0 n, le-ltb (length s) (2 + number 2 s) e)

-- a walk that has ended, one that has yet to begin, and one past the kind
module _ (w : Walk) (s : List ℕ) where
  pub over : w.ended ≡ true → step w s ≡ ends w []
  unfolding step
  over e = rw e

  pub at_first : w.ended ≡ false → w.position ≡ 0 → step w s ≡ at_beginning w s
  unfolding step
  at_first e h = rw (e, eq-eqb w.position 0 h)

  pub behind_kind : w.ended ≡ false → (w.position ≡ 0 → ⊥) → step w s ≡ at_notification w (drop w.position s)
  unfolding step
  behind_kind e h = rw (e, ne_eqb w.position 0 h)

-- a step with no lines that ends
pub stopped : (w : Walk) (s : Sheet) {r : Walk} → length s.out.now ≤ top → r ≡ (ends w []).walk → Took s (ends w []) s r
stopped w s h e = record { lines = put_nothing s h; walk = e; room = omega arith }

-- a step with no lines that goes on after the kind
pub begun : (kind : ℕ) (s : Sheet) {l : Listing} → length s.out.now ≤ top → l ≡ begins kind
    → Took s (goes_on [] (begins kind) 1) s (record { listing = l; position = 1; ended = false })
begun kind s h e = record { lines = put_nothing s h; walk = λ i. record { listing = e i; position = 1; ended = false }; room = omega arith }

-- the octets of the notification at a position, as the code takes them
abbrev octets_at : List ℕ → ℕ → ℕ → List ℕ
octets_at s i size = take (i + 2 + size - (i + 2)) (drop (i + 2) s)

module _ (w : Walk) (s : List ℕ) (size : ℕ) (e : size ≡ number 2 (drop w.position s)) (h : w.position < length s) where
  some : 0 < length (drop w.position s)
  some = omega (arith, length-drop w.position s)

  taken : first (drop w.position s) ≡ octets_at s w.position size
  taken =
      let n : w.position + 2 + size - (w.position + 2) ≡ size = omega arith in
      rw (n, ← e, drop-drop 2 w.position s)

  pub breaks : length s - w.position < 2 + size → at_notification w (drop w.position s) ≡ ends w (refused_line 37)
  breaks g = cut_short w (drop w.position s) some (omega (arith, length-drop w.position s))

  pub moves : {t t' : Sheet} {l : Listing} → 2 + size ≤ length s - w.position
      → Put t (lines_of w.listing (octets_at s w.position size)) t'
      → l ≡ state_after w.listing (octets_at s w.position size)
      → length (lines_of w.listing (octets_at s w.position size)) ≤ longest
      → Took t (at_notification w (drop w.position s)) t' (record { listing = l; position = w.position + 2 + size; ended = false })
  moves g q n k =
      let p : w.position + 2 + size ≡ w.position + (2 + number 2 (drop w.position s)) = omega arith in
      rw (one_more w (drop w.position s) some (omega (arith, length-drop w.position s)), taken)
      (record { lines = q; walk = λ i. record { listing = n i; position = p i; ended = false }; room = k })
