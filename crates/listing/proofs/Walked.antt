-- The steps of a walk together: each leaves fewer to take, and all of them give the listing. Assumes nothing.
use Prim.Native.Nat.{ℕ, zero, suc, ◌+◌, ◌-◌, ◌≤◌, ◌<◌}
use mathlib.Core.Path.{◌≡◌, refl, sym, ap, ◌∙◌}
use mathlib.Core.Bool.{Bool, true, false, cond}
use mathlib.Core.List.{List, [], ◌∷◌, ◌++◌, append-nil}
use native.Mathlib.Decide.{dec_le, dec_lt}
use native.Mathlib.Omega.{arith}
use borrow.Author.Tests.{lt-ltb, le-ltb, eq-eqb, ne_eqb}
use lib.Dec.{eqb}
use lib.ListN.{length, drop, get_or, length-drop}
use lib.Seq.{drop-drop}
use Rattle.record.specs.Groups.{known}
use Rattle.record.specs.Octets.{number}
use Rattle.listing.specs.declared.walk.Listing.{Listing}
use Rattle.listing.specs.declared.walk.Walk.{Walk}
use Rattle.listing.specs.Lines.{refused_line}
use Rattle.listing.specs.Listing.{begins, lines_of, state_after, first, notifications, from_kind, listing}
use Rattle.listing.specs.Steps.{ends, goes_on, step, steps, beginning}
use Rattle.listing.proofs.Steps as one

-- the listing of nothing, of a capture that ends inside a length or notification, and of one more notification
module _ (k : ℕ) (l : Listing) (s : List ℕ) where
  cut_short : 0 < length s → length s < 2 + number 2 s → notifications (suc k) l s ≡ refused_line 37
  unfolding notifications
  cut_short h e =
      let n : length s ≡ 0 → ⊥ = λ z. omega arith in
      rw (ne_eqb (length s) 0 n, lt-ltb (length s) (2 + number 2 s) e)

  one_more : 0 < length s → 2 + number 2 s ≤ length s
      → notifications (suc k) l s ≡ lines_of l (first s) ++ notifications k (state_after l (first s)) (drop (2 + number 2 s) s)
  unfolding notifications
  one_more h e =
      let n : length s ≡ 0 → ⊥ = λ z. omega arith in
      rw (ne_eqb (length s) 0 n, le-ltb (length s) (2 + number 2 s) e)

no_more : (k : ℕ) (l : Listing) (s : List ℕ) → length s ≡ 0 → notifications k l s ≡ []
unfolding notifications
no_more zero l s h = refl
no_more (suc k) l s h = rw (eq-eqb (length s) 0 h)

-- with at least as much fuel as there are octets, the fuel does not matter
fuel : (k m : ℕ) (l : Listing) (s : List ℕ) → length s ≤ k → length s ≤ m → notifications k l s ≡ notifications m l s
fuel zero m l s h g = no_more zero l s (omega arith) ∙ sym (no_more m l s (omega arith))
fuel (suc k) zero l s h g = no_more (suc k) l s (omega arith) ∙ sym (no_more zero l s (omega arith))
fuel (suc k) (suc m) l s h g = elim (dec_lt 0 (length s)) [
  | no p ↦ no_more (suc k) l s (omega arith) ∙ sym (no_more (suc m) l s (omega arith))
  | yes p ↦ elim (dec_lt (length s) (2 + number 2 s)) [
    | yes q ↦ cut_short k l s p q ∙ sym (cut_short m l s p q)
    | no q ↦
        let b : 2 + number 2 s ≤ length s = omega arith in
        let n = 2 + number 2 s in
        let e : notifications k (state_after l (first s)) (drop n s) ≡ notifications m (state_after l (first s)) (drop n s) =
        fuel k m (state_after l (first s)) (drop n s) (omega (arith, length-drop n s)) (omega (arith, length-drop n s)) in
        one_more k l s p b ∙ ap (λ (t : List ℕ). lines_of l (first s) ++ t) e ∙ sym (one_more m l s p b)
  ]
]

-- the lines that a walk has yet to write
abbrev pub left_of : Walk → List ℕ → List ℕ
left_of w s =
    cond w.ended [] (cond (eqb w.position 0) (listing s) (notifications (length s) w.listing (drop w.position s)))

-- how many steps a walk has yet to take, at most
abbrev pub remaining : Walk → List ℕ → ℕ
remaining w s = cond w.ended 0 (suc (length s - w.position))

-- what a step does if the walk has not ended: it writes all that is left, or goes on after its lines
data Stepping (w : Walk) (s : List ℕ) : Type 0 where
  stops : (text : List ℕ) → step w s ≡ ends w text → left_of w s ≡ text → Stepping w s
  goes : (text : List ℕ) (l : Listing) (i : ℕ) → step w s ≡ goes_on text l i → w.position < i → i ≤ length s
      → left_of w s ≡ text ++ notifications (length s) l (drop i s) → Stepping w s

-- the listing at its beginning: 36, then 11, then the kind
long_listing : (s : List ℕ) → 65536 < length s → listing s ≡ refused_line 36
unfolding listing
long_listing s h = rw (lt-ltb 65536 (length s) h)

kindless_listing : (s : List ℕ) → length s ≤ 65536 → known (get_or s 0 0) ≡ false → listing s ≡ refused_line 11
unfolding listing from_kind
kindless_listing [] h e = refl
kindless_listing (x ∷ s) h e = rw (le-ltb 65536 (length (x ∷ s)) h, e)

kind_listing : (s : List ℕ) → length s ≤ 65536 → 0 < length s → known (get_or s 0 0) ≡ true
    → listing s ≡ notifications (length (drop 1 s)) (begins (get_or s 0 0)) (drop 1 s)
unfolding listing from_kind
kind_listing [] h n e = absurd (omega arith)
kind_listing (x ∷ s) h n e = rw (le-ltb 65536 (length (x ∷ s)) h, e)

some_octet : (s : List ℕ) → known (get_or s 0 0) ≡ true → 0 < length s
some_octet [] e = let z : ◌≡◌ {A = ℕ} 0 1 = cc in absurd (omega arith)
some_octet (x ∷ s) e = omega arith

module _ (w : Walk) (s : List ℕ) (e : w.ended ≡ false) where
  module _ (z : w.position ≡ 0) where
    listing_left : left_of w s ≡ listing s
    listing_left = rw (e, eq-eqb w.position 0 z)

    judged : length s ≤ 65536 → (b : Bool) → known (get_or s 0 0) ≡ b → Stepping w s
    judged h false k = stops (refused_line 11) (one.at_first w s e z ∙ one.no_kind w s h k) (listing_left ∙ kindless_listing s h k)
    judged h true k =
        let l = begins (get_or s 0 0) in
        let p : 0 < length s = some_octet s k in
        let f : notifications (length (drop 1 s)) l (drop 1 s) ≡ notifications (length s) l (drop 1 s) =
        fuel (length (drop 1 s)) (length s) l (drop 1 s) (omega arith) (omega (arith, length-drop 1 s)) in
        goes [] l 1 (one.at_first w s e z ∙ one.of_a_kind w s h k) (omega arith) p (listing_left ∙ kind_listing s h p k ∙ f)

    first_step : Stepping w s
    first_step = elim (dec_lt 65536 (length s)) [
      | yes p ↦ stops (refused_line 36) (one.at_first w s e z ∙ one.too_long w s p) (listing_left ∙ long_listing s p)
      | no p ↦ judged (omega arith) (known (get_or s 0 0)) refl
    ]

  module _ (n : w.position ≡ 0 → ⊥) where
    all_left : left_of w s ≡ notifications (length s) w.listing (drop w.position s)
    all_left = rw (e, ne_eqb w.position 0 n)

    -- with fuel for one notification more
    fuelled : (k : ℕ) → length s ≡ suc k → w.position < length s → Stepping w s
    fuelled k f h =
        let r = drop w.position s in
        let d = length-drop w.position s in
        let p : 0 < length r = omega (arith, d) in
        let a : left_of w s ≡ notifications (suc k) w.listing r = all_left ∙ ap (λ (m : ℕ). notifications m w.listing r) f in
        elim (dec_lt (length r) (2 + number 2 r)) [
          | yes q ↦ stops (refused_line 37) (one.behind_kind w s e n ∙ one.cut_short w r p q) (a ∙ cut_short k w.listing r p q)
          | no q ↦
              let m = 2 + number 2 r in
              let b : m ≤ length r = omega arith in
              let l = state_after w.listing (first r) in
              let t : drop m r ≡ drop (w.position + m) s = drop-drop m w.position s in
              let g : notifications k l (drop (w.position + m) s) ≡ notifications (length s) l (drop (w.position + m) s) =
              fuel k (length s) l (drop (w.position + m) s) (omega (arith, d, length-drop (w.position + m) s)) (omega (arith, length-drop (w.position + m) s)) in
              goes (lines_of w.listing (first r)) l (w.position + m) (one.behind_kind w s e n ∙ one.one_more w r p b) (omega arith) (omega (arith, d))
              (a ∙ one_more k w.listing r p b ∙ ap (λ (x : List ℕ). lines_of w.listing (first r) ++ x) (ap (notifications k l) t ∙ g))
        ]

    next_step : Stepping w s
    next_step = elim (dec_lt w.position (length s)) [
      | yes h ↦ fuelled (length s - 1) (omega arith) h
      | no h ↦
          let z : length (drop w.position s) ≡ 0 = omega (arith, length-drop w.position s) in
          stops [] (one.behind_kind w s e n ∙ one.no_more w (drop w.position s) z)
          (all_left ∙ no_more (length s) w.listing (drop w.position s) z)
    ]

  stepping : Stepping w s
  stepping = elim (dec_le 1 w.position) [
    | yes h ↦ next_step (λ z. omega arith)
    | no h ↦ first_step (omega arith)
  ]

  -- a walk's lines are those of its step, and then those that are left after it
  written_on : Stepping w s → left_of w s ≡ (step w s).lines ++ left_of (step w s).walk s
  written_on (stops text q t) = rw q (t ∙ sym (append-nil text))
  written_on (goes text l i q h k t) =
      let n : i ≡ 0 → ⊥ = λ z. omega arith in
      rw (q, ne_eqb i 0 n) t

  fewer : Stepping w s → remaining (step w s).walk s < remaining w s
  fewer (stops text q t) = rw (q, e) (omega arith)
  fewer (goes text l i q h k t) = rw (q, e) (omega arith)

  pub falls : remaining (step w s).walk s < remaining w s
  falls = fewer stepping

pub done : (w : Walk) (s : List ℕ) → w.ended ≡ true → left_of w s ≡ []
done w s e = rw e

-- THE LAW: what a walk has yet to write is its step's lines, and then what the walk after the step has yet to write
pub one_step : (w : Walk) (s : List ℕ) → left_of w s ≡ (step w s).lines ++ left_of (step w s).walk s
one_step w s = by_end w.ended refl
  where
    by_end : (b : Bool) → w.ended ≡ b → left_of w s ≡ (step w s).lines ++ left_of (step w s).walk s
    by_end true e = rw (one.over w s e) (done w s e)
    by_end false e = written_on w s e (stepping w s e)

lasts : (w : Walk) (s : List ℕ) (n : ℕ) → remaining w s ≤ suc n → remaining (step w s).walk s ≤ n
lasts w s n h = by_end w.ended refl
  where
    by_end : (b : Bool) → w.ended ≡ b → remaining (step w s).walk s ≤ n
    by_end true e = rw (one.over w s e) (omega arith)
    by_end false e = omega (arith, falls w s e)

ended : (w : Walk) (s : List ℕ) → remaining w s ≤ 0 → left_of w s ≡ []
ended w s h = by_end w.ended refl
  where
    by_end : (b : Bool) → w.ended ≡ b → left_of w s ≡ []
    by_end true e = done w s e
    by_end false e = absurd (let k : suc (length s - w.position) ≤ 0 = rw e at h in omega arith)

-- enough steps write all that a walk has yet to write
all_steps : (n : ℕ) (w : Walk) (s : List ℕ) → remaining w s ≤ n → steps n w s ≡ left_of w s
unfolding steps
all_steps zero w s h = sym (ended w s h)
all_steps (suc n) w s h =
    ap (λ (x : List ℕ). (step w s).lines ++ x) (all_steps n (step w s).walk s (lasts w s n h)) ∙ sym (one_step w s)

-- the steps of a capture give its listing
pub steps_list : (capture : List ℕ) (n : ℕ) → length capture < n → steps n beginning capture ≡ listing capture
steps_list capture n h = all_steps n beginning capture (omega arith)
