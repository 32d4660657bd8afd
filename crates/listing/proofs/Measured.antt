-- Two passes: a text is measured, and then written if it fits. Assumes nothing.
use Prim.Native.Nat.{ℕ, ◌≤◌, ◌<◌, min}
use mathlib.Core.Path.{◌≡◌, ap, ◌∙◌}
use mathlib.Core.List.{List, ◌++◌}
use native.Mathlib.Nat.{zero-add}
use native.Mathlib.Omega.{arith}
use borrow.Author.Tests.{le-leb, lt-leb}
use lib.ListN.{length, drop}
use Rattle.record.specs.Answer.{Answer, refused, given}
use Rattle.listing.specs.Listing.{answer_of, lent_after}
use Rattle.text.specs.declared.text.Sheet.{Sheet}
use Rattle.text.specs.Sheet.{Put}
use Rattle.text.specs.Text.{Wrote, top}
use Rattle.text.proofs.Writing.{roomy}

module _ (out text : List ℕ) (n : ℕ) (measured : n ≡ min (length text) top) where
  pub too_short : length out < n → (◌≡◌ {A = Answer ℕ} (refused 14) (answer_of text (length out))) × (out ≡ lent_after text out)
  unfolding answer_of
  too_short h =
      let k : length out < length text = omega (arith, measured) in
      (rw (lt-leb (length text) (length out) k), rw (lt-leb (length text) (length out) k))

  pub roomy_enough : {s s' : Sheet} → s.out.now ≡ out → s.at ≡ 0 → length out < top → n ≤ length out → Put s text s'
      → (given n ≡ answer_of text (length out)) × (s'.out.now ≡ lent_after text out)
  unfolding answer_of
  roomy_enough {s' = s'} o a small h p =
      let q : Wrote out 0 text s'.out.now s'.at = rw (o, a) at p.wrote in
      let k : length text ≤ length out = omega (arith, measured) in
      let z : n ≡ length text = omega (arith, measured) in (
        rw (le-leb (length text) (length out) k, z),
        rw (le-leb (length text) (length out) k)
            (q.octets ∙ roomy out 0 text (omega arith) ∙ ap (λ (i : ℕ). text ++ drop i out) (zero-add (length text))),
      )
