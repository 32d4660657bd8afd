-- A record and a payload, judged by the splitter: what it refuses does not come back, and what it splits is well formed and in range.
use Prim.Native.Nat.{ℕ}
use mathlib.Core.Path.{◌≡◌, sym, ap, ◌∙◌}
use mathlib.Core.Bool.{true}
use native.Mathlib.Omega.{arith}
use Rattle.record.specs.declared.record.Record.{Record}
use Rattle.record.specs.declared.split.Extent.{Extent}
use Rattle.record.specs.Answer.{refused, given}
use Rattle.record.specs.Groups.{known}
use Rattle.record.specs.Record.{well_formed}
use Rattle.record.specs.Split.{payload_known, split_wire, split_of}
use Rattle.record.proofs.Again.{record_parts}
use Rattle.record.proofs.Once.{number_same, never}
use Rattle.record.proofs.Tests.{passed, failed, tested}
use Rattle.demands.specs.Back.{back_of}
use Rattle.demands.proofs.Pieces.{answered}

module _ (r : Record) (payload : ℕ) where
  -- the splitter's first part with 512 octets lent, and what comes back, as the three tests decide
  pub data Judged : Type 0 where
    refusing : (n : ℕ) → split_of r payload 0 512 ≡ refused n → back_of r payload ≡ refused n → Judged
    splitting : well_formed r ≡ true → payload_known payload ≡ true → (e : Extent) → split_of r payload 0 512 ≡ given e → back_of r payload ≡ given r → Judged

  pub judged : Judged
  unfolding split_wire
  judged = elim (tested (known r.kind)) [
    | failed k ↦ refusing 11 (rw k) (rw k)
    | passed k ↦ elim (tested (payload_known payload)) [
      | failed p ↦ refusing 12 (rw (k, p)) (rw (k, p))
      | passed p ↦ elim (tested (well_formed r)) [
        | failed w ↦ refusing 13 (rw (k, p, w)) (rw (k, p, w))
        | passed w ↦ splitting w p _ (answered r w payload p 0 512 (record_parts r w payload p).some (omega arith)) (rw (k, p, w))
      ]
    ]
  ]

  -- if the splitter answers with a part, the record is well formed and the payload in range, and the record comes back
  pub if_given : (e : Extent) → split_of r payload 0 512 ≡ given e → (well_formed r ≡ true) × (payload_known payload ≡ true) × (back_of r payload ≡ given r)
  if_given e h = elim judged [
    | refusing n f b ↦ absurd (never e n (sym h ∙ f))
    | splitting w p x f b ↦ (w, p, b)
  ]

  -- if it refuses, that refusal is what comes back
  pub if_refused : (n : ℕ) → split_of r payload 0 512 ≡ refused n → back_of r payload ≡ refused n
  if_refused n h = elim judged [
    | refusing m f b ↦ b ∙ ap refused (number_same m n (sym f ∙ h))
    | splitting w p x f b ↦ absurd (never x n (sym f ∙ h))
  ]
