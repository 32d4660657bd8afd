-- Whatever meets the contract of `record::split::split` at all arguments splits as promised; and a collection is opened in the state that the
-- demands start from.
use Prim.Native.Nat.{ℕ}
use mathlib.Core.Path.{◌≡◌, refl}
use mathlib.Core.Bool.{true}
use mathlib.Core.List.{List}
use base.Fml.{GName}
use borrow.Fn.Kinds.{ended_of}
use contract.Lifetimes.{Lfts}
use denote.Triple.Clauses.{AtExit}
use borrow.Author.Tests.{le-leb}
use Rattle.record.specs.declared.record.Record.{Record}
use Rattle.std.specs.Prelude.{Result}
use Rattle.record.specs.declared.refusal.Refusal.{Refusal}
use Rattle.record.specs.declared.split.Extent.{Extent}
use Rattle.record.specs.Answer.{given, meant}
use Rattle.record.proofs.Tests.{eqb_true}
use Rattle.record.proofs.split.split.Kinds as kinds
use Rattle.record.proofs.split.split.Reads as split
use Rattle.service.proofs.collector.collect.Kinds as collect_kinds
use Rattle.service.proofs.collector.collect.Reads as collect
use Rattle.service.proofs.collector.open.Kinds as open_kinds
use Rattle.service.proofs.collector.open.Reads as opening
use Rattle.service.specs.declared.collector.Collection.{Collection}
use Rattle.service.specs.declared.collector.Opened.{Opened}
use Rattle.service.specs.declared.collector.Step.{Step}
use Rattle.service.specs.declared.collector.Told.{Told}
use Rattle.service.specs.declared.collector.Told.TheVariants.{Open, Fixed}
use Rattle.service.specs.Collector as Collector
use Rattle.service.specs.Collector.{empty, told_known, opens}
use Rattle.demands.specs.Behaviour.{SplitsAsPromised, CollectsAsPromised}
use Rattle.demands.proofs.Dropping.{Ready, ready_open, ready_fixed}
use Rattle.demands.proofs.Taken.{Sent}

-- any reply, and any state at exit, for octets that are lent at any address
module _ (κs : Lfts 1) (lend : List ℕ → (ℕ × ℕ) × GName) (reply : Record → ℕ → ℕ → List ℕ → Result Extent Refusal)
    (exit : Record → ℕ → ℕ → List ℕ → AtExit (ended_of 1 kinds.ps kinds.r) κs) where
  abbrev Meets : Type 0
  Meets =
      (r : Record) (payload i : ℕ) (out : List ℕ) →
      split.Post κs (r, (payload, (i, (record { ref_ptr = (lend out).0; ghost_name = (lend out).1; now = out }, tt)))) (reply r payload i out) (exit r payload i out)

  pub by_contract : Meets →
      SplitsAsPromised (record { answer = λ r payload i out. meant (reply r payload i out); left = λ r payload i out. (exit r payload i out).1.1.1.0.now })
  by_contract meets = record { answers = λ r payload i out. (meets r payload i out).0; leaves = λ r payload i out. (meets r payload i out).1 }

-- the same for a collector: any steps that meet the contract of `service::collector::collect`, and any openings that meet that of `open`
module _ (κs : Lfts 1) (lend : List ℕ → (ℕ × ℕ) × GName) (step : Collection → List ℕ → Step) (exit : Collection → List ℕ → AtExit (ended_of 1 collect_kinds.ps collect_kinds.r) κs)
    (begin : ℕ → Told → Opened) (end : ℕ → Told → AtExit (ended_of 0 open_kinds.ps open_kinds.r) tt) where
  pub by_contracts :
      ((c : Collection) (s : List ℕ) → collect.Post κs (c, (record { ref_ptr = (lend s).0; now = s }, tt)) (step c s) (exit c s)) →
      ((kind : ℕ) (told : Told) → opening.Post tt (kind, (told, tt)) (begin kind told) (end kind told)) →
      CollectsAsPromised (λ kind told. (begin kind told).collection) (λ c s. Collector.meant (step c s).answer) (λ c s. (step c s).next)
  by_contracts steps opens = record { opens_so = λ kind told. (opens kind told).1; says_so = λ c s. (steps c s).0; goes_on = λ c s. (steps c s).1 }

-- for a well-formed record's kind and set, opening is never refused
pub opens_empty : (r : Sent) (t : Told) → Ready r.groups t → opens r.kind t ≡ given (empty r.kind t)
unfolding opens
opens_empty r t ready = rw (le-leb 1 r.kind r.formed.kind_least, le-leb r.kind 6 r.formed.kind_greatest, told t ready)
  where
    told : (t : Told) → Ready r.groups t → told_known r.kind t ≡ true
    told Open ready_open = refl
    told (Fixed g) ready_fixed = eqb_true r.formed.listed_only
