-- `deliver` meets its contract: the lent buffer holds the part, and the collection gets that. Assumes nothing.
use Prim.Native.Nat.{◌≤◌}
use mathlib.Core.Path.{ap, ◌∙◌}
use native.Mathlib.Omega.{arith}
use lib.ListN.{length, take, length-take}
use Rattle.service.specs.Collector.{Stepped, collect}
use Rattle.demands.proofs.Pieces.{split_ok, split_fits, split_piece}
use Rattle.demands.proofs.deliver.Goals as goal

pub unwrap-extent-requires : goal.unwrap-extent-requires
unwrap-extent-requires c = let a = c.args in
    split_ok a.«record» c.requires.0 a.payload c.requires.1 a.part c.requires.2 c.split.result c.split.ensures.result_value

pub slice_bounds-out-end : goal.slice_bounds-out-end
slice_bounds-out-end c = let a = c.args in
    split_fits a.«record» c.requires.0 a.payload c.requires.1 a.part c.requires.2 c.split.result c.split.ensures.result_value
    c.unwrap-extent.result c.split.new.out c.unwrap-extent.ensures (omega (arith, c.split.auto.out))

pub slice_bounds-collect-end : goal.slice_bounds-collect-end
slice_bounds-collect-end c = let a = c.args in
    let l = c.split.new.out in
    let h : c.unwrap-extent.result.length ≤ length l =
    split_fits a.«record» c.requires.0 a.payload c.requires.1 a.part c.requires.2 c.split.result c.split.ensures.result_value
    c.unwrap-extent.result l c.unwrap-extent.ensures (omega (arith, c.split.auto.out)) in
    omega (arith, length-take c.unwrap-extent.result.length l)

pub returns-clause-answer_value : goal.returns-clause-answer_value
returns-clause-answer_value c = let a = c.args in
    let n = c.unwrap-extent.result.length in
    c.collect.ensures.answer_value ∙ ap (λ (x : Stepped). x.said) (ap (collect a.collection) (ap (take n) c.split.ensures.out_after
    ∙ split_piece a.«record» c.requires.0 a.payload c.requires.1 a.part c.requires.2 c.split.result c.split.ensures.result_value c.unwrap-extent.result c.unwrap-extent.ensures))

pub returns-clause-next_value : goal.returns-clause-next_value
returns-clause-next_value c = let a = c.args in
    let n = c.unwrap-extent.result.length in
    c.collect.ensures.next_value ∙ ap (λ (x : Stepped). x.next) (ap (collect a.collection) (ap (take n) c.split.ensures.out_after
    ∙ split_piece a.«record» c.requires.0 a.payload c.requires.1 a.part c.requires.2 c.split.result c.split.ensures.result_value c.unwrap-extent.result c.unwrap-extent.ensures))
