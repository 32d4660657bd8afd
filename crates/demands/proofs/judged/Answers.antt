-- `judged` meets its contract: what the splitter refuses is refused, and anything else comes back. Assumes nothing.
use mathlib.Core.Path.{◌≡◌, sym, ap, ◌∙◌}
use Rattle.std.proofs.Common.{rules}
use Rattle.record.specs.Answer.{refused, meant}
use Rattle.record.specs.Refusal.{number_of}
use Rattle.demands.proofs.FirstPart.{if_given, if_refused}
use Rattle.demands.proofs.judged.Goals as goal

pub collected-requires : goal.collected-requires
collected-requires c = let a = c.args in
    let g = if_given a.«record» a.payload _ (sym c.split.ensures.result_value ∙ ap meant c.in_ok-split.was) in (g.0, g.1, c.requires)

pub returns-in_err-split : goal.returns-in_err-split
returns-in_err-split c = let a = c.args in
    let e : meant c.from_residual.result ≡ refused (number_of c.in_err-split.field-0.0) = search rules in
    e ∙ sym (if_refused a.«record» a.payload _ (sym c.split.ensures.result_value ∙ ap meant c.in_err-split.was))

pub returns : goal.returns
returns c = let a = c.args in
    c.collected.ensures ∙ sym (if_given a.«record» a.payload _ (sym c.split.ensures.result_value ∙ ap meant c.in_ok-split.was)).2
