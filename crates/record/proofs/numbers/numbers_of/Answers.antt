-- `numbers_of` meets its contract: the signed numbers by their bits. Assumes nothing.
use mathlib.Core.Path.{◌∙◌}
use mathlib.Core.List.{[], ◌∷◌}
use borrow.Author.Rules.{rules}
use Rattle.record.proofs.Records.{back}
use Rattle.record.proofs.numbers.numbers_of.Goals as goal

pub returns : goal.returns
returns c =
    let r = c.args.r in
    λ i.
    r.speed ∷
    r.climb.floors ∷
    r.climb.steps ∷
    r.stroke.rate ∷
    r.stroke.count ∷
    r.average_speed ∷
    r.distance ∷
    (c.unsigned.ensures ∙ back r.slope.inclination.0 (search rules)) i ∷
    (c.unsigned-2.ensures ∙ back r.slope.ramp_angle.0 (search rules)) i ∷
    r.gain.positive ∷
    r.gain.negative ∷
    r.pace ∷
    r.average_pace ∷
    r.energy.total ∷
    r.energy.per_hour ∷
    r.energy.per_minute ∷
    r.heart_rate ∷
    r.metabolic_equivalent ∷
    r.elapsed ∷
    r.remaining ∷
    (c.unsigned-3.ensures ∙ back r.force.belt (search rules)) i ∷
    (c.unsigned-4.ensures ∙ back r.force.power_output (search rules)) i ∷
    r.step_rates.rate ∷
    r.step_rates.average ∷
    r.stride_count ∷
    (c.unsigned-5.ensures ∙ back r.resistance (search rules)) i ∷
    (c.unsigned-6.ensures ∙ back r.power (search rules)) i ∷
    (c.unsigned-7.ensures ∙ back r.average_power (search rules)) i ∷
    r.average_stroke_rate ∷
    r.cadence ∷
    r.average_cadence ∷ []
