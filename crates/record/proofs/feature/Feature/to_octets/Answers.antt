-- `to_octets` meets its contract: two runs of four octets fill the eight. Assumes nothing.
use Rattle.record.specs.Octets.{spelled}
use mathlib.Core.Path.{refl}
use Rattle.record.proofs.OctetLaws.{length_spelled, placed_full}
use Rattle.record.proofs.feature.Feature.to_octets.Goals as goal

pub returns : goal.returns
returns c = rw (c.put_number-2.ensures, c.put_number.ensures)
    (placed_full _ (spelled 4 _) (spelled 4 _) 4 4 (length_spelled 4 _) (length_spelled 4 _) refl)
