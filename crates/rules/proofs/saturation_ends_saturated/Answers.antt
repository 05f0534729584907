use Rattle.rules.proofs.Theorems.{saturation_ends_saturated_lem}
use Rattle.rules.proofs.saturation_ends_saturated.Goals as goal

pub returns : goal.returns
returns c = saturation_ends_saturated_lem
