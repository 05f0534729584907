use Rattle.rules.proofs.Theorems.{missing_misses}
use Rattle.rules.proofs.missing_is_not_held.Goals as goal

pub returns : goal.returns
returns c = missing_misses
