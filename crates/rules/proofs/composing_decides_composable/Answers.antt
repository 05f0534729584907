use Rattle.rules.proofs.Theorems.{composing_decides}
use Rattle.rules.proofs.composing_decides_composable.Goals as goal

pub returns : goal.returns
returns c = composing_decides
