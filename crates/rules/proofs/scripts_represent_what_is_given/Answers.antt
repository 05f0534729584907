use Rattle.rules.proofs.Theorems.{scripts_represent}
use Rattle.rules.proofs.scripts_represent_what_is_given.Goals as goal

pub returns : goal.returns
returns c = scripts_represent
