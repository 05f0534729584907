use Rattle.rules.proofs.Theorems.{every_call_has_one_outcome_lem}
use Rattle.rules.proofs.every_call_has_one_outcome.Goals as goal

pub returns : goal.returns
returns c = every_call_has_one_outcome_lem
