use Rattle.rules.proofs.Keeps.{calls_only_add_lem}
use Rattle.rules.proofs.calls_only_add.Goals as goal

pub returns : goal.returns
returns c = calls_only_add_lem
