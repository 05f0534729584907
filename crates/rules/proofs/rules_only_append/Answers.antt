use Rattle.rules.proofs.Begins.{rules_only_append_lem}
use Rattle.rules.proofs.rules_only_append.Goals as goal

pub returns : goal.returns
returns c = rules_only_append_lem
