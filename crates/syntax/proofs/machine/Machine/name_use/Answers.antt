use Rattle.std.proofs.Common.{◌∙◌}
use Rattle.syntax.proofs.Uses.{named_use}
use Rattle.syntax.proofs.machine.Machine.name_use.Goals as goal

pub returns : goal.returns
returns c = λ ts h g. c.name_use.ensures ∙ named_use c.args.self.now ts h g
