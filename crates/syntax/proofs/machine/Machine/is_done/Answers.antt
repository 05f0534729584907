use Rattle.syntax.proofs.Turns.{told}
use Rattle.syntax.proofs.machine.Machine.is_done.Goals as goal

pub returns : goal.returns
returns c = told c.args.self.now c.is_done.result c.is_done.ensures
