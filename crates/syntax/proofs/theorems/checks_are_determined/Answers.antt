use Rattle.syntax.proofs.Determined.{checks_once}
use Rattle.syntax.proofs.theorems.checks_are_determined.Goals as goal

pub returns : goal.returns
returns c = checks_once
