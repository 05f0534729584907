use Rattle.line_check.proofs.Determined.{checks_once}
use Rattle.line_check.proofs.theorems.checks_are_determined.Goals as goal

pub returns : goal.returns
returns c = checks_once
