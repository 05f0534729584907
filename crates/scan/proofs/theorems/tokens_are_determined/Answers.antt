use Rattle.scan.proofs.Once.{next_once}
use Rattle.scan.proofs.theorems.tokens_are_determined.Goals as goal

pub returns : goal.returns
returns c = next_once
