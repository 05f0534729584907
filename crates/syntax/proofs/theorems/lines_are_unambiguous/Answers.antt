use Rattle.syntax.proofs.Unambiguous.{lines_once}
use Rattle.syntax.proofs.theorems.lines_are_unambiguous.Goals as goal

pub returns : goal.returns
returns c = lines_once
