use Rattle.rules.proofs.Theorems.{composing_makes}
use Rattle.rules.proofs.composing_holds_the_term.Goals as goal

pub returns : goal.returns
returns c = composing_makes
