use Rattle.rules.proofs.Theorems.{no_term_twice}
use Rattle.rules.proofs.no_term_is_held_twice.Goals as goal

pub returns : goal.returns
returns c = no_term_twice
