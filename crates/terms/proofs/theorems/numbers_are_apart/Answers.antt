use Rattle.terms.specs.Listed.{listed}
use Rattle.terms.proofs.Listed.{orderly}
use Rattle.terms.proofs.Trees.{numbers_apart}
use Rattle.terms.proofs.theorems.numbers_are_apart.Goals as goal

pub returns : goal.returns
returns g c = numbers_apart (listed c.args.terms.now) (orderly c.args.terms.now)
