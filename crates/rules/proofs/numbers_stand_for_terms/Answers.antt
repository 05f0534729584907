use Rattle.rules.proofs.Law.{numbers_stand}
use Rattle.rules.proofs.numbers_stand_for_terms.Goals as goal

pub returns : goal.returns
returns c = numbers_stand
