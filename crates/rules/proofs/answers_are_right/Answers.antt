use Rattle.rules.proofs.Law.{answers_are_right_lem}
use Rattle.rules.proofs.answers_are_right.Goals as goal

pub returns : goal.returns
returns c = answers_are_right_lem
