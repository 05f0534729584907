use Rattle.parts.proofs.Granted.{steps_are_granted}
use Rattle.parts.proofs.steps_are_those_granted.Goals as goal

pub returns : goal.returns
returns c = steps_are_granted
