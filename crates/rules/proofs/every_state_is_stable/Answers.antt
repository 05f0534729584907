use Rattle.rules.proofs.Law.{came_stable}
use Rattle.rules.proofs.every_state_is_stable.Goals as goal

pub returns : goal.returns
returns c = came_stable
