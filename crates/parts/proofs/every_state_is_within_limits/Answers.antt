use Rattle.parts.proofs.Limits.{states_within_limits}
use Rattle.parts.proofs.every_state_is_within_limits.Goals as goal

pub returns : goal.returns
returns c = states_within_limits
