use Rattle.parts.proofs.Law.{steps_wrote}
use Rattle.parts.proofs.steps_wrote_their_parts.Goals as goal

pub returns : goal.returns
returns c = steps_wrote
