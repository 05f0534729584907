use Rattle.rules.proofs.Theorems.{knowing_gains}
use Rattle.rules.proofs.knowledge_covers_and_is_sound.Goals as goal

pub returns : goal.returns
returns c = knowing_gains
