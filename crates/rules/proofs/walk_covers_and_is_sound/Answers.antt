use Rattle.rules.proofs.Theorems.{walking_gains}
use Rattle.rules.proofs.walk_covers_and_is_sound.Goals as goal

pub returns : goal.returns
returns c = walking_gains
