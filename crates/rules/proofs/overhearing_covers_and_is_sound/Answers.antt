use Rattle.rules.proofs.Theorems.{overhearing_gains}
use Rattle.rules.proofs.overhearing_covers_and_is_sound.Goals as goal

pub returns : goal.returns
returns c = overhearing_gains
