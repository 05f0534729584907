use Rattle.rules.proofs.Theorems.{sending_gains}
use Rattle.rules.proofs.sending_covers_and_is_sound.Goals as goal

pub returns : goal.returns
returns c = sending_gains
