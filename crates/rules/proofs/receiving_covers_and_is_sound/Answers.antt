use Rattle.rules.proofs.Theorems.{receiving_gains}
use Rattle.rules.proofs.receiving_covers_and_is_sound.Goals as goal

pub returns : goal.returns
returns c = receiving_gains
