use Rattle.rules.proofs.Theorems.{finding_finds}
use Rattle.rules.proofs.finding_finds_the_lowest_slot.Goals as goal

pub returns : goal.returns
returns c = finding_finds
