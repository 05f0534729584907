use Rattle.rules.proofs.Example.{small_example_lem}
use Rattle.rules.proofs.small_example.Goals as goal

pub returns : goal.returns
returns c = small_example_lem
