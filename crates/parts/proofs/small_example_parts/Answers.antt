use Rattle.parts.proofs.Example.{example_parts}
use Rattle.parts.proofs.small_example_parts.Goals as goal

pub returns : goal.returns
returns c = example_parts
