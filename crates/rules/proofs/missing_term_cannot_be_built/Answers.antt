use Rattle.rules.proofs.Law.{missing_is_named}
use Rattle.rules.proofs.missing_term_cannot_be_built.Goals as goal

pub returns : goal.returns
returns c = missing_is_named
