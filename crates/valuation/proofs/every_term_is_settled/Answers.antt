use Rattle.valuation.proofs.States.{terms_settled}
use Rattle.valuation.proofs.every_term_is_settled.Goals as goal

pub returns : goal.returns
returns c = terms_settled
